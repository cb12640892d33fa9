-- Two labels share a column at one position of a tuple at most: 000, 4.2, "up to one storage unit from each of the surviving
-- disks in other groups". All that is asked of g is that no e with 2 ≤ e < k divides it.
use Prim.Native.Nat.{ℕ, ◌+◌, ◌-◌, ◌*◌, ◌/◌, ◌%◌, ◌<◌}
use mathlib.Core.Path.{◌≡◌, ◌∙◌, ap, refl, sym}
use mathlib.Core.Bool.{Bool, true, false}
use native.Mathlib.Nat.{mod-lt, mod-add-mod, add-mul-mod_self_right, div-add-mod', mul-add}
use native.Mathlib.Omega.{arith}
use lib.Dec.{ltb}
use borrow.Author.Tests.{ltb-true, ltb-false}
use Rattle.geometry.specs.declared.Geometry.{Geometry}
use Rattle.geometry.specs.Geometry.{Sound}
use Rattle.geometry.proofs.Multiples.{multiples_differ}
use Rattle.region.specs.Columns.{label_column, label_at}
use Rattle.region.specs.Theorems.{TwoLabelsMeetOnce}
use Rattle.region.proofs.Turns.{label_of_column}

-- turned by a and then by what a lacks of whole turns, a number is where it was
unturned : (g a x : ℕ) → 0 < g → ((x + a) % g + (g - a % g)) % g ≡ x % g
unturned g a x h =
    let low : a % g < g = mod-lt a h in
    let same : x + a + (g - a % g) ≡ x + (a / g + 1) * g = omega (arith, div-add-mod' a g) in
    mod-add-mod (x + a) g (g - a % g) ∙ ap (λ (y : ℕ). y % g) same ∙ add-mul-mod_self_right x (a / g + 1) g

-- so equal turns can be taken off
taken_off : (g a b x y : ℕ) → 0 < g → a % g ≡ b % g → (x + a) % g ≡ (y + b) % g → x % g ≡ y % g
taken_off g a b x y h p q = sym (unturned g a x h) ∙ rw (q, p) (unturned g b y h)

-- from position l to the higher position l + d a label of row i is turned by i·d more
moved : (i c l d : ℕ) → i * d + (c + i * l) ≡ c + i * (l + d)
moved i c l d = omega (arith, mul-add i l d)

module _ (G : Geometry) (s : Sound G) (i j c e : ℕ) (hi : i < G.g) (hj : j < G.g) where
  -- labels that share a column at two positions are of one row
  one_row :
      (l m : ℕ) → l < m → m < G.k → label_column G.g l i c ≡ label_column G.g l j e →
      label_column G.g m i c ≡ label_column G.g m j e → i ≡ j
  unfolding label_column
  one_row l m low high p q =
      let d : ℕ = m - l in
      let up : l + d ≡ m = omega arith in
      let same : (i * d) % G.g ≡ (j * d) % G.g =
      taken_off G.g (c + i * l) (e + j * l) (i * d) (j * d) (omega arith) p (rw (moved i c l d, moved j e l d, up) q) in
      multiples_differ G.g G.k s.divisors d (omega arith) (omega arith) i j hi hj same

-- and labels of one row that share a column are one
one_column :
    (g l i j c e : ℕ) → l < g → c < g → e < g → i ≡ j → label_column g l i c ≡ label_column g l j e → c ≡ e
one_column g l i j c e h hc he r p =
    sym (label_of_column g l i c (omega arith) hc)
    ∙ ap (label_at g l i) (p ∙ ap (λ (n : ℕ). label_column g l n e) (sym r))
    ∙ label_of_column g l i e (omega arith) he

pub two_labels_meet_once : TwoLabelsMeetOnce
two_labels_meet_once G s l m i j c e hl hm other hi hj hc he p q =
    (row, one_column G.g l i j c e (omega arith) hc he row p)
  where
    go : (b : Bool) → ltb l m ≡ b → i ≡ j
    go true b = one_row G s i j c e hi hj l m (ltb-true l m b) hm p q
    go false b =
        let back : m < l = omega (arith, ltb-false l m b) in
        one_row G s i j c e hi hj m l back hl q p

    row : i ≡ j
    row = go (ltb l m) refl
