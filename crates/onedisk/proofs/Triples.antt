-- Lists of triples, one after the other, and the XOR over their sources. Assumes nothing.
use Prim.Native.Nat.{ℕ, zero, suc, ◌-◌, ◌<◌}
use mathlib.Core.Path.{◌≡◌, refl, sym, ap, ap₂, ◌∙◌}
use mathlib.Core.Bool.{Bool, true, false, cond}
use mathlib.Core.List.{List, [], ◌∷◌, ◌++◌, append-nil}
use native.Mathlib.Decide.{ℕ_discrete}
use native.Mathlib.Omega.{arith}
use lib.Bits.{bit_xor, xor_zero_r}
use lib.Dec.{ltb, eqb}
use borrow.Author.Tests.{eq-eqb, ne_eqb}
use Rattle.geometry.specs.declared.Geometry.{Geometry}
use Rattle.cells.specs.declared.Cell.{Cell}
use Rattle.cells.specs.Cells.{label_of, diagonal_of}
use Rattle.cells.specs.Sets.{outer_member, inner_member}
use Rattle.array.specs.Array.{cell_start}
use Rattle.leaves.proofs.Xor.{xor_assoc}
use Rattle.peeling.specs.Peeling.{Side, rest_sum}
use Rattle.peeling.proofs.Bytes.{rest_own, rest_other}
use Rattle.replaying.proofs.Bytes.{byte_at}
use Rattle.sources.specs.Plan.{lists_of, triple, others, unit_plan}
use Rattle.onedisk.specs.Sources.{Triple, triples_in, source_byte, source_sum}

-- the list is one of triples
abbrev pub Threes : List ℕ → Type 0
Threes [] = Unit {0}
Threes (a ∷ []) = ⊥
Threes (a ∷ b ∷ []) = ⊥
Threes (a ∷ b ∷ c ∷ rest) = Threes rest

pub threes_append : (xs ys : List ℕ) → Threes xs → Threes ys → Threes (xs ++ ys)
threes_append [] ys p q = q
threes_append (a ∷ []) ys p q = absurd p
threes_append (a ∷ b ∷ []) ys p q = absurd p
threes_append (a ∷ b ∷ c ∷ xs) ys p q = threes_append xs ys p q

pub threes_lists : (f : ℕ → List ℕ) (n : ℕ) → ((i : ℕ) → Threes (f i)) → Threes (lists_of f n)
unfolding lists_of
threes_lists f zero h = tt {0}
threes_lists f (suc n) h = threes_append (lists_of f n) (f n) (threes_lists f n h) (h n)

-- a set's triples are triples
pub threes_others : (G : Geometry) (d : List ℕ) (z : ℕ) (member : ℕ → Cell) (q n : ℕ) → Threes (others G d z member q n)
threes_others G d z member q n = threes_lists _ n (λ e. go e (eqb e q))
  where
    go : (e : ℕ) (b : Bool) → Threes (cond b [] (triple G d z (member e)))
    go e true = tt {0}
    go e false = tt {0}

pub threes_unit : (G : Geometry) (d : List ℕ) (z : ℕ) (x : Cell) → Threes (unit_plan G d z x)
unfolding unit_plan
threes_unit G d z x = go (ltb x.row (G.g - 1))
  where
    go :
        (b : Bool) → Threes (cond b
        (others G d z (outer_member G x.tuple.0 x.row (label_of G x)) x.position G.k)
        (others G d z (inner_member G x.tuple.0 x.position (diagonal_of G x)) x.row G.g))
    go true = threes_others G d z _ x.position G.k
    go false = threes_others G d z _ x.row G.g

pub triples_append : (xs ys : List ℕ) → Threes xs → triples_in (xs ++ ys) ≡ triples_in xs ++ triples_in ys
unfolding triples_in
triples_append [] ys p = refl
triples_append (a ∷ []) ys p = absurd p
triples_append (a ∷ b ∷ []) ys p = absurd p
triples_append (a ∷ b ∷ c ∷ xs) ys p =
    ap (λ (ts : List Triple). record { restores = a; disk = b; unit = c } ∷ ts) (triples_append xs ys p)

module _ (G : Geometry) (a : List ℕ) (j y : ℕ) where
  sum_triples : (xs ys : List Triple) → source_sum G a j y (xs ++ ys) ≡ bit_xor (source_sum G a j y xs) (source_sum G a j y ys)
  unfolding source_sum
  sum_triples [] ys = refl
  sum_triples (s ∷ xs) ys =
      ap (bit_xor (own s)) (sum_triples xs ys)
      ∙ sym (xor_assoc (own s) (source_sum G a j y xs) (source_sum G a j y ys))
    where
      own : Triple → ℕ
      own z = cond (eqb z.restores y) (source_byte G a j z) 0

  -- the XOR over the triples of a list of numbers
  abbrev pub list_sum : List ℕ → ℕ
  list_sum xs = source_sum G a j y (triples_in xs)

  pub list_none : list_sum [] ≡ 0
  unfolding triples_in source_sum
  list_none = refl

  pub list_append : (xs ys : List ℕ) → Threes xs → list_sum (xs ++ ys) ≡ bit_xor (list_sum xs) (list_sum ys)
  list_append xs ys p =
      ap (source_sum G a j y) (triples_append xs ys p) ∙ sum_triples (triples_in xs) (triples_in ys)

  module _ (d : List ℕ) where
    -- a triple's source by its cell
    pub list_here : (x : Cell) → list_sum (triple G d y x) ≡ byte_at G d a j x
    unfolding triples_in source_sum cell_start
    list_here x =
        xor_zero_r _ ∙ ap (λ (b : Bool). cond b (byte_at G d a j x) 0) (eq-eqb y y refl)

    pub list_elsewhere : (z : ℕ) (x : Cell) → (z ≡ y → ⊥) → list_sum (triple G d z x) ≡ 0
    unfolding triples_in source_sum cell_start
    list_elsewhere z x ne =
        xor_zero_r _ ∙ ap (λ (b : Bool). cond b (byte_at G d a j x) 0) (ne_eqb z y ne)

    -- of the set of another unit none counts
    pub others_elsewhere :
        (z : ℕ) (member : ℕ → Cell) (q n : ℕ) → (z ≡ y → ⊥) → list_sum (others G d z member q n) ≡ 0
    unfolding lists_of
    others_elsewhere z member q zero ne = list_none
    others_elsewhere z member q (suc n) ne =
        list_append (others G d z member q n) (cond (eqb n q) [] (triple G d z (member n))) (threes_others G d z member q n)
        ∙ ap₂ bit_xor (others_elsewhere z member q n ne) (go (eqb n q))
      where
        go : (b : Bool) → list_sum (cond b [] (triple G d z (member n))) ≡ 0
        go true = list_none
        go false = list_elsewhere z (member n) ne

    -- of its own set the rest counts: "the XOR of the rest"
    pub others_here :
        (member : ℕ → Cell) (s : Side) (b : ℕ → ℕ) (n : ℕ) →
        ((e : ℕ) → e < n → b (s.member e) ≡ byte_at G d a j (member e)) →
        rest_sum b s n ≡ list_sum (others G d y member s.own n)
    unfolding lists_of rest_sum
    others_here member s b zero h = sym list_none
    others_here member s b (suc n) h = go (ℕ_discrete n s.own) (others_here member s b n (λ e l. h e (omega arith)))
      where
        before : List ℕ
        before = others G d y member s.own n

        more : (c : Bool) → eqb n s.own ≡ c → list_sum (before ++ cond (eqb n s.own) [] (triple G d y (member n)))
            ≡ list_sum (before ++ cond c [] (triple G d y (member n)))
        more c e = ap (λ (c : Bool). list_sum (before ++ cond c [] (triple G d y (member n)))) e

        go :
            Dec (n ≡ s.own) → rest_sum b s n ≡ list_sum before →
            rest_sum b s (suc n) ≡ list_sum (before ++ cond (eqb n s.own) [] (triple G d y (member n)))
        go (yes e) ih =
            rest_own b s n e ∙ ih ∙ ap list_sum (sym (append-nil before)) ∙ sym (more true (eq-eqb n s.own e))
        go (no e) ih =
            rest_other b s n e
            ∙ ap₂ bit_xor ih (h n (omega arith) ∙ sym (list_here (member n)))
            ∙ sym (list_append before (triple G d y (member n)) (threes_others G d y member s.own n))
            ∙ sym (more false (ne_eqb n s.own e))
