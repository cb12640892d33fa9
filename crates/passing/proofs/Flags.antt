-- Flags by their places: some or all are set, those of a group's disks, those before the first pass. Assumes nothing.
use Rattle.std.proofs.Common.{ℕ, zero, suc, ◌+◌, ◌-◌, ◌*◌, ◌/◌, ◌%◌, ◌≤◌, ◌<◌, ◌≡◌, ◌++◌, ◌∷◌, [], Bool, true, false, not, List, length, get_or, take, drop, slice_range, refl, sym, ap, ◌∙◌, arith}
use Rattle.std.specs.List.{IsAnyAnswer}
use Rattle.std.specs.Bool.{beq}
use Rattle.std.proofs.Math.ListN.{length-take, length-drop}
use Rattle.std.proofs.Math.Nat.{mod-lt, add-mul, mul_assoc, add_assoc, div-lt_iff_lt-mul, div-add-mod'}
use Rattle.std.proofs.Math.Arith.{digits_div, digits_mod}
use Rattle.std.proofs.lemmas.List.{get_or-take, get_or-drop, get_or_append_left, get_or-append_right, ext_get_or}
use borrow.Rule.Slice.PartMut.{put_mid}
use native.Mathlib.Decide.{dec_lt}
use Rattle.counting.specs.Counting.{any_below}
use Rattle.counting.proofs.Laws.{any_true, none_any, any_same}
use Rattle.geometry.specs.declared.Geometry.{Geometry}
use Rattle.geometry.specs.Geometry.{Sound}
use Rattle.design.specs.Design.{group_at}
use Rattle.layout.specs.Places.{place_of}
use Rattle.reaching.specs.Reach.{tuple_cells_of, cell_numbered}
use Rattle.reaching.specs.State.{seen, all_seen, tests_of, start_flag, start_flags}
use Rattle.reaching.proofs.Fills.{length_tests}

-- ---- some flag, and each

is_true : (b : Bool) → b ≡ beq b true
is_true true = refl
is_true false = refl

is_false : (b : Bool) → not b ≡ beq b false
is_false true = refl
is_false false = refl

-- what `contains` answers of flags
among :
    (f : ℕ → Bool) (flags : List Bool) (v r : Bool) → ((x : ℕ) → f x ≡ beq (get_or flags x false) v)
    → IsAnyAnswer (λ (y b : Bool). beq y v ≡ b) flags r → r ≡ any_below f (length flags)
among f flags v true e h = sym (any_true f (length flags) h.0 h.1 (e h.0 ∙ h.2 false))
among f flags v false e h = sym (none_any f (length flags) (λ (x : ℕ) (l : x < length flags). e x ∙ h x false (omega arith) l))

pub each_seen : (flags : List Bool) (r : Bool) → IsAnyAnswer (λ (y b : Bool). beq y false ≡ b) flags r → not r ≡ all_seen flags
unfolding all_seen
each_seen flags r h = ap not (among (λ (x : ℕ). not (seen flags x)) flags false r (λ (x : ℕ). is_false (seen flags x)) h)

-- ---- the disks of a group

pub part_is :
    (flags : List Bool) (a b g : ℕ) → a ≡ b → a + g ≤ length flags
    → (length (take (a + g - a) (drop a flags)) ≡ g) × (take (a + g - a) (drop a flags) ≡ slice_range flags b (b + g))
part_is flags a b g e h = (simp (length-take, length-drop) (omega arith), rw e refl)

part_at : (lost : List Bool) (b g x : ℕ) → x < g → get_or (slice_range lost b (b + g)) x false ≡ get_or lost (b + x) false
part_at lost b g x l = get_or-take (b + g - b) (drop b lost) x false (omega arith) ∙ get_or-drop b lost x false

module _ (lost disks : List Bool) (b g : ℕ) (h : (length disks ≡ g) × (disks ≡ slice_range lost b (b + g))) where
  disk_at : (x : ℕ) → x < g → get_or disks x false ≡ get_or lost (b + x) false
  disk_at x l = ap (λ (d : List Bool). get_or d x false) h.1 ∙ part_at lost b g x l

  -- one of them is lost
  pub lost_among : (r : Bool) → IsAnyAnswer (λ (y b : Bool). beq y true ≡ b) disks r → r ≡ any_below (λ (x : ℕ). get_or lost (b + x) false) g
  lost_among r e =
      among (λ (x : ℕ). get_or disks x false) disks true r (λ (x : ℕ). is_true (get_or disks x false)) e
      ∙ ap (any_below (λ (x : ℕ). get_or disks x false)) h.0
      ∙ any_same (λ (x : ℕ). get_or disks x false) (λ (x : ℕ). get_or lost (b + x) false) g disk_at

-- ---- filling: after i parts of m flags each, those are the flags of f

pub part_more :
    (f : ℕ → Bool) (flags part : List Bool) (i m k : ℕ) → i * m + m ≤ length flags → length part ≡ m
    → ((n : ℕ) → n < i * m → get_or flags n false ≡ f n) → ((x : ℕ) → x < m → get_or part x false ≡ f (i * m + x))
    → (n : ℕ) → n < (i + 1) * m → get_or (put_mid (i * m) k flags part) n false ≡ f n
part_more f flags part i m k h e before here n l = go (dec_lt n (i * m))
  where
    front : length (take (i * m) flags) ≡ i * m
    front = simp length-take (omega arith)

    go : Dec (n < i * m) → get_or (put_mid (i * m) k flags part) n false ≡ f n
    go (yes p) =
        get_or_append_left (take (i * m) flags) _ false n (omega (arith, front))
        ∙ get_or-take (i * m) flags n false p ∙ before n p
    go (no p) =
        let x : n - i * m < m = omega (arith, add-mul i 1 m) in
        let s : i * m + (n - i * m) ≡ n = omega arith in
        get_or-append_right (take (i * m) flags) _ (i * m) n false front (omega arith)
        ∙ get_or_append_left part _ false (n - i * m) (omega (arith, e))
        ∙ here (n - i * m) x ∙ ap f s

-- a row of a region
pub row_at : (lost row : List Bool) (i x : ℕ) → x < length lost → get_or row x false ≡ not (get_or lost x false) → get_or row x false ≡ not (get_or lost ((i * length lost + x) % length lost) false)
row_at lost row i x l e = rw (digits_mod i l) e

-- ---- the flags of a tuple's cells

module _ (G : Geometry) (d : List ℕ) (lost : List Bool) (t l n : ℕ) (s : Sound G) (h : n < G.g * G.g) where
  line : (l * (G.g * G.g) + n) / G.g ≡ l * G.g + n / G.g
  line =
      let g0 : 0 < G.g = omega arith in
      let e : l * (G.g * G.g) + n ≡ (l * G.g + n / G.g) * G.g + n % G.g =
      rw (add-mul (l * G.g) (n / G.g) G.g, mul_assoc l G.g G.g, add_assoc (l * (G.g * G.g)) (n / G.g * G.g) (n % G.g), div-add-mod' n G.g) in
      ap (λ (y : ℕ). y / G.g) e ∙ digits_div (l * G.g + n / G.g) (mod-lt n g0)

  column : (l * (G.g * G.g) + n) % G.g ≡ n % G.g
  column =
      let g0 : 0 < G.g = omega arith in
      let e : l * (G.g * G.g) + n ≡ (l * G.g + n / G.g) * G.g + n % G.g =
      rw (add-mul (l * G.g) (n / G.g) G.g, mul_assoc l G.g G.g, add_assoc (l * (G.g * G.g)) (n / G.g * G.g) (n % G.g), div-add-mod' n G.g) in
      ap (λ (y : ℕ). y % G.g) e ∙ digits_mod (l * G.g + n / G.g) (mod-lt n g0)

  position : (l * (G.g * G.g) + n) / G.g / G.g ≡ l
  position =
      let g0 : 0 < G.g = omega arith in
      rw line (digits_div l ((div-lt_iff_lt-mul g0).1 h))

  start_at : not (get_or lost (group_at G.k d t l * G.g + n % G.g) false) ≡ start_flag G d lost t (l * (G.g * G.g) + n)
  unfolding start_flag cell_numbered place_of
  start_at = rw (position, column) refl

  -- a region lies on the disks of its group
  pub region_at :
      (disks : List Bool) → (length disks ≡ G.g) × (disks ≡ slice_range lost (group_at G.k d t l * G.g) (group_at G.k d t l * G.g + G.g)) → (b : Bool)
      → b ≡ not (get_or disks (n % length disks) false) → b ≡ start_flag G d lost t (l * (G.g * G.g) + n)
  region_at disks q b e =
      let g0 : 0 < G.g = omega arith in
      e ∙ ap (λ (m : ℕ). not (get_or disks (n % m) false)) q.0
      ∙ ap not (disk_at lost disks (group_at G.k d t l * G.g) G.g q (n % G.g) (mod-lt n g0)) ∙ start_at

tests_at : (f : ℕ → Bool) (n i : ℕ) → i < n → get_or (tests_of f n) i false ≡ f i
unfolding tests_of
tests_at f zero i h = absurd (omega arith)
tests_at f (suc n) i h = go (dec_lt i n) (tests_at f n i)
  where
    go : Dec (i < n) → (i < n → get_or (tests_of f n) i false ≡ f i) → get_or (tests_of f n ++ (f n ∷ [])) i false ≡ f i
    go (yes p) w = get_or_append_left (tests_of f n) (f n ∷ []) false i (omega (arith, length_tests f n)) ∙ w p
    go (no p) w =
        let e : i ≡ n = omega arith in
        let z : i - n ≡ 0 = omega arith in
        get_or-append_right (tests_of f n) (f n ∷ []) n i false (length_tests f n) (omega arith)
        ∙ ap (λ (x : ℕ). get_or (f n ∷ []) x false) z ∙ ap f (sym e)

pub tuple_filled :
    (G : Geometry) (d : List ℕ) (lost flags : List Bool) (t l m : ℕ) → length flags ≡ tuple_cells_of G → m ≡ G.g * G.g → l ≡ G.k
    → ((n : ℕ) → n < l * m → get_or flags n false ≡ start_flag G d lost t n) → flags ≡ start_flags G d lost t
unfolding tuple_cells_of
tuple_filled G d lost flags t l m h q e w =
    let c : l * m ≡ G.k * G.g * G.g = rw (e, q) (sym (mul_assoc G.k G.g G.g)) in
    ext_get_or false flags (start_flags G d lost t) (h ∙ sym (length_tests (start_flag G d lost t) (tuple_cells_of G)))
    (λ (n : ℕ) (p : n < length flags). w n (omega arith) ∙ sym (tests_at (start_flag G d lost t) (tuple_cells_of G) n (omega arith)))
