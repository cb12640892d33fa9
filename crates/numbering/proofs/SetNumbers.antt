-- The numbers of the sets: 01, "t·((g-1)g + kg) plus i·g+c for outer, plus (g-1)g + l·g + j for inner".
use Prim.Native.Nat.{ℕ, ◌+◌, ◌-◌, ◌*◌, ◌/◌, ◌%◌, ◌<◌, ◌≤◌}
use mathlib.Core.Path.{◌≡◌, ap, refl, sym}
use mathlib.Core.Bool.{Bool, true, false}
use mathlib.Core.Logic.{inl, inr}
use native.Mathlib.Nat.{mod-lt, div-add-mod', div-lt_iff_lt-mul, mul-pos}
use native.Mathlib.Omega.{arith}
use lib.Dec.{ltb}
use lib.Arith.{digits_lt}
use borrow.Author.Tests.{ltb-true, ltb-false}
use Rattle.geometry.specs.declared.Geometry.{Geometry}
use Rattle.geometry.specs.Geometry.{Sound, tuples_of, tuple_sets_of, sets_of}
use Rattle.numbering.specs.Numbering.{outer_number, inner_number}
use Rattle.numbering.specs.Ranges.{OuterIn, InnerIn}
use Rattle.numbering.specs.Theorems.{ASet}
use Rattle.numbering.proofs.Numbering.{digits_only}

-- a set's number in its tuple: the outer sets come before the inner ones
abbrev outer_rest : Geometry → (i c : ℕ) → ℕ
outer_rest G i c = i * G.g + c

abbrev inner_rest : Geometry → (l j : ℕ) → ℕ
inner_rest G l j = (G.g - 1) * G.g + l * G.g + j

module _ (G : Geometry) where
  outer_first : (t i c : ℕ) → OuterIn G t i c → outer_rest G i c < (G.g - 1) * G.g
  outer_first t i c h = digits_lt h.row h.column

  outer_rest_lem : (t i c : ℕ) → OuterIn G t i c → outer_rest G i c < tuple_sets_of G
  unfolding tuple_sets_of
  outer_rest_lem t i c h = omega (arith, outer_first t i c h)

  inner_rest_lem : (t l j : ℕ) → InnerIn G t l j → inner_rest G l j < tuple_sets_of G
  unfolding tuple_sets_of
  inner_rest_lem t l j h = let y : l * G.g + j < G.k * G.g = digits_lt h.position h.diagonal in omega arith

  -- no number is an outer set's and an inner set's
  pub outer_inner_number :
      (t i c s l j : ℕ) → OuterIn G t i c → InnerIn G s l j → outer_number G t i c ≡ inner_number G s l j → ⊥
  unfolding outer_number inner_number
  outer_inner_number t i c s l j h q p =
      let y = digits_only (tuple_sets_of G) t (outer_rest G i c) s _ (outer_rest_lem t i c h) (inner_rest_lem s l j q) p in
      omega (arith, y.1, outer_first t i c h)

  pub outer_number_only :
      (t i c s a e : ℕ) → OuterIn G t i c → OuterIn G s a e → outer_number G t i c ≡ outer_number G s a e →
      (t ≡ s) × (i ≡ a) × (c ≡ e)
  unfolding outer_number
  outer_number_only t i c s a e h l p =
      let y = digits_only (tuple_sets_of G) t (outer_rest G i c) s _ (outer_rest_lem t i c h) (outer_rest_lem s a e l) p in
      let z = digits_only G.g i c a e h.column l.column y.1 in
      (y.0, z.0, z.1)

  pub inner_number_only :
      (t l j s m e : ℕ) → InnerIn G t l j → InnerIn G s m e → inner_number G t l j ≡ inner_number G s m e →
      (t ≡ s) × (l ≡ m) × (j ≡ e)
  unfolding inner_number
  inner_number_only t l j s m e h q p =
      let y = digits_only (tuple_sets_of G) t (inner_rest G l j) s _ (inner_rest_lem t l j h) (inner_rest_lem s m e q) p in
      let w : l * G.g + j ≡ m * G.g + e = omega (arith, y.1) in
      let z = digits_only G.g l j m e h.diagonal q.diagonal w in
      (y.0, z.0, z.1)

  -- the numbers are below the count
  pub outer_number_lt : (t i c : ℕ) → OuterIn G t i c → outer_number G t i c < sets_of G
  unfolding outer_number sets_of tuples_of
  outer_number_lt t i c h = digits_lt h.tuple (outer_rest_lem t i c h)

  pub inner_number_lt : (t l j : ℕ) → InnerIn G t l j → inner_number G t l j < sets_of G
  unfolding inner_number sets_of tuples_of
  inner_number_lt t l j h = digits_lt h.tuple (inner_rest_lem t l j h)

  module _ (s : Sound G) where
    g_pos : 0 < G.g
    g_pos = omega arith

    sets_pos : 0 < tuple_sets_of G
    unfolding tuple_sets_of
    sets_pos = let y : 0 < G.k * G.g = mul-pos (omega arith) g_pos in omega arith

    -- every number below the count is a set's: by the tuple and the number in it
    set_of_rest : (t m : ℕ) → t < tuples_of G → m < tuple_sets_of G → ASet G (t * tuple_sets_of G + m)
    unfolding outer_number inner_number tuple_sets_of
    set_of_rest t m ht hm = go (ltb m ((G.g - 1) * G.g)) refl
      where
        go : (b : Bool) → ltb m ((G.g - 1) * G.g) ≡ b → ASet G (t * tuple_sets_of G + m)
        go true p =
            let low : m < (G.g - 1) * G.g = ltb-true m ((G.g - 1) * G.g) p in
            inl (
              t,
              m / G.g,
              m % G.g,
              record { tuple = ht; row = (div-lt_iff_lt-mul g_pos).1 low; column = mod-lt m g_pos },
              ap (λ (y : ℕ). t * tuple_sets_of G + y) (sym (div-add-mod' m G.g)),
            )
        go false p =
            let o : (G.g - 1) * G.g ≤ m = ltb-false m ((G.g - 1) * G.g) p in
            let w : ℕ = m - (G.g - 1) * G.g in
            let low : w < G.k * G.g = omega arith in
            let same : m ≡ inner_rest G (w / G.g) (w % G.g) = omega (arith, div-add-mod' w G.g) in
            inr (
              t,
              w / G.g,
              w % G.g,
              record { tuple = ht; position = (div-lt_iff_lt-mul g_pos).1 low; diagonal = mod-lt w g_pos },
              ap (λ (y : ℕ). t * tuple_sets_of G + y) same,
            )

    pub set_of_number : (n : ℕ) → n < sets_of G → ASet G n
    unfolding sets_of tuples_of
    set_of_number n h =
        rw (div-add-mod' n (tuple_sets_of G)) at
        (set_of_rest (n / tuple_sets_of G) (n % tuple_sets_of G) ((div-lt_iff_lt-mul sets_pos).1 h) (mod-lt n sets_pos))
