-- The user numbering and its digits are inverse: 01, "n = ((t·(k-1) + l)·(g-1) + i)·g + c .. There are b·(k-1)·(g-1)·g".
use Prim.Native.Nat.{ℕ, ◌+◌, ◌-◌, ◌*◌, ◌/◌, ◌%◌, ◌<◌}
use mathlib.Core.Path.{◌≡◌, ◌∙◌, ap, sym}
use native.Mathlib.Nat.{mod-lt, div-add-mod', div-lt_iff_lt-mul}
use native.Mathlib.Omega.{arith}
use lib.Arith.{digits_lt, digits_div, digits_mod}
use Rattle.geometry.specs.declared.Geometry.{Geometry}
use Rattle.geometry.specs.Geometry.{Sound, tuples_of, user_units_of}
use Rattle.numbering.specs.Ranges.{UserIn}
use Rattle.numbering.specs.Numbering.{user_number, user_column, user_row, user_region, user_tuple}

-- a number has one quotient and one rest
pub digits_only : (m q r p o : ℕ) → r < m → o < m → q * m + r ≡ p * m + o → (q ≡ p) × (r ≡ o)
digits_only m q r p o h l e = (
  sym (digits_div q h) ∙ ap (λ (x : ℕ). x / m) e ∙ digits_div p l,
  sym (digits_mod q h) ∙ ap (λ (x : ℕ). x % m) e ∙ digits_mod p l,
)

-- the digits of a number are those that it was made of
module _ (G : Geometry) (t m i c : ℕ) (h : UserIn G t m i c) where
  pub number_lt : user_number G t m i c < user_units_of G
  unfolding user_number user_units_of tuples_of
  number_lt = digits_lt (digits_lt (digits_lt h.label.tuple h.region) h.label.row) h.label.column

  pub column_of_number : user_column G (user_number G t m i c) ≡ c
  unfolding user_column user_number
  column_of_number = digits_mod _ h.label.column

  over_column : user_number G t m i c / G.g ≡ (t * (G.k - 1) + m) * (G.g - 1) + i
  unfolding user_number
  over_column = digits_div _ h.label.column

  pub row_of_number : user_row G (user_number G t m i c) ≡ i
  unfolding user_row
  row_of_number = rw over_column (digits_mod _ h.label.row)

  over_row : user_number G t m i c / G.g / (G.g - 1) ≡ t * (G.k - 1) + m
  over_row = rw over_column (digits_div _ h.label.row)

  pub region_of_number : user_region G (user_number G t m i c) ≡ m
  unfolding user_region
  region_of_number = rw over_row (digits_mod _ h.region)

  pub tuple_of_number : user_tuple G (user_number G t m i c) ≡ t
  unfolding user_tuple
  tuple_of_number = rw over_row (digits_div _ h.region)

module _ (G : Geometry) (n : ℕ) where
  -- the number of a unit's digits is its number
  pub number_of_digits : user_number G (user_tuple G n) (user_region G n) (user_row G n) (user_column G n) ≡ n
  unfolding user_number user_tuple user_region user_row user_column
  number_of_digits =
      rw (div-add-mod' (n / G.g / (G.g - 1)) (G.k - 1), div-add-mod' (n / G.g) (G.g - 1)) (div-add-mod' n G.g)

  -- the digits of a number below the count are in range
  pub digits_in :
      Sound G → n < user_units_of G → UserIn G (user_tuple G n) (user_region G n) (user_row G n) (user_column G n)
  unfolding user_tuple user_region user_row user_column user_units_of tuples_of
  digits_in s h =
      record {
        label =
            record {
              tuple = (div-lt_iff_lt-mul k0).1 ((div-lt_iff_lt-mul g1).1 ((div-lt_iff_lt-mul g0).1 h));
              row = mod-lt (n / G.g) g1;
              column = mod-lt n g0;
            };
        region = mod-lt (n / G.g / (G.g - 1)) k0;
      }
    where
      g0 : 0 < G.g
      g0 = omega arith

      g1 : 0 < G.g - 1
      g1 = omega arith

      k0 : 0 < G.k - 1
      k0 = omega arith
