-- 01, "The two parities" and "Calls" (audit): the numbers of the user units and of the sets. Assumes nothing.
use Rattle.std.specs.Prelude.{ℕ, ◌+◌, ◌-◌, ◌*◌, ◌/◌, ◌%◌}
use Rattle.geometry.specs.declared.Geometry.{Geometry}
use Rattle.geometry.specs.Geometry.{tuple_sets_of}
use Rattle.numbering.specs.declared.Digits.{Digits}

-- "n = ((t·(k-1) + l)·(g-1) + i)·g + c" [for 1 ≤ k and 1 ≤ g]; l is the number of the data region
unfoldable pub user_number : Geometry → (t l i c : ℕ) → ℕ
user_number G t l i c = ((t * (G.k - 1) + l) * (G.g - 1) + i) * G.g + c

-- the c of a user unit's number [for 1 ≤ g]
unfoldable pub user_column : Geometry → ℕ → ℕ
user_column G n = n % G.g

-- its i [for 2 ≤ g]
unfoldable pub user_row : Geometry → ℕ → ℕ
user_row G n = n / G.g % (G.g - 1)

-- its l [for 2 ≤ g and 2 ≤ k]
unfoldable pub user_region : Geometry → ℕ → ℕ
user_region G n = n / G.g / (G.g - 1) % (G.k - 1)

-- its t [for 2 ≤ g and 2 ≤ k]
unfoldable pub user_tuple : Geometry → ℕ → ℕ
user_tuple G n = n / G.g / (G.g - 1) / (G.k - 1)

abbrev pub digits_of : Geometry → ℕ → Digits
digits_of G n =
    record {
      tuple = record { 0 = user_tuple G n };
      region = user_region G n;
      row = user_row G n;
      column = user_column G n;
    }

-- "numbers every set, t·((g-1)g + kg) plus i·g+c for outer"
unfoldable pub outer_number : Geometry → (t i c : ℕ) → ℕ
outer_number G t i c = t * tuple_sets_of G + (i * G.g + c)

-- "plus (g-1)g + l·g + j for inner" [for 1 ≤ g]
unfoldable pub inner_number : Geometry → (t l j : ℕ) → ℕ
inner_number G t l j = t * tuple_sets_of G + ((G.g - 1) * G.g + l * G.g + j)
