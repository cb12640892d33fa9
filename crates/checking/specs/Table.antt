-- The pair table: for each pair of groups a<c the entry a·v+c counts the rows that name both, up to 2. The design check
-- works by it, and its promise does not mention it. Assumes nothing.
use Rattle.std.specs.Prelude.{ℕ, ◌+◌, ◌*◌, ◌/◌, ◌%◌, ◌≤◌, ◌<◌, min, ◌≡◌, Bool, true, false, not, ◌&&◌, List, get_or, length, ltb, eqb}
use Rattle.geometry.specs.Geometry.{Limits}
use Rattle.design.specs.Design.{group_at, names}
use Rattle.checking.specs.Rules.{row_bad, rows_with}

-- how many rows of k the list has
abbrev pub rows_in : ℕ → List ℕ → ℕ
rows_in k d = length d / k

-- the list has b rows of k, for v groups: neither 2 nor 3 is due
pub record Rows (v k b : ℕ) (d : List ℕ) : Type 0 where
  pub limits : Limits v k
  pub size : length d ≡ b * k

-- nor is 4
pub record GoodRows (v k b : ℕ) (d : List ℕ) : Type 0 where
  pub rows : Rows v k b d
  pub good : (t : ℕ) → t < b → row_bad v k d t ≡ false

-- a row that 4 does not refuse, and the table has an entry for each pair
pub record GoodRow (v : ℕ) (row table : List ℕ) : Type 0 where
  pub limits : Limits v (length row)
  pub good : row_bad v (length row) row 0 ≡ false
  pub room : v * v ≤ length table

-- row t names both groups
abbrev pub pair_of : (k : ℕ) → List ℕ → (t a c : ℕ) → Bool
pair_of k d t a c = names k d a t && names k d c t

-- row t names both, the first of them at position l
abbrev pub pair_from : (k : ℕ) → List ℕ → (t l a c : ℕ) → Bool
pair_from k d t l a c = eqb (group_at k d t l) a && names k d c t

-- an entry that is counted up where the test passes, and stays at 2
abbrev pub marked_if : Bool → ℕ → ℕ
marked_if true n = min (n + 1) 2
marked_if false n = n

-- the table where each pair that passes the test is counted up, and every other pair stays
pub record Marked (v : ℕ) (f : ℕ → ℕ → Bool) (old new : List ℕ) : Type 0 where
  pub size : length new ≡ length old
  pub each : (a c : ℕ) → a < c → c < v → get_or new (a * v + c) 0 ≡ marked_if (f a c) (get_or old (a * v + c) 0)

-- the table after t rows
pub record Counted (v k t : ℕ) (d table : List ℕ) : Type 0 where
  pub room : v * v ≤ length table
  pub each : (a c : ℕ) → a < c → c < v → get_or table (a * v + c) 0 ≡ min (rows_with k t d a c) 2

-- the table says that a<c is a pair that does not stand in exactly one row
unfoldable pub entry_bad : (v : ℕ) → List ℕ → (a c : ℕ) → Bool
entry_bad v table a c = ltb a c && not (eqb (get_or table (a * v + c) 0) 1)

-- the same of the pair that the number a·v+c gives [for 1 ≤ v]
abbrev pub number_bad : (v : ℕ) → List ℕ → ℕ → Bool
number_bad v table m = entry_bad v table (m / v) (m % v)
