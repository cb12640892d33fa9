-- How long the plan is: "There are r(g-1)k triples". Assumes nothing.
use Prim.Native.Nat.{ℕ, suc, ◌+◌, ◌-◌, ◌*◌, ◌≤◌, ◌<◌}
use mathlib.Core.Path.{◌≡◌, refl, sym, ap, ◌∙◌}
use mathlib.Core.Bool.{cond}
use mathlib.Core.List.{List, []}
use native.Mathlib.Nat.{mul_left_comm, mul_assoc, suc-mul, mul-suc, le_refl}
use native.Mathlib.Omega.{arith}
use lib.Dec.{eqb}
use lib.ListN.{length}
use borrow.Author.Tests.{eq-eqb, ne_eqb, lt-ltb, le-ltb}
use Rattle.counting.proofs.Sums.{sum_below, sum_same, sum_const, sum_but_one}
use Rattle.geometry.specs.declared.Geometry.{Geometry}
use Rattle.geometry.specs.Geometry.{parts_of, disks_of}
use Rattle.design.specs.Design.{Laid}
use Rattle.cells.specs.declared.Cell.{Cell}
use Rattle.cells.specs.Cells.{label_of, diagonal_of}
use Rattle.cells.specs.Sets.{outer_member, inner_member}
use Rattle.cells.specs.Ranges.{CellIn}
use Rattle.layout.specs.Places.{cell_at}
use Rattle.layout.proofs.Places.{cell_at_in}
use Rattle.sources.specs.Plan.{lists_of, triple, unit_plan, plan_of}
use Rattle.sources.specs.Written.{part_plan}
use Rattle.sources.proofs.Lists.{lists_length}
use Rattle.sources.proofs.Same.{row_unit, cell_of_row, parts_are_the_plan}

-- n lists of three, but for the q-th
pub but_one_length :
    (f : ℕ → List ℕ) (q n : ℕ) → q < n → ((e : ℕ) → length (f e) ≡ 3)
    → length (lists_of (λ (e : ℕ). cond (eqb e q) [] (f e)) n) ≡ 3 * (n - 1)
but_one_length f q n h three =
    let sum =
    sum_but_one (λ (e : ℕ). length (cond (eqb e q) [] (f e))) n q 3 h
    (λ e k w. ap (λ b. length (cond b [] (f e))) (ne_eqb e q w) ∙ three e)
    in
    let own : length (cond (eqb q q) [] (f q)) ≡ 0 = ap (λ b. length (cond b [] (f q))) (eq-eqb q q refl) in
    omega (arith, sum, own, lists_length (λ (e : ℕ). cond (eqb e q) [] (f e)) n)

-- a unit with a label has k-1 sources, one of row g-1 has g-1
module _ (G : Geometry) (d : List ℕ) (y : ℕ) (x : Cell) (h : CellIn G x) where
  pub outer_length : x.row < G.g - 1 → length (unit_plan G d y x) ≡ 3 * (G.k - 1)
  unfolding unit_plan
  outer_length k =
      rw (lt-ltb x.row (G.g - 1) k)
      (but_one_length (λ (e : ℕ). triple G d y (outer_member G x.tuple.0 x.row (label_of G x) e)) x.position G.k h.position
      (λ e. refl))

  pub inner_length : G.g - 1 ≤ x.row → length (unit_plan G d y x) ≡ 3 * (G.g - 1)
  unfolding unit_plan
  inner_length k =
      rw (le-ltb x.row (G.g - 1) k)
      (but_one_length (λ (e : ℕ). triple G d y (inner_member G x.tuple.0 x.position (diagonal_of G x) e)) x.row G.g h.row
      (λ e. refl))

-- n+1 rows, of which n have 3m and the last has 3n
rows_sum : (s m n g k : ℕ) → g ≡ suc n → k ≡ suc m → s + 3 * m ≡ 3 * n + g * (3 * m) → s ≡ 3 * (n * k)
rows_sum s m n g k eg ek h =
    let a : g * (3 * m) ≡ 3 * (n * m + m) = rw eg (mul_left_comm (suc n) 3 m ∙ ap (λ (x : ℕ). 3 * x) (suc-mul n m)) in
    let b : n * k ≡ n * m + n = rw ek (mul-suc n m) in
    omega (arith, h, a, b)

-- (g-1)k triples a part
module _ (G : Geometry) (d : List ℕ) (L : Laid G d) (disk p : ℕ) (hd : disk < disks_of G) (hp : p < parts_of G) where
  abbrev row_cell : ℕ → Cell
  row_cell i = cell_at G d disk (p * G.g + i)

  abbrev row_length : ℕ → ℕ
  row_length i = length (unit_plan G d (p * G.g + i) (row_cell i))

  row_in : (i : ℕ) → i < G.g → CellIn G (row_cell i)
  row_in i k = cell_at_in G d L disk (p * G.g + i) hd (row_unit G d L disk p hd hp i k)

  row_is : (i : ℕ) → i < G.g → (row_cell i).row ≡ i
  row_is i k = ap (λ (x : Cell). x.row) (cell_of_row G d L disk p hd hp i k)

  outer_row : (i : ℕ) → i < G.g → (i ≡ G.g - 1 → ⊥) → row_length i ≡ 3 * (G.k - 1)
  outer_row i k w =
      let h : i < G.g - 1 = omega arith in
      outer_length G d (p * G.g + i) (row_cell i) (row_in i k) (rw (row_is i k) h)

  last_row : row_length (G.g - 1) ≡ 3 * (G.g - 1)
  last_row =
      let k : G.g - 1 < G.g = omega arith in
      inner_length G d (p * G.g + (G.g - 1)) (row_cell (G.g - 1)) (row_in (G.g - 1) k)
      (rw (row_is (G.g - 1) k) (le_refl (G.g - 1)))

  pub part_length : length (part_plan G d disk p) ≡ 3 * ((G.g - 1) * G.k)
  unfolding part_plan
  part_length =
      let k : G.g - 1 < G.g = omega arith in
      let eg : G.g ≡ suc (G.g - 1) = omega arith in
      let ek : G.k ≡ suc (G.k - 1) = omega arith in
      let sum = sum_but_one row_length G.g (G.g - 1) (3 * (G.k - 1)) k outer_row in
      lists_length (λ (i : ℕ). unit_plan G d (p * G.g + i) (row_cell i)) G.g
      ∙ rows_sum (sum_below row_length G.g) (G.k - 1) (G.g - 1) G.g G.k eg ek
      (sum ∙ ap (λ (x : ℕ). x + G.g * (3 * (G.k - 1))) last_row)

pub plan_length : (G : Geometry) (d : List ℕ) → Laid G d → (disk : ℕ) → disk < disks_of G → length (plan_of G d disk) ≡ 3 * (parts_of G * (G.g - 1) * G.k)
plan_length G d L disk h =
    ap length (sym (parts_are_the_plan G d disk))
    ∙ lists_length (part_plan G d disk) (parts_of G)
    ∙ sum_same (λ (p : ℕ). length (part_plan G d disk p)) (λ (p : ℕ). 3 * ((G.g - 1) * G.k)) (parts_of G) (λ p k. part_length G d L disk p h k)
    ∙ sum_const (3 * ((G.g - 1) * G.k)) (parts_of G)
    ∙ mul_left_comm (parts_of G) 3 ((G.g - 1) * G.k)
    ∙ ap (λ (n : ℕ). 3 * n) (sym (mul_assoc (parts_of G) (G.g - 1) G.k))
