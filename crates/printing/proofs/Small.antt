-- The numbers of a plan are unit and disk numbers, so four digits are enough for each. Assumes nothing.
use Prim.Native.Nat.{ℕ, zero, suc, ◌-◌, ◌*◌, ◌^◌, ◌≤◌, ◌<◌}
use mathlib.Core.Path.{◌≡◌}
use mathlib.Core.Bool.{Bool, true, false, cond}
use mathlib.Core.Logic.{◌⊎◌, inl, inr}
use mathlib.Core.List.{List, [], ◌∷◌, ◌++◌}
use native.Mathlib.Nat.{not-suc-le-zero, le_of_suc-le-suc, le_refl}
use native.Mathlib.Omega.{arith}
use lib.Dec.{ltb, eqb}
use lib.ListN.{length, get_or}
use borrow.Author.Tests.{ltb-true}
use Rattle.counting.proofs.Bools.{bool_either}
use Rattle.geometry.specs.declared.Geometry.{Geometry}
use Rattle.geometry.specs.Geometry.{disks_of, units_of}
use Rattle.geometry.proofs.Laws.{disks_bound, units_bound}
use Rattle.design.specs.Design.{Laid}
use Rattle.cells.specs.declared.Cell.{Cell}
use Rattle.cells.specs.Cells.{label_of, diagonal_of}
use Rattle.cells.specs.Sets.{outer_member, inner_member}
use Rattle.cells.specs.Ranges.{CellIn}
use Rattle.region.proofs.Turns.{label_at_lt, diagonal_at_lt}
use Rattle.cells.proofs.Sets.{outer_member_in, inner_member_in}
use Rattle.layout.specs.Places.{cell_at}
use Rattle.layout.proofs.Places.{place_in, cell_at_in}
use Rattle.sources.specs.Plan.{lists_of, triple, others, unit_plan, plan_below, plan_of}
use Rattle.decimals.specs.Decimal.{lines_of}
use Rattle.decimals.proofs.Theorems.{room_for_lines}

-- every number is below ten thousand
abbrev Small : List ℕ → Type 0
Small [] = Unit {0}
Small (x ∷ xs) = (x < 10000) × Small xs

small_append : (xs ys : List ℕ) → Small xs → Small ys → Small (xs ++ ys)
small_append [] ys p q = q
small_append (x ∷ xs) ys p q = (p.0, small_append xs ys p.1 q)

small_lists : (f : ℕ → List ℕ) (n : ℕ) → ((e : ℕ) → e < n → Small (f e)) → Small (lists_of f n)
unfolding lists_of
small_lists f zero h = tt
small_lists f (suc n) h =
    small_append (lists_of f n) (f n) (small_lists f n (λ e q. h e (omega arith))) (h n (le_refl (suc n)))

small_at : (xs : List ℕ) → Small xs → (i : ℕ) → i < length xs → get_or xs i 0 < 10000
small_at [] p i h = absurd (not-suc-le-zero h)
small_at (x ∷ xs) p zero h = p.0
small_at (x ∷ xs) p (suc i) h = small_at xs p.1 i (le_of_suc-le-suc h)

small_cond : (b : Bool) (xs ys : List ℕ) → (b ≡ true → Small xs) → (b ≡ false → Small ys) → Small (cond b xs ys)
small_cond b xs ys p q = go (bool_either b)
  where
    go : (b ≡ true) ⊎ (b ≡ false) → Small (cond b xs ys)
    go (inl e) = rw e (p e)
    go (inr e) = rw e (q e)

module _ (G : Geometry) (d : List ℕ) (L : Laid G d) where
  small_triple : (y : ℕ) (x : Cell) → y < units_of G → CellIn G x → Small (triple G d y x)
  small_triple y x h c =
      let p = place_in G d L x c in
      let units = units_bound G L.sound in
      let disks = disks_bound G L.sound in
      (omega (arith, units), (omega (arith, disks, p.disk), (omega (arith, units, p.unit), tt)))

  small_others :
      (y : ℕ) (member : ℕ → Cell) (q n : ℕ) → y < units_of G → ((e : ℕ) → e < n → CellIn G (member e))
      → Small (others G d y member q n)
  small_others y member q n h c =
      small_lists _ n
      (λ e w. small_cond (eqb e q) [] (triple G d y (member e)) (λ _. tt) (λ _. small_triple y (member e) h (c e w)))

  small_unit : (y : ℕ) (x : Cell) → y < units_of G → CellIn G x → Small (unit_plan G d y x)
  unfolding unit_plan
  small_unit y x h c =
      let s = L.sound in
      let pos : 0 < G.g = omega arith in
      small_cond (ltb x.row (G.g - 1)) _ _
      (λ w.
      small_others y (outer_member G x.tuple.0 x.row (label_of G x)) x.position G.k h
      (λ e k.
      outer_member_in G s x.tuple.0 x.row (label_of G x) e
      (record { tuple = c.tuple; row = ltb-true x.row (G.g - 1) w; column = label_at_lt G.g x.position x.row x.column pos }) k))
      (λ w.
      small_others y (inner_member G x.tuple.0 x.position (diagonal_of G x)) x.row G.g h
      (λ e k.
      inner_member_in G s x.tuple.0 x.position (diagonal_of G x) e
      (record { tuple = c.tuple; position = c.position; diagonal = diagonal_at_lt G.g x.row x.column pos }) k))

  small_plan : (disk : ℕ) → disk < disks_of G → Small (plan_of G d disk)
  unfolding plan_of plan_below
  small_plan disk h =
      small_lists _ (units_of G) (λ y k. small_unit y (cell_at G d disk y) k (cell_at_in G d L disk y h k))

  -- five bytes a number, with the byte after it
  pub plan_room : (disk : ℕ) → disk < disks_of G → length (lines_of (plan_of G d disk)) ≤ length (plan_of G d disk) * 5
  plan_room disk h =
      room_for_lines (plan_of G d disk) 4 (omega arith)
      (λ i q. let s = small_at (plan_of G d disk) (small_plan disk h) i q in let l : get_or (plan_of G d disk) i 0 < 10 ^ 4 = omega arith in l)
