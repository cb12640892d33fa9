-- The map and the way back, over the contracts of the calls themselves: what the map names, the way back names again.
-- Assumes nothing.
use Prim.Native.Nat.{ℕ, ◌<◌}
use mathlib.Core.Path.{◌≡◌, sym, ap, subst⁻¹, ◌∙◌}
use mathlib.Core.List.{List}
use contract.Lifetimes.{Lfts}
use denote.Ref.{Bor}
use Rattle.refusal.specs.Refusal.{accepted, verdict}
use Rattle.geometry.specs.declared.Geometry.{Geometry}
use Rattle.geometry.specs.declared.Disk.{Disk}
use Rattle.geometry.specs.declared.Unit.{Unit as UnitNumber}
use Rattle.geometry.specs.declared.UserUnit.{UserUnit}
use Rattle.geometry.specs.Geometry.{user_units_of}
use Rattle.design.specs.Design.{Laid}
use Rattle.sizes.specs.Sizes.{sizes_rules}
use Rattle.sizes.proofs.Reasons.{accepted_is_laid}
use Rattle.numbering.specs.Positions.{parity_position}
use Rattle.numbering.specs.Numbering.{user_tuple, user_row, user_column}
use Rattle.cells.specs.declared.Cell.{Cell}
use Rattle.cells.specs.declared.Role.{Role}
use Rattle.cells.specs.declared.Role.TheVariants.{User}
use Rattle.cells.specs.Cells.{diagonal_of}
use Rattle.cells.specs.Ranges.{CellIn, RoleIn}
use Rattle.cells.specs.Roles.{user_cell, user_outer, inner_of, user, outer, inner, cell_of}
use Rattle.numbering.proofs.Numbering.{digits_in}
use Rattle.cells.proofs.Roles.{user_cell_in, outer_cell_in, inner_cell_in}
use Rattle.cells.proofs.Sets.{diagonal_in}
use Rattle.layout.specs.declared.Place.{Place}
use Rattle.layout.specs.declared.Four.{Four}
use Rattle.layout.specs.Ranges.{PlaceIn}
use Rattle.layout.specs.Places.{place, place_of, four_of, role_at}
use Rattle.layout.specs.Theorems.{FourApart}
use Rattle.layout.proofs.Places.{place_in}
use Rattle.layout.proofs.Theorems.{the_way_back_is_the_inverse, the_roles_of_the_four_places, the_four_disks_differ, no_two_user_units_share_a_place}
use Rattle.address.proofs.Answers.{map_goes, map_accepted, role_goes, role_accepted}
use Rattle.address.proofs.TwoResults.{MapAllowed, RoleAllowed}
use Rattle.refusal.proofs.Same.{same_answer}
use Rattle.std.specs.Prelude.{Result, Ok}
use Rattle.refusal.specs.declared.Refusal.{Refusal}

-- at this place the way back answers this role, and nothing else
abbrev pub Answers : Lfts 1 → Geometry → Bor (List ℕ) → Place → Role → Type 0
Answers κs G design p ρ = (r : Result Role Refusal) → RoleAllowed κs G design p.disk p.unit r → r ≡ Ok ρ

-- the roles of the four places of user unit n: the unit itself, the outer parity of its label, and the inner parities of
-- the diagonals on which the two lie
pub record Back (κs : Lfts 1) (G : Geometry) (design : Bor (List ℕ)) (n : ℕ) (f : Four) : Type 0 where
  pub of_user : Answers κs G design f.user (user n)
  pub of_outer : Answers κs G design f.outer (outer (user_tuple G n) (user_row G n) (user_column G n))
  pub of_inner :
      Answers κs G design f.inner (inner (user_tuple G n) (user_cell G n).position (diagonal_of G (user_cell G n)))
  pub of_both :
      Answers κs G design f.both
      (inner (user_tuple G n) (parity_position G (user_tuple G n)) (diagonal_of G (user_outer G n)))

abbrev number : ℕ → UserUnit
number n = record { 0 = n }

-- the parity of a cell's diagonal lies on a disk too
inner_place_in : (G : Geometry) (d : List ℕ) → Laid G d → (x : Cell) → CellIn G x → PlaceIn G (place_of G d (inner_of G x))
unfolding inner_of
inner_place_in G d L x h = place_in G d L (inner_of G x) (inner_cell_in G L.sound _ _ _ (diagonal_in G L.sound x h))

module _ (κs : Lfts 1) (G : Geometry) (design : Bor (List ℕ)) where
  abbrev Fine : Type 0
  Fine = verdict (sizes_rules G design.now) ≡ accepted tt

  laid : Fine → Laid G design.now
  laid = accepted_is_laid G design.now

  -- where none of 2 to 6 refuses, the way back answers at each place with the role there
  answers :
      Fine → (p : Place) (ρ : Role) → PlaceIn G p → role_at G design.now p.disk.0 p.unit.0 ≡ ρ
      → Answers κs G design p ρ
  answers e p ρ h q r allowed =
      same_answer r (Ok ρ)
      (allowed ∙ role_goes G design.now p.disk.0 p.unit.0 _ e h.disk h.unit ∙ ap accepted q)

  -- the map's answer at n: none of 2 to 6 is due, n is a user unit, and the places are those of the layout
  pub mapped :
      (n : UserUnit) (f : Four) → MapAllowed κs G design n (Ok f)
      → Fine × (n.0 < user_units_of G) × (f ≡ four_of G design.now n.0)
  mapped n f p = map_accepted G design.now n.0 (four_of G design.now n.0) f (sym p)

  -- "the way back answers ..": what the map names, the way back names again
  pub map_and_back : (n : UserUnit) (f : Four) → MapAllowed κs G design n (Ok f) → Back κs G design n.0 f
  unfolding four_of user_outer
  map_and_back n f p =
      let m = mapped n f p in
      let L = laid m.0 in
      let h = m.1 in
      let ρ = the_roles_of_the_four_places G design.now L n.0 h in
      let x = user_cell_in G L.sound n.0 h in
      let y = outer_cell_in G L.sound _ _ _ (digits_in G n.0 L.sound h).label in
      subst⁻¹ (λ (z : Four). Back κs G design n.0 z) m.2
      (record {
        of_user = answers m.0 _ _ (place_in G design.now L (user_cell G n.0) x) ρ.of_user;
        of_outer = answers m.0 _ _ (place_in G design.now L (user_outer G n.0) y) ρ.of_outer;
        of_inner = answers m.0 _ _ (inner_place_in G design.now L (user_cell G n.0) x) ρ.of_inner;
        of_both = answers m.0 _ _ (inner_place_in G design.now L (user_outer G n.0) y) ρ.of_both;
      })

  -- the four places lie on four disks
  pub map_four_disks : (n : UserUnit) (f : Four) → MapAllowed κs G design n (Ok f) → FourApart f
  map_four_disks n f p =
      let m = mapped n f p in
      subst⁻¹ FourApart m.2 (the_four_disks_differ G design.now (laid m.0) n.0 m.1)

  -- no two user units are mapped to one place
  pub map_apart :
      (m n : UserUnit) (e f : Four) → MapAllowed κs G design m (Ok e) → MapAllowed κs G design n (Ok f)
      → e.user ≡ f.user → m ≡ n
  map_apart m n e f p q h =
      let a = mapped m e p in
      let b = mapped n f q in
      ap number
      (no_two_user_units_share_a_place G design.now (laid a.0) m.0 n.0 a.1 b.1
      (sym (ap (λ (x : Four). x.user) a.2) ∙ h ∙ ap (λ (x : Four). x.user) b.2))

  -- and what the way back calls user unit n is the place that the map names for n
  pub back_and_map :
      (x : Disk) (y : UnitNumber) (n : UserUnit) → RoleAllowed κs G design x y (Ok (User n)) → (r : Result Four Refusal) → MapAllowed κs G design n r
      → (f : Four) × (r ≡ Ok f) × (f.user ≡ record { disk = x; unit = y })
  unfolding four_of cell_of
  back_and_map x y n p r q =
      let m = role_accepted G design.now x.0 y.0 (role_at G design.now x.0 y.0) (User n) (sym p) in
      let w = the_way_back_is_the_inverse G design.now (laid m.0) in
      let h : PlaceIn G (place x.0 y.0) = record { disk = m.1; unit = m.2 } in
      let low : n.0 < user_units_of G = subst⁻¹ (RoleIn G) m.3 (w.role (place x.0 y.0) h) in (
        four_of G design.now n.0,
        same_answer r (Ok (four_of G design.now n.0)) (q ∙ map_goes G design.now n.0 _ m.0 low),
        ap (λ (ρ : Role). place_of G design.now (cell_of G ρ)) m.3 ∙ w.again (place x.0 y.0) h,
      )
