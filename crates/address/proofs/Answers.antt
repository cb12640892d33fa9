-- The answers of the mapping both ways from that of 2 to 6 and the tests of 10 and 9. Assumes nothing.
use Prim.Native.Nat.{ℕ, ◌≤◌, ◌<◌}
use mathlib.Core.Path.{◌≡◌, ◌∙◌}
use mathlib.Core.List.{List, []}
use lib.Dec.{leb}
use borrow.Author.Tests.{le-leb, lt-leb, leb-false}
use Rattle.counting.proofs.Bools.{left_or, right_or, or_none, none_or}
use Rattle.refusal.specs.Refusal.{refused, accepted, answer, verdict}
use Rattle.refusal.proofs.Answer.{first, next, skip, stop, quiet_append, quiet_accepted, accepted_quiet, accepted_value}
use Rattle.geometry.specs.declared.Geometry.{Geometry}
use Rattle.geometry.specs.Geometry.{disks_of, units_of, user_units_of}
use Rattle.sizes.specs.Sizes.{sizes_rules}
use Rattle.address.specs.Address.{map_rules, role_rules}

module _ {A : Type 0} (G : Geometry) (d : List ℕ) (n : ℕ) (a : A) where
  pub map_refused : (m p : ℕ) → verdict (sizes_rules G d) ≡ refused m p → answer (map_rules G d n) a ≡ refused m p
  unfolding map_rules
  map_refused m p e = stop (sizes_rules G d) _ a m p e

  pub map_high : verdict (sizes_rules G d) ≡ accepted tt → user_units_of G ≤ n → answer (map_rules G d n) a ≡ refused 10 0
  unfolding map_rules
  map_high e h = skip (sizes_rules G d) _ a e ∙ first _ [] a (le-leb (user_units_of G) n h)

  pub map_goes : verdict (sizes_rules G d) ≡ accepted tt → n < user_units_of G → answer (map_rules G d n) a ≡ accepted a
  unfolding map_rules
  map_goes e h = skip (sizes_rules G d) _ a e ∙ next _ [] a (lt-leb (user_units_of G) n h)

  -- what an accepted answer tells
  pub map_accepted : (b : A) →
      answer (map_rules G d n) a ≡ accepted b → (verdict (sizes_rules G d) ≡ accepted tt) × (n < user_units_of G) × (b ≡ a)
  unfolding map_rules
  map_accepted b e =
      let q = quiet_append (sizes_rules G d) _ (accepted_quiet (map_rules G d n) a b e) in (
        quiet_accepted (sizes_rules G d) tt q.0,
        leb-false (user_units_of G) n q.1.0,
        accepted_value (map_rules G d n) a b e,
      )

module _ {A : Type 0} (G : Geometry) (d : List ℕ) (x y : ℕ) (a : A) where
  pub role_refused : (m p : ℕ) → verdict (sizes_rules G d) ≡ refused m p → answer (role_rules G d x y) a ≡ refused m p
  unfolding role_rules
  role_refused m p e = stop (sizes_rules G d) _ a m p e

  pub role_disk_high : verdict (sizes_rules G d) ≡ accepted tt → disks_of G ≤ x → answer (role_rules G d x y) a ≡ refused 9 0
  unfolding role_rules
  role_disk_high e h =
      skip (sizes_rules G d) _ a e ∙ first _ [] a (left_or (leb (disks_of G) x) (leb (units_of G) y) (le-leb (disks_of G) x h))

  pub role_unit_high : verdict (sizes_rules G d) ≡ accepted tt → units_of G ≤ y → answer (role_rules G d x y) a ≡ refused 9 0
  unfolding role_rules
  role_unit_high e h =
      skip (sizes_rules G d) _ a e ∙ first _ [] a (right_or (leb (disks_of G) x) (leb (units_of G) y) (le-leb (units_of G) y h))

  pub role_goes :
      verdict (sizes_rules G d) ≡ accepted tt → x < disks_of G → y < units_of G → answer (role_rules G d x y) a ≡ accepted a
  unfolding role_rules
  role_goes e hx hy =
      skip (sizes_rules G d) _ a e
      ∙ next _ [] a (none_or (leb (disks_of G) x) (leb (units_of G) y) (lt-leb (disks_of G) x hx) (lt-leb (units_of G) y hy))

  -- what an accepted answer tells
  pub role_accepted :
      (b : A) → answer (role_rules G d x y) a ≡ accepted b
      → (verdict (sizes_rules G d) ≡ accepted tt) × (x < disks_of G) × (y < units_of G) × (b ≡ a)
  unfolding role_rules
  role_accepted b e =
      let q = quiet_append (sizes_rules G d) _ (accepted_quiet (role_rules G d x y) a b e) in
      let h = or_none (leb (disks_of G) x) (leb (units_of G) y) q.1.0 in (
        quiet_accepted (sizes_rules G d) tt q.0,
        leb-false (disks_of G) x h.0,
        leb-false (units_of G) y h.1,
        accepted_value (role_rules G d x y) a b e,
      )
