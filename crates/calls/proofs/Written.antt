-- An accepted write goes to the four published places of its user unit. Assumes nothing.
use Prim.Native.Nat.{ℕ}
use mathlib.Core.Path.{◌≡◌, sym, subst⁻¹}
use mathlib.Core.List.{List, [], ◌∷◌, ◌++◌}
use lib.ListN.{length}
use Rattle.refusal.specs.Refusal.{accepted, verdict}
use Rattle.refusal.proofs.Answer.{accepted_append}
use Rattle.geometry.specs.declared.Geometry.{Geometry}
use Rattle.geometry.specs.declared.UserUnit.{UserUnit}
use Rattle.layout.specs.Places.{four_of}
use Rattle.array.specs.Array.{start_of, cell_start}
use Rattle.array.specs.Rules.{array_rules, range_rules}
use Rattle.array.proofs.Fits.{ready}
use Rattle.array.proofs.Range.{ranged}
use Rattle.fourfold.specs.Theorems.{SameDifference}
use Rattle.writing.specs.Writing.{write_rules}
use Rattle.writing.proofs.Reasons.{twelfth}
use Rattle.writing.proofs.Accepted.{accepted_difference}
use Rattle.calls.specs.Published.{PublishedPlaces, FourXored, Written}
use Rattle.calls.specs.Theorems
use Rattle.calls.proofs.Published.{numbered, published_places}

-- the units of the four cells are those at the four places
xored :
    (G : Geometry) (d a b : List ℕ) (m o : ℕ) (new : List ℕ) → SameDifference G d a b m o new →
    FourXored G a b (four_of G d m) o new
unfolding four_of cell_start start_of
xored G d a b m o new e =
    record {
      long = e.long;
      user = e.user;
      outer = e.outer;
      inner = e.inner;
      both = e.both;
      nothing_else = e.nothing_else;
    }

-- where no rule of the write refuses, the unit is a label's, and its four places are the published ones
written :
    (G : Geometry) (d a b marks : List ℕ) (n : UserUnit) (o : ℕ) (new : List ℕ) →
    verdict (write_rules G d (length a) marks n.0 o (length new)) ≡ accepted tt → SameDifference G d a b n.0 o new →
    Written G d a b n o new
unfolding write_rules
written G d a b marks n o new fine e =
    let rules = range_rules G n.0 o (length new) in
    let rest = twelfth G marks (four_of G d n.0) ∷ [] in
    let p = accepted_append (array_rules G d (length a) marks) (rules ++ rest) fine in
    let q = accepted_append rules rest p.1 in
    let s = (ready G d (length a) marks p.0).laid.sound in
    let w = numbered G s n (ranged G n.0 o (length new) q.0).user in
    record {
      tuple = w.0;
      position = w.1;
      row = w.2;
      column = w.3;
      label = w.4;
      number = w.5;
      places = four_of G d n.0;
      published =
          subst⁻¹ (λ (m : UserUnit). PublishedPlaces G d w.0 w.1 w.2 w.3 (four_of G d m.0)) w.5
          (published_places G s w.0 w.1 w.2 w.3 w.4 d);
      xored = xored G d a b n.0 o new e;
    }

pub places_of_a_write : Theorems.AnAcceptedWriteGoesToThePublishedPlaces
places_of_a_write κs G design array marks n offset bytes array₁ p =
    written G design.now array.now array₁.now marks.now n offset bytes.now (sym p.0)
    (accepted_difference κs G design array marks n offset bytes array₁ p)
