-- The functions for C are the calls: each answer for C is that of the call, laid flat. Assumes nothing.
use mathlib.Core.Path.{sym, ap, ◌∙◌}
use Rattle.held.proofs.TwoResults as held
use Rattle.checking.proofs.TwoResults as checking
use Rattle.sizes.proofs.TwoResults as sizes
use Rattle.address.proofs.TwoResults as address
use Rattle.array.proofs.TwoResults as arrays
use Rattle.reading.proofs.TwoResults as reading
use Rattle.writing.proofs.TwoResults as writing
use Rattle.auditing.proofs.TwoResults as auditing
use Rattle.rebuilding.proofs.TwoResults as rebuilding
use Rattle.planning.proofs.TwoResults as planning
use Rattle.answers.specs.Flat.{geometry, flat_answer, flat_sizes, flat_map, flat_role, flat_audit, flat_count}
use Rattle.calls.specs.Same.{SameAsTheCall}

pub same_as_the_call : SameAsTheCall
same_as_the_call =
    record {
      fill =
          λ κs v design design₁ c a.
          let w = held.some_result κs v design in (w.0, ap flat_answer w.2.0 ∙ sym a.0, (w.2.0, a.1));
      check = λ κs v k design c a. let w = checking.some_result κs v k design in (w.0, ap flat_answer w.1 ∙ sym a, w.1);
      sizes =
          λ κs v k g u design c a.
          let w = sizes.sizes_some_result κs (geometry v k g u) design in (w.0, ap flat_sizes w.1 ∙ sym a, w.1);
      map =
          λ κs v k g u design n c a.
          let w = address.map_some_result κs (geometry v k g u) design (record { 0 = n }) in
          (w.0, ap flat_map w.1 ∙ sym a, w.1);
      role =
          λ κs v k g u design disk unit c a.
          let w = address.role_some_result κs (geometry v k g u) design (record { 0 = disk }) (record { 0 = unit }) in
          (w.0, ap flat_role w.1 ∙ sym a, w.1);
      format =
          λ κs v k g u design array marks array₁ marks₁ c a.
          let w = arrays.format_some_result κs (geometry v k g u) design array marks in
          (w.0, ap flat_answer w.3.0 ∙ sym a.0, (w.3.0, a.1, a.2));
      read =
          λ κs v k g u design array marks n offset bytes bytes₁ c a.
          let w = reading.some_result κs (geometry v k g u) design array marks (record { 0 = n }) offset bytes in
          (w.0, ap flat_answer w.2.0 ∙ sym a.0, (w.2.0, a.1));
      write =
          λ κs v k g u design array marks n offset bytes array₁ c a.
          let w = writing.some_result κs (geometry v k g u) design array marks (record { 0 = n }) offset bytes in
          (w.0, ap flat_answer w.2.0 ∙ sym a.0, (w.2.0, a.1));
      audit =
          λ κs v k g u design array c a.
          let w = auditing.some_result κs (geometry v k g u) design array in (w.0, ap flat_audit w.1 ∙ sym a, w.1);
      rebuild =
          λ κs v k g u design array marks array₁ marks₁ c a.
          let w = rebuilding.some_result κs (geometry v k g u) design array marks in
          (w.0, ap flat_count w.3.0 ∙ sym a.0, (w.3.0, a.1, a.2));
      plan =
          λ κs v k g u design disk list list₁ c a.
          let w = planning.some_result κs (geometry v k g u) design (record { 0 = disk }) list in
          (w.0, ap flat_count w.2.0 ∙ sym a.0, (w.2.0, a.1));
    }
