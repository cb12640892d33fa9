-- An answer laid out flat for C: the refusal's number and place first, 0 and 0 where the call is accepted, and then the
-- values, 0 where it is refused. No refusal has the number 0. Assumes nothing.
use Rattle.std.specs.Prelude.{ℕ}
use Rattle.refusal.specs.Refusal.{Outcome, refused, accepted}
use Rattle.geometry.specs.declared.Geometry.{Geometry}
use Rattle.sizes.specs.declared.Sizes.{Sizes}
use Rattle.layout.specs.declared.Four.{Four}
use Rattle.finding.specs.declared.Found.{Found}
use Rattle.cells.specs.declared.Role.{Role}
use Rattle.cells.specs.declared.Role.TheVariants.{User, Outer, Inner}
use Rattle.answers.specs.declared.Answer.{Answer}
use Rattle.answers.specs.declared.SizesAnswer.{SizesAnswer}
use Rattle.answers.specs.declared.MapAnswer.{MapAnswer}
use Rattle.answers.specs.declared.RoleAnswer.{RoleAnswer}
use Rattle.answers.specs.declared.AuditAnswer.{AuditAnswer}
use Rattle.answers.specs.declared.CountAnswer.{CountAnswer}

-- the geometry of four numbers from C
abbrev pub geometry : (v k g u : ℕ) → Geometry
geometry v k g u = record { v = v; k = k; g = g; u = u }

abbrev pub flat_answer : Outcome (Unit {0}) → Answer
flat_answer (accepted x) = record { refusal = 0; place = 0 }
flat_answer (refused n p) = record { refusal = n; place = p }

abbrev pub flat_sizes : Outcome Sizes → SizesAnswer
flat_sizes (accepted x) =
    record {
      refusal = 0;
      place = 0;
      parts = x.parts;
      tuples = x.tuples;
      disks = x.disks;
      units = x.units;
      user_units = x.users;
      sets = x.sets;
      bytes = x.bytes;
    }
flat_sizes (refused n p) =
    record {
      refusal = n;
      place = p;
      parts = 0;
      tuples = 0;
      disks = 0;
      units = 0;
      user_units = 0;
      sets = 0;
      bytes = 0;
    }

-- "data, outer parity, inner of data, inner of outer", each disk/unit
abbrev pub flat_map : Outcome Four → MapAnswer
flat_map (accepted x) =
    record {
      refusal = 0;
      place = 0;
      data_disk = x.user.disk.0;
      data_unit = x.user.unit.0;
      outer_disk = x.outer.disk.0;
      outer_unit = x.outer.unit.0;
      inner_disk = x.inner.disk.0;
      inner_unit = x.inner.unit.0;
      both_disk = x.both.disk.0;
      both_unit = x.both.unit.0;
    }
flat_map (refused n p) =
    record {
      refusal = n;
      place = p;
      data_disk = 0;
      data_unit = 0;
      outer_disk = 0;
      outer_unit = 0;
      inner_disk = 0;
      inner_unit = 0;
      both_disk = 0;
      both_unit = 0;
    }

-- "user unit n; outer parity of (t,i,c); or inner parity of (t,l,j)": kind 0, 1 or 2 and the numbers
abbrev pub flat_role_of : Role → RoleAnswer
flat_role_of (User n) = record { refusal = 0; place = 0; kind = 0; a = n.0; b = 0; c = 0 }
flat_role_of (Outer t i c) = record { refusal = 0; place = 0; kind = 1; a = t.0; b = i; c = c }
flat_role_of (Inner t l j) = record { refusal = 0; place = 0; kind = 2; a = t.0; b = l; c = j }

abbrev pub flat_role : Outcome Role → RoleAnswer
flat_role (accepted x) = flat_role_of x
flat_role (refused n p) = record { refusal = n; place = p; kind = 0; a = 0; b = 0; c = 0 }

-- "how many sets don't XOR to zero and the lowest such number, 0 if none"
abbrev pub flat_audit : Outcome Found → AuditAnswer
flat_audit (accepted x) = record { refusal = 0; place = 0; bad = x.bad; lowest = x.lowest }
flat_audit (refused n p) = record { refusal = n; place = p; bad = 0; lowest = 0 }

-- how many there are: triples of a plan, units restored
abbrev pub flat_count : Outcome ℕ → CountAnswer
flat_count (accepted n) = record { refusal = 0; place = 0; count = n }
flat_count (refused n p) = record { refusal = n; place = p; count = 0 }
