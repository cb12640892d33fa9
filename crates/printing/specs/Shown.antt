-- 01, "Proved examples": what the plan printer prints for a line, byte by byte. Assumes nothing.
use Rattle.std.specs.Prelude.{ℕ, List, [], ◌∷◌, ◌++◌, length, Option, Some, None}
use Rattle.refusal.specs.Refusal.{Rule, Outcome, refused, accepted, answer}
use Rattle.geometry.specs.declared.Geometry.{Geometry}
use Rattle.held.specs.Held.{set_for, held_design, fill_rules}
use Rattle.sources.specs.Plan.{plan_of}
use Rattle.planning.specs.Plan.{plan_rules}
use Rattle.decimals.specs.Decimal.{followed, space, line_end, lines_of}
use Rattle.lines.specs.declared.Question.{Question}
use Rattle.lines.specs.Line.{parsed}

-- "takes the held set of v and u = 1"
abbrev pub shelf : Question → Geometry
shelf q = record { v = q.v; k = length (set_for q.v); g = q.g; u = 1 }

-- the numbers that the plan's list has room for: 3·r(g-1)k where r and k are 10 and g is 13
abbrev pub room : ℕ
room = 3600

-- the refusals of filling a list of b·k numbers with the held design, and then those of the plan
unfoldable pub show_rules : Question → List Rule
show_rules q =
    fill_rules q.v (length (held_design q.v)) ++ plan_rules (shelf q) (held_design q.v) q.disk room

-- the plan of the disk, or the refusal
abbrev pub answered : Question → Outcome (List ℕ)
answered q = answer (show_rules q) (plan_of (shelf q) (held_design q.v) q.disk)

-- "A refusal prints `refused`, a space and its number", and a line end
unfoldable pub refused_text : ℕ → List ℕ
refused_text n = (114 ∷ 101 ∷ 102 ∷ 117 ∷ 115 ∷ 101 ∷ 100 ∷ space ∷ []) ++ followed n line_end

-- "prints one triple a line"
abbrev pub answer_text : Outcome (List ℕ) → List ℕ
answer_text (accepted plan) = lines_of plan
answer_text (refused n p) = refused_text n

-- "a line of another form prints `unread`", and a line end
abbrev pub unread_text : List ℕ
unread_text = 117 ∷ 110 ∷ 114 ∷ 101 ∷ 97 ∷ 100 ∷ line_end ∷ []

abbrev pub text_for : Option Question → List ℕ
text_for (Some q) = answer_text (answered q)
text_for None = unread_text

-- what is printed for a line
unfoldable pub shown : List ℕ → List ℕ
shown line = text_for (parsed line)
