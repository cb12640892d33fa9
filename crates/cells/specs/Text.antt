-- How a role is printed: its name and its numbers. Assumes nothing.
use Rattle.std.specs.Prelude.{ℕ, ◌++◌, List, codes}
use Rattle.std.specs.Fmt.{decimal}
use Rattle.cells.specs.declared.Role.{Role}
use Rattle.cells.specs.declared.Role.TheVariants.{User, Outer, Inner}

-- three numbers, with a space between
abbrev spaced : ℕ → ℕ → ℕ → List ℕ
spaced x y z = decimal x ++ (codes " " ++ (decimal y ++ (codes " " ++ decimal z)))

abbrev pub role_text : Role → List ℕ
role_text (User n) = codes "user " ++ decimal n.0
role_text (Outer t i c) = codes "outer " ++ spaced t.0 i c
role_text (Inner t l j) = codes "inner " ++ spaced t.0 l j
