-- 01, "Refusal numbers", rows 7, 8, 10 and 11: what the calls on the array test alike. Assumes nothing.
use Rattle.std.specs.Prelude.{ℕ, ◌+◌, Bool, not, ◌&&◌, List, [], ◌∷◌, ◌++◌, get_or, length, ltb, leb, eqb}
use Rattle.counting.specs.Counting.{lowest, any_below}
use Rattle.refusal.specs.Refusal.{Rule, rule}
use Rattle.geometry.specs.declared.Geometry.{Geometry}
use Rattle.geometry.specs.Geometry.{disks_of, user_units_of, bytes_of}
use Rattle.sizes.specs.Sizes.{sizes_rules}

-- "at most 1,073,741,824"; 7: "array .. of another length, or array above the limit"
unfoldable pub array_fits : Geometry → (bytes : ℕ) → Bool
array_fits G bytes = eqb bytes (bytes_of G) && leb (bytes_of G) 1073741824

-- 8: "a mark above 1"
unfoldable pub mark_high : List ℕ → ℕ → Bool
mark_high marks x = ltb 1 (get_or marks x 0)

-- rows 2 to 8, for the calls that are lent the array and the marks: 7's "array or marks of another length"
unfoldable pub array_rules : Geometry → (design : List ℕ) → (bytes : ℕ) → (marks : List ℕ) → List Rule
array_rules G d bytes marks =
    sizes_rules G d
    ++ (rule 7 (not (array_fits G bytes && eqb (length marks) (disks_of G))) 0
    ∷ rule 8 (any_below (mark_high marks) (length marks)) (lowest (mark_high marks) (length marks))
    ∷ [])

-- 10 "user unit number too high" and 11 "range leaves the unit: its offset plus its length is above u"
abbrev pub range_rules : Geometry → (m o n : ℕ) → List Rule
range_rules G m o n = rule 10 (leb (user_units_of G) m) 0 ∷ rule 11 (ltb G.u (o + n)) 0 ∷ []
