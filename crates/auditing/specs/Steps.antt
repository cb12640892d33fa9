-- 01, "Calls" (audit): the sets of a tuple as the audit counts them: by number, in whatever order it reads them.
-- Assumes nothing.
use Rattle.std.specs.Prelude.{ℕ, ◌+◌, ◌-◌, ◌*◌, ◌/◌, ◌%◌, Bool, List, get_or}
use Rattle.geometry.specs.declared.Geometry.{Geometry}
use Rattle.leaves.specs.Bytes.{zero_sum}
use Rattle.sets.specs.Starts.{label_starts, diagonal_starts}
use Rattle.finding.specs.declared.Found.{Found}
use Rattle.finding.specs.Steps.{found_from}

-- the set of label (i,c) XORs to zero, in regions that begin at ps
abbrev pub label_zero : Geometry → (ps a : List ℕ) → (i c : ℕ) → Bool
label_zero G ps a i c = zero_sum a (label_starts G ps i c) G.u

-- the set of diagonal j does, in a region that begins at p
abbrev pub diagonal_zero : Geometry → (p : ℕ) → (a : List ℕ) → (j : ℕ) → Bool
diagonal_zero G p a j = zero_sum a (diagonal_starts G p j) G.u

-- the sets of a tuple's labels and of its diagonals, each by number: "i·g+c", "l·g + j" [for 1 ≤ g]
abbrev pub outer_zeros : Geometry → (ps a : List ℕ) → (x : ℕ) → Bool
outer_zeros G ps a x = label_zero G ps a (x / G.g) (x % G.g)

abbrev pub inner_zeros : Geometry → (ps a : List ℕ) → (x : ℕ) → Bool
inner_zeros G ps a x = diagonal_zero G (get_or ps (x / G.g) 0) a (x % G.g)

-- what is found with the sets of a tuple, numbered from s on; the outer ones have the lower numbers: "plus (g-1)g .. for inner"
-- [for 1 ≤ g]
unfoldable pub tuple_found : Geometry → (ps a : List ℕ) → Found → (s : ℕ) → Found
tuple_found G ps a f s =
    found_from (inner_zeros G ps a) (found_from (outer_zeros G ps a) f s ((G.g - 1) * G.g)) (s + (G.g - 1) * G.g) (G.k * G.g)
