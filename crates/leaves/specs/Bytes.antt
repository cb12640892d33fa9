-- XOR on runs of bytes inside one list: the arithmetic of both parities (000, 3.1: "P = B1 ⊕ B2 ⊕ .. ⊕ Bk"). Nothing here
-- knows of disks. Assumes nothing.
use Rattle.std.specs.Prelude.{ℕ, suc, ◌+◌, ◌≤◌, ◌<◌, ◌≡◌, Bool, not, List, [], ◌∷◌, ◌++◌, ◌⊎◌, get_or, length, take, drop, replicate, eqb}
use Rattle.std.specs.Int.Bits.{bit_xor}
use Rattle.counting.specs.Counting.{any_below}
use Rattle.counting.specs.Lists.{list_of}

-- byte by byte; the first list stays past the end of the second
unfoldable pub xors : List ℕ → List ℕ → List ℕ
xors [] ys = []
xors (x ∷ xs) [] = x ∷ xs
xors (x ∷ xs) (y ∷ ys) = bit_xor x y ∷ xors xs ys

-- the n bytes from p, fewer where the list ends before
unfoldable pub run : List ℕ → (p n : ℕ) → List ℕ
run a p n = take n (drop p a)

-- the list with the bytes of e XORed into it from p on; those that would lie past its end are dropped
unfoldable pub add_at : List ℕ → ℕ → List ℕ → List ℕ
add_at a p e = take p a ++ xors (drop p a) e

-- the same at each of the positions, one after the other
unfoldable pub add_all : List ℕ → List ℕ → List ℕ → List ℕ
add_all a [] e = a
add_all a (p ∷ ps) e = add_all (add_at a p e) ps e

-- what a write of new at p changes: the XOR of the old and the new bytes
abbrev pub difference_at : List ℕ → ℕ → List ℕ → List ℕ
difference_at a p new = xors (run a p (length new)) new

-- a write of new at p: its difference is added there and at the other positions
abbrev pub written : List ℕ → ℕ → List ℕ → List ℕ → List ℕ
written a p ps new = add_all a (p ∷ ps) (difference_at a p new)

-- what add_at XORs into byte i: e laid from p on, and 0 before and after it
unfoldable pub laid : ℕ → List ℕ → ℕ → ℕ
laid p e i = get_or (replicate p 0 ++ e) i 0

-- the XOR of the bytes at offset i of the runs that start at the positions; past the end of the list a byte counts as 0
unfoldable pub sum_at : List ℕ → List ℕ → ℕ → ℕ
sum_at a [] i = 0
sum_at a (p ∷ ps) i = bit_xor (get_or a (p + i) 0) (sum_at a ps i)

-- those XORs at n offsets from i on
unfoldable pub sums : List ℕ → List ℕ → (i n : ℕ) → List ℕ
sums a ps i n = list_of (λ (j : ℕ). sum_at a ps (i + j)) n

-- the first n numbers of f are all zero
unfoldable pub zero_below : (ℕ → ℕ) → ℕ → Bool
zero_below f n = not (any_below (λ (i : ℕ). not (eqb (f i) 0)) n)

-- all bytes are zero
abbrev pub all_zero : List ℕ → Bool
all_zero xs = zero_below (λ (i : ℕ). get_or xs i 0) (length xs)

-- n offsets from i on XOR to zero
abbrev pub zero_sum_from : List ℕ → List ℕ → (i n : ℕ) → Bool
zero_sum_from a ps i n = zero_below (λ (j : ℕ). sum_at a ps (i + j)) n

-- all of the first u offsets XOR to zero
abbrev pub zero_sum : List ℕ → List ℕ → ℕ → Bool
zero_sum a ps u = zero_below (λ (i : ℕ). sum_at a ps i) u

-- the m bytes from p and the n bytes from q have none in common
pub record Apart (p m q n : ℕ) : Type 0 where
  pub apart : (p + m ≤ q) ⊎ (q + n ≤ p)

-- every run of u bytes from one of the positions lies inside m bytes
pub record Inside (m : ℕ) (ps : List ℕ) (u : ℕ) : Type 0 where
  pub inside : (t : ℕ) → t < length ps → get_or ps t 0 + u ≤ m

-- the runs of u bytes from two different positions of the list lie apart
pub record Spread (ps : List ℕ) (u : ℕ) : Type 0 where
  pub spread : (s t : ℕ) → s < length ps → t < length ps → (s ≡ t → ⊥) → Apart (get_or ps s 0) u (get_or ps t 0) u

-- the first run of u bytes lies apart from each other one
pub record FirstApart (ps : List ℕ) (u : ℕ) : Type 0 where
  pub first_apart : (t : ℕ) → suc t < length ps → Apart (get_or ps 0 0) u (get_or ps (suc t) 0) u
