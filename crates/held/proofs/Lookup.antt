-- The code's table against the one of specs/: what a search for the row of a v finds. Assumes nothing.
use Prim.Native.Nat.{ℕ, zero, suc, ◌<◌}
use mathlib.Core.Path.{◌≡◌, ap, ◌∙◌}
use mathlib.Core.Logic.{inl, inr}
use mathlib.Core.List.{List, [], ◌∷◌, map}
use native.Mathlib.Nat.{not-suc-le-zero, le_of_suc-le-suc}
use native.Mathlib.Omega.{arith}
use denote.Ref.{Bor}
use lib.ListN.{length, get_or, take}
use Rattle.std.specs.Prelude.{Option, Some, None, MatchOption}
use Rattle.std.specs.List.{AllWithin, HoldsAt}
use Rattle.held.specs.declared.Held.{Held as Row}
use Rattle.held.specs.Held.{Held, held, table, set_for}
use Rattle.held.specs.Reasons.{HeldSet, NoSet}
use Rattle.held.proofs.Table.{held_found, none_found}

-- the set of a row: its first members
abbrev pub row : Row → Held
row x = held x.v (take x.length x.members)

-- a row of the table is held
held_at :
    (xs : List Row) (v i : ℕ) (x : Row) → x.v ≡ v → i < length xs → get_or xs i x ≡ x
    → HeldSet (map row xs) v (take x.length x.members)
held_at [] v i x e h w = absurd (not-suc-le-zero h)
held_at (y ∷ xs) v zero x e h w =
    inl (ap (λ (z : Row). z.v) w ∙ e, ap (λ (z : Row). take z.length z.members) w)
held_at (y ∷ xs) v (suc i) x e h w = inr (held_at xs v i x e (le_of_suc-le-suc h) w)

-- what no row has is not
not_held_in :
    (xs : List Row) (v : ℕ) → ((i : ℕ) (d : Row) → i < length xs → (get_or xs i d).v ≡ v → ⊥) → (s : List ℕ) → HeldSet (map row xs) v s → ⊥
not_held_in [] v h s w = w
not_held_in (y ∷ xs) v h s (inl w) = h 0 y (omega arith) w.0
not_held_in (y ∷ xs) v h s (inr w) = not_held_in xs v (λ i d q. h (suc i) d (omega arith)) s w

-- no row has the v: then no set is held for it
pub nothing_found :
    (xs : List Row) (t : List Held) (v : ℕ) → map row xs ≡ t → AllWithin (λ x. x.v ≡ v → ⊥) xs 0 (length xs)
    → (s : List ℕ) → HeldSet t v s → ⊥
nothing_found xs t v m h = rw (← m) (not_held_in xs v (λ i d q. h i d (omega arith) q))

-- a row has it: then its set is held
pub row_found :
    (xs : List Row) (t : List Held) (v : ℕ) (x : Row) → map row xs ≡ t → x.v ≡ v
    → (i : ℕ) → i < length xs → HoldsAt (λ y. y ≡ x) xs i → HeldSet t v (take x.length x.members)
row_found xs t v x m e i h q = rw (← m) (held_at xs v i x e h (q x))

-- how many members the set has that a search found
pub size_is :
    (v n : ℕ) (found : Option (Bor (List ℕ))) → MatchOption found (NoSet v) (λ set. HeldSet table v set.now)
    → MatchOption found (n ≡ 0) (λ set. n ≡ length set.now) → n ≡ length (set_for v)
size_is v n None h e = rw (none_found v h) e
size_is v n (Some set) h e = rw (held_found v set.now h) e
