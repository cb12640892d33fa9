-- The lines of a list's triples, and the room that they take. Assumes nothing.
use Prim.Native.Nat.{ℕ, suc, ◌+◌, ◌*◌, ◌/◌, ◌^◌, ◌<◌, ◌≤◌, suc-le-suc}
use mathlib.Core.Path.{◌≡◌, refl}
use mathlib.Core.List.{List, [], ◌∷◌, ◌++◌, append-nil}
use native.Mathlib.Nat.{suc-mul}
use native.Mathlib.Omega.{arith}
use lib.ListN.{length, get_or, take, length-append}
use Rattle.std.proofs.lemmas.List.{take_more}
use Rattle.std.proofs.lemmas.List.Concat.{flat_map-append}
use Rattle.std.specs.List.{flat_map}
use Rattle.std.specs.Simd.{first_chunks}
use Rattle.decimals.specs.Decimal.{space, line_end, line_of, lines_of}
use Rattle.decimals.proofs.Laws.{few}
use Rattle.decimals.proofs.Stores.{followed_length, line_length}

-- a triple on its line
abbrev pub line : List ℕ → List ℕ
line t = line_of (get_or t 0 0) (get_or t 1 0) (get_or t 2 0)

lines_short : (xs : List ℕ) → length xs < 3 → lines_of xs ≡ []
unfolding lines_of
lines_short [] h = refl
lines_short (x ∷ []) h = refl
lines_short (x ∷ y ∷ []) h = refl
lines_short (x ∷ y ∷ z ∷ xs) h = absurd (omega arith)

lines_cons : (x y z : ℕ) (xs : List ℕ) → lines_of (x ∷ y ∷ z ∷ xs) ≡ line_of x y z ++ lines_of xs
unfolding lines_of
lines_cons x y z xs = refl

pub line_more :
    (ts : List (List ℕ)) (i : ℕ) → i < length ts →
    flat_map line (take (i + 1) ts) ≡ flat_map line (take i ts) ++ line (get_or ts i [])
line_more ts i h = rw (take_more ts i [] h, flat_map-append, append-nil)

-- the lines are those of the list's parts of three, one after the other
pub lines_are : (list : List ℕ) → lines_of list ≡ flat_map line (first_chunks 3 (length list / 3) list)
lines_are [] = lines_short [] (omega arith)
lines_are (x ∷ []) = lines_short (x ∷ []) (omega arith)
lines_are (x ∷ y ∷ []) = lines_short (x ∷ y ∷ []) (omega arith)
lines_are (x ∷ y ∷ z ∷ list) =
    let e : suc (suc (suc (length list))) / 3 ≡ suc (length list / 3) = omega arith in
    rw (lines_cons x y z list, e, lines_are list)

-- ---- how much room they take

line_room :
    (x y z k : ℕ) → 1 ≤ k → x < 10 ^ k → y < 10 ^ k → z < 10 ^ k → length (line_of x y z) ≤ suc k + suc k + suc k
line_room x y z k h p q r =
    omega (
      arith,
      line_length x y z,
      followed_length x space,
      followed_length y space,
      followed_length z line_end,
      few x k h p,
      few y k h q,
      few z k h r,
    )

pub lines_room :
    (xs : List ℕ) (k : ℕ) → 1 ≤ k → ((i : ℕ) → i < length xs → get_or xs i 0 < 10 ^ k) → length (lines_of xs) ≤ length xs * suc k
lines_room [] k h each = rw (lines_short [] (omega arith)) (omega arith)
lines_room (x ∷ []) k h each = rw (lines_short (x ∷ []) (omega arith)) (omega arith)
lines_room (x ∷ y ∷ []) k h each = rw (lines_short (x ∷ y ∷ []) (omega arith)) (omega arith)
lines_room (x ∷ y ∷ z ∷ xs) k h each =
    let n = length xs in
    let a = lines_room xs k h (λ i q. each (suc (suc (suc i))) (suc-le-suc (suc-le-suc (suc-le-suc q)))) in
    let b = line_room x y z k h (each 0 (omega arith)) (each 1 (omega arith)) (each 2 (omega arith)) in
    rw (lines_cons x y z xs, length-append (line_of x y z) (lines_of xs))
    (omega (arith, a, b, suc-mul n (suc k), suc-mul (suc n) (suc k), suc-mul (suc (suc n)) (suc k)))
