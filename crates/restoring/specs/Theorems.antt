-- What is proved of a restored unit, each under its sentence of 01: the statements alone. Those over the function's own contract
-- are `two_results` and `some_result` (proofs/TwoResults.antt). Assumes nothing.
use Rattle.std.specs.Prelude.{ℕ, ◌+◌, ◌≤◌, ◌<◌, ◌≡◌, List, ◌⊎◌, get_or, length}
use Rattle.leaves.specs.Bytes.{sum_at}
use Rattle.restoring.specs.Restore.{restored_in, OneOf}

-- "becomes the XOR of the rest": then the whole set XORs to zero
abbrev pub ARestoredSetIsZero : Type 0
ARestoredSetIsZero =
    (a ps : List ℕ) (q u : ℕ) → OneOf (length a) ps q u → (i : ℕ) → i < u → sum_at (restored_in a ps q u) ps i ≡ 0

-- "Units of present disks don't change": nor does any byte outside the restored unit
abbrev pub NoOtherByteChanges : Type 0
NoOtherByteChanges =
    (a ps : List ℕ) (q u : ℕ) → OneOf (length a) ps q u → (n : ℕ) → (n < get_or ps q 0) ⊎ (get_or ps q 0 + u ≤ n) →
    get_or (restored_in a ps q u) n 0 ≡ get_or a n 0

-- a set that XORs to zero holds that unit already
abbrev pub AZeroSetStays : Type 0
AZeroSetStays =
    (a ps : List ℕ) (q u : ℕ) → OneOf (length a) ps q u → ((i : ℕ) → i < u → sum_at a ps i ≡ 0) → restored_in a ps q u ≡ a
