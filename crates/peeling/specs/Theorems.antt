-- What is proved of the passes, whatever the sets: the statements alone. Assumes nothing.
use Rattle.std.specs.Prelude.{ℕ, zero, suc, ◌+◌, ◌<◌, ◌≡◌, Bool, true, false, ◌⊎◌, List, [], ◌∷◌, length}
use Rattle.std.specs.Int.Bits.{bit_xor}
use Rattle.counting.specs.Counting.{count_below}
use Rattle.peeling.specs.Peeling.{Side, Step, restored, present_after, sweep, passes, peeled, byte_after}

-- every unit of the set but the cell's own is in R
abbrev pub Rest : (R : ℕ → Type 0) → Side → Type 0
Rest R s = (q : ℕ) → q < s.size → (q ≡ s.own → ⊥) → R (s.member q)

-- some set of the list lacks only the cell
abbrev pub SomeRest : (R : ℕ → Type 0) → List Side → Type 0
SomeRest R [] = ⊥
SomeRest R (v ∷ vs) = Rest R v ⊎ SomeRest R vs

-- R holds the cells present from the start, and each cell with a set that "lacks only it", where R is what is present
pub record Closed (start : ℕ → Bool) (sides : ℕ → List Side) (n : ℕ) (R : ℕ → Type 0) : Type 0 where
  pub from_start : (x : ℕ) → start x ≡ true → R x
  pub closed : (x : ℕ) → x < n → SomeRest R (sides x) → R x

-- present when the passes end
abbrev pub Reached : (start : ℕ → Bool) → (sides : ℕ → List Side) → (n : ℕ) → ℕ → Type 0
Reached start sides n x = present_after start (peeled start sides n) x ≡ true

-- without order and without fuel: what the passes reach is closed, and lies in every closed set
pub record Least (start : ℕ → Bool) (sides : ℕ → List Side) (n : ℕ) : Type 1 where
  pub closed : Closed start sides n (Reached start sides n)
  pub least : (R : ℕ → Type 0) → Closed start sides n R → (x : ℕ) → Reached start sides n x → R x

abbrev pub ThePassesReachTheLeastClosedSet : Type 1
ThePassesReachTheLeastClosedSet =
    (start : ℕ → Bool) (sides : ℕ → List Side) (n : ℕ) → Least start sides n

-- more fuel changes nothing
abbrev pub MorePassesRestoreNothing : Type 0
MorePassesRestoreNothing =
    (start : ℕ → Bool) (sides : ℕ → List Side) (n m : ℕ) →
    passes start sides n (n + m) [] ≡ peeled start sides n

-- the last pass restores nothing: "until one restores nothing"
abbrev pub TheLastPassRestoresNothing : Type 0
TheLastPassRestoresNothing =
    (start : ℕ → Bool) (sides : ℕ → List Side) (n : ℕ) →
    sweep start sides n (peeled start sides n) ≡ peeled start sides n

-- a restored cell is below n and was missing; there are as many steps as cells restored, so each is restored once
pub record Once (start : ℕ → Bool) (ss : List Step) (n : ℕ) : Type 0 where
  pub below : (x : ℕ) → restored ss x ≡ true → x < n
  pub missing : (x : ℕ) → restored ss x ≡ true → start x ≡ false
  pub counted : length ss ≡ count_below (restored ss) n

abbrev pub EachCellIsRestoredOnce : Type 0
EachCellIsRestoredOnce = (start : ℕ → Bool) (sides : ℕ → List Side) (n : ℕ) → Once start (peeled start sides n) n

-- the set's first n units XOR to this
abbrev pub side_sum : (ℕ → ℕ) → Side → ℕ → ℕ
side_sum bytes s zero = 0
side_sum bytes s (suc n) = bit_xor (side_sum bytes s n) (bytes (s.member n))

-- a side is a cell's own view: its own unit is the cell
pub record Own (x : ℕ) (s : Side) : Type 0 where
  pub low : s.own < s.size
  pub is : s.member s.own ≡ x

-- every set of the list is the cell's own and XORs to zero
abbrev pub AllZero : (ℕ → ℕ) → ℕ → List Side → Type 0
AllZero bytes x [] = Unit {0}
AllZero bytes x (v ∷ vs) = (Own x v × (side_sum bytes v v.size ≡ 0)) × AllZero bytes x vs

-- on consistent bytes each restored unit is what it was before the loss, whatever the lost disks held: where every set of
-- `before` XORs to zero and `held` agrees with it on the cells present from the start, every present cell comes back
abbrev pub ConsistentBytesComeBack : Type 0
ConsistentBytesComeBack =
    (start : ℕ → Bool) (sides : ℕ → List Side) (n : ℕ) (before held : ℕ → ℕ) →
    ((x : ℕ) → x < n → AllZero before x (sides x)) → ((x : ℕ) → start x ≡ true → held x ≡ before x) →
    (x : ℕ) → present_after start (peeled start sides n) x ≡ true → byte_after held (peeled start sides n) x ≡ before x

-- what the array held on lost disks never influences the result
abbrev pub LostBytesDoNotCount : Type 0
LostBytesDoNotCount =
    (start : ℕ → Bool) (sides : ℕ → List Side) (n : ℕ) (a b : ℕ → ℕ) → ((x : ℕ) → start x ≡ true → a x ≡ b x) →
    (x : ℕ) → present_after start (peeled start sides n) x ≡ true →
    byte_after a (peeled start sides n) x ≡ byte_after b (peeled start sides n) x
