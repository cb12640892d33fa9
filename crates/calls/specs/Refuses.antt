-- 00, demand 1, of one call at given arguments: it "takes any design list, sizes, marks and bytes .. It refuses by a numbered
-- reason exactly when our rules give that reason. A refusal alters no lent byte." Assumes nothing.
use Rattle.std.specs.Prelude.{ℕ, ◌≡◌, List, [], ◌∷◌}
use Rattle.std.specs.Borrow.{Bor, MutBor}
use Rattle.refusal.specs.Refusal.{Outcome, refused, accepted}
use Rattle.refusal.specs.Due.{Row, Exact}

-- the numbers of the rows, in their order
abbrev pub numbers_of : List Row → List ℕ
numbers_of [] = []
numbers_of (x ∷ xs) = x.number ∷ numbers_of xs

-- a lent list; one that the call may change; two of these; what such lists hold: of one `now`, of two `both`, of none `nothing`
abbrev pub Lent : Type 0
Lent = Bor (List ℕ)

abbrev pub LentMut : Type 0
LentMut = MutBor (List ℕ)

abbrev pub TwoLent : Type 0
TwoLent = LentMut × LentMut

abbrev pub nothing : Unit {0} → Unit {0}
nothing l = l

abbrev pub both : TwoLent → List ℕ × List ℕ
both l = (l.0.now, l.1.now)

-- no refusal applies: every answer is an acceptance
abbrev pub always : {R : Type 0} → R → Outcome R
always r = accepted r

-- `Asked`: what the call's contract asks of its arguments. `applies`: the numbers of 01 that apply to the call. `rows`: these rows
-- of 01's table, in words. `outcome`: 01's number and place in an answer. `held`: what the lent lists hold that the call may
-- change, `before` as they are lent. `Allowed`: what the call's contract allows to be answered, and to be left in those lists
pub record Refuses
    {R A L H : Type 0} (Asked : Type 0) (applies : List ℕ) (rows : List Row) (outcome : R → Outcome A) (held : L → H) (before : L)
    (Allowed : R → L → Type 0) : Type 0
  where
    -- "takes any design list, sizes, marks and bytes": what the contract asks is so of these arguments, whatever they are
    pub takes : Asked
    -- "Tested in this order, those that apply to a call"
    pub numbers : numbers_of rows ≡ applies
    -- some answer is allowed, so that nothing below is empty
    pub answers : (r : R) × (l : L) × Allowed r l
    -- refused by n at p exactly if row n is the first that holds, and holds at p; accepted exactly if none does
    pub exact : (r : R) (l : L) → Allowed r l → Exact rows (outcome r)
    -- "A refusal alters no lent byte"
    pub stays : (r : R) (l : L) (n p : ℕ) → Allowed r l → outcome r ≡ refused n p → held l ≡ held before
    -- two answers are one, and leave the same bytes
    pub one : (r s : R) (l m : L) → Allowed r l → Allowed s m → (r ≡ s) × (held l ≡ held m)
