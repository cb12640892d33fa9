-- 01, "Refusal numbers": "Tested in this order, those that apply to a call. Each returns its number and a place, and every
-- lent byte stays." A call supplies the list of its rules; everything else about refusing is here. Assumes nothing.
use Rattle.std.specs.Prelude.{ℕ, Bool, true, false, List, [], ◌∷◌, Result, Ok, Err}
use Rattle.refusal.specs.declared.Refusal.{Refusal}
use Rattle.refusal.specs.declared.Refusal.TheVariants.{
  NotHeld,
  BeyondLimits,
  NotWhole,
  BadRow,
  BadPair,
  NotAllowed,
  WrongLength,
  HighMark,
  PlaceTooHigh,
  UserUnitTooHigh,
  LeavesUnit,
  Marked,
  Incomplete,
  ListTooShort,
}

-- a row of the table, at one call's arguments: the number, whether it is due, and the place
pub record Rule : Type 0 where
  pub number : ℕ
  pub test : Bool
  pub place : ℕ

abbrev pub rule : ℕ → Bool → ℕ → Rule
rule n t p = record { number = n; test = t; place = p }

-- what a call answers: refused by a number with a place, or accepted with what it hands back
pub data Outcome (A : Type 0) : Type 0 where
  refused : ℕ → ℕ → Outcome A
  accepted : A → Outcome A

abbrev pub unless : {A : Type 0} → Bool → ℕ → ℕ → Outcome A → Outcome A
unless true n p rest = refused n p
unless false n p rest = rest

-- the first rule whose test passes refuses; where none does, the call is accepted with a
abbrev pub answer : {A : Type 0} → List Rule → A → Outcome A
answer [] a = accepted a
answer (x ∷ xs) a = unless x.test x.number x.place (answer xs a)

-- the answer of a call that hands nothing back
abbrev pub verdict : List Rule → Outcome (Unit {0})
verdict xs = answer xs tt

-- what a lent list holds at return: the new one where the call is accepted, the old one where it is refused
abbrev pub kept : {A : Type 0} {X : Type 0} → Outcome A → X → X → X
kept (refused n p) new old = old
kept (accepted a) new old = new

-- 01's number of each reason
abbrev pub number_of : Refusal → ℕ
number_of NotHeld = 1
number_of BeyondLimits = 2
number_of NotWhole = 3
number_of (BadRow row) = 4
number_of (BadPair pair) = 5
number_of NotAllowed = 6
number_of WrongLength = 7
number_of (HighMark disk) = 8
number_of PlaceTooHigh = 9
number_of UserUnitTooHigh = 10
number_of LeavesUnit = 11
number_of (Marked disk) = 12
number_of (Incomplete tuple) = 13
number_of ListTooShort = 14

-- and its place: "A later refusal for which no place is named has place 0"
abbrev pub place_of : Refusal → ℕ
place_of NotHeld = 0
place_of BeyondLimits = 0
place_of NotWhole = 0
place_of (BadRow row) = row
place_of (BadPair pair) = pair
place_of NotAllowed = 0
place_of WrongLength = 0
place_of (HighMark disk) = disk.0
place_of PlaceTooHigh = 0
place_of UserUnitTooHigh = 0
place_of LeavesUnit = 0
place_of (Marked disk) = disk.0
place_of (Incomplete tuple) = tuple.0
place_of ListTooShort = 0

-- 01's number, place and value for what a call returns
abbrev pub outcome_of : {A : Type 0} → Result A Refusal → Outcome A
outcome_of (Ok a) = accepted a
outcome_of (Err x) = refused (number_of x) (place_of x)
