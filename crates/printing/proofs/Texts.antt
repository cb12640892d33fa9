-- The text of a refusal at the front of lent bytes. Assumes nothing.
use Prim.Native.Nat.{ℕ, ◌+◌, ◌-◌, ◌^◌, ◌≤◌, ◌<◌}
use mathlib.Core.List.{List, [], ◌∷◌}
use native.Mathlib.Omega.{arith}
use lib.ListN.{length}
use borrow.Rule.Slice.PartMut.{mid_of, put_mid}
use Rattle.decimals.specs.Decimal.{followed, space, line_end}
use Rattle.decimals.proofs.Theorems.{at_most_ten_digits}
use Rattle.decimals.proofs.Stores.{Put, room_left, put_append, followed_length}
use Rattle.printing.specs.Shown.{refused_text}

-- "refused", a space
abbrev pub refused_word : List ℕ
refused_word = 114 ∷ 101 ∷ 102 ∷ 117 ∷ 115 ∷ 101 ∷ 100 ∷ space ∷ []

module _ (n : ℕ) (fits : n < 2 ^ 32) (old mid : List ℕ) (at : ℕ) (f : Put old refused_word at mid) where
  -- there is room for the number
  pub number_room : 18000 ≤ length old → length (followed n line_end) ≤ length (mid_of at (length mid - at) mid)
  number_room room =
      room_left old refused_word at mid _ f (omega (arith, at_most_ten_digits n fits, followed_length n line_end))

  pub refused_front :
      (r : ℕ) (last : List ℕ) → Put (mid_of at (length mid - at) mid) (followed n line_end) r last →
      Put old (refused_text n) (at + r) (put_mid at (length mid - at) mid last)
  unfolding refused_text
  refused_front r last g = put_append old refused_word at mid (followed n line_end) r last f g
