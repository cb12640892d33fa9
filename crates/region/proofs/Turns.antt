-- Turning right and back modulo g: labels and columns, diagonals and columns are inverse. All that is asked of g is that it
-- is above 0.
use Prim.Native.Nat.{ℕ, ◌+◌, ◌-◌, ◌*◌, ◌%◌, ◌<◌, ◌≤◌}
use mathlib.Core.Path.{◌≡◌, ◌∙◌, ap, refl, sym}
use mathlib.Core.Bool.{Bool, true, false}
use mathlib.Core.Logic.{◌⊎◌, inl, inr}
use native.Mathlib.Nat.{mod-lt, mod-eq_of_lt, mod-eq-sub-mod, mod-add-mod, add-mul-mod_self_right}
use native.Mathlib.Nat.{mul-add, add-sub_of_le, sub-add_cancel}
use native.Mathlib.Omega.{arith}
use lib.Dec.{ltb}
use borrow.Author.Tests.{ltb-true, ltb-false}
use Rattle.region.specs.Columns.{label_column, label_at, diagonal_column, diagonal_at, parity_column}

-- what n modulo g is for n below 2g
abbrev pub ModTwice : ℕ → ℕ → Type 0
ModTwice g n = ((n < g) × (n % g ≡ n)) ⊎ ((g ≤ n) × (n % g ≡ n - g))

pub mod_twice : (g n : ℕ) → n < g + g → ModTwice g n
mod_twice g n h = go (ltb n g) refl
  where
    go : (b : Bool) → ltb n g ≡ b → ModTwice g n
    go true e = inl (ltb-true n g e, mod-eq_of_lt (ltb-true n g e))
    go false e =
        let l : g ≤ n = ltb-false n g e in
        let s : n - g < g = omega arith in
        inr (l, mod-eq-sub-mod l ∙ mod-eq_of_lt s)

-- whole turns change nothing
mod_turned : (g m x n : ℕ) → x < g → n ≡ x + m * g → n % g ≡ x
mod_turned g m x n h e = ap (λ (y : ℕ). y % g) e ∙ add-mul-mod_self_right x m g ∙ mod-eq_of_lt h

-- turned by a and then by b, whole turns together, a number is where it was
pub turn_back : (g m a b x : ℕ) → a + b ≡ m * g → x < g → ((x + a) % g + b) % g ≡ x
turn_back g m a b x e h = mod-add-mod (x + a) g b ∙ mod_turned g m x (x + a + b) h (omega arith)

-- "label (i,c) stands .. in column (c + i·l) mod g": the label of that column is c
pub label_of_column : (g l i c : ℕ) → l ≤ g → c < g → label_at g l i (label_column g l i c) ≡ c
unfolding label_at label_column
label_of_column g l i c h =
    turn_back g i (i * l) (i * (g - l)) c (sym (mul-add i l (g - l)) ∙ ap (λ (y : ℕ). i * y) (add-sub_of_le h))

pub column_of_label : (g l i x : ℕ) → l ≤ g → x < g → label_column g l i (label_at g l i x) ≡ x
unfolding label_at label_column
column_of_label g l i x h =
    turn_back g i (i * (g - l)) (i * l) x (sym (mul-add i (g - l) l) ∙ ap (λ (y : ℕ). i * y) (sub-add_cancel h))

pub label_column_lt : (g l i c : ℕ) → 0 < g → label_column g l i c < g
unfolding label_column
label_column_lt g l i c h = mod-lt (c + i * l) h

pub label_at_lt : (g l i x : ℕ) → 0 < g → label_at g l i x < g
unfolding label_at
label_at_lt g l i x h = mod-lt (x + i * (g - l)) h

-- "column (i - j) mod g": with j added it is i, so a diagonal has one unit in a column
pub row_of_column : (g j i : ℕ) → j ≤ g → i < g → (diagonal_column g j i + j) % g ≡ i
unfolding diagonal_column
row_of_column g j i h = turn_back g 1 (g - j) j i (omega arith)

pub diagonal_once : (g j i n : ℕ) → j ≤ g → i < g → n < g → diagonal_column g j i ≡ diagonal_column g j n → i ≡ n
diagonal_once g j i n h p q e =
    sym (row_of_column g j i h p) ∙ ap (λ (x : ℕ). (x + j) % g) e ∙ row_of_column g j n h q

-- equation 2: "Row g-1 holds its parity, in column g-1-j"
pub parity_column_lem : (g j : ℕ) → j < g → diagonal_column g j (g - 1) ≡ parity_column g j
unfolding diagonal_column
parity_column_lem g j h = mod_turned g 1 (g - 1 - j) (g - 1 + (g - j)) (omega arith) (omega arith)

-- i - (i - j) is j, modulo g
turn_twice : (g i j : ℕ) → i < g → j < g → (i + (g - (i + (g - j)) % g)) % g ≡ j
turn_twice g i j h l = go (mod_twice g (i + (g - j)) (omega arith))
  where
    go : ModTwice g (i + (g - j)) → (i + (g - (i + (g - j)) % g)) % g ≡ j
    go (inl x) = mod_turned g 0 j (i + (g - (i + (g - j)) % g)) l (omega (arith, x.1))
    go (inr x) = mod_turned g 1 j (i + (g - (i + (g - j)) % g)) l (omega (arith, x.1))

-- "diagonal j of a region has the units of row i, column (i - j) mod g": the diagonal of that column is j
pub diagonal_of_column : (g i j : ℕ) → i < g → j < g → diagonal_at g i (diagonal_column g j i) ≡ j
unfolding diagonal_at diagonal_column
diagonal_of_column g i j h l = turn_twice g i j h l

pub column_of_diagonal : (g i x : ℕ) → i < g → x < g → diagonal_column g (diagonal_at g i x) i ≡ x
unfolding diagonal_at diagonal_column
column_of_diagonal g i x h l = turn_twice g i x h l

pub diagonal_column_lt : (g j i : ℕ) → 0 < g → diagonal_column g j i < g
unfolding diagonal_column
diagonal_column_lt g j i h = mod-lt (i + (g - j)) h

pub diagonal_at_lt : (g i x : ℕ) → 0 < g → diagonal_at g i x < g
unfolding diagonal_at
diagonal_at_lt g i x h = mod-lt (i + (g - x)) h

pub parity_diagonal : (g j : ℕ) → j < g → diagonal_at g (g - 1) (parity_column g j) ≡ j
parity_diagonal g j h =
    ap (diagonal_at g (g - 1)) (sym (parity_column_lem g j h)) ∙ diagonal_of_column g (g - 1) j (omega arith) h
