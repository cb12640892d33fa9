-- The units of a set by its seven numbers: outer and inner sets alike, each unit a cell of the tuple. Assumes nothing.
use Prim.Native.Nat.{ℕ, ◌+◌, ◌-◌, ◌*◌, ◌%◌, ◌<◌, ◌≤◌}
use mathlib.Core.Path.{◌≡◌, ◌∙◌, ap, fun_ext}
use native.Mathlib.Nat.{mod-add-mod, mul-le-mul, mul_comm, mul_assoc, add-mul, add_comm, mul-one}
use native.Mathlib.Omega.{arith}
use Rattle.geometry.specs.declared.Geometry.{Geometry}
use Rattle.geometry.specs.Geometry.{Sound}
use Rattle.region.specs.Columns.{label_column, diagonal_column}
use Rattle.cells.specs.declared.Cell.{Cell}
use Rattle.cells.specs.Cells.{label_of, diagonal_of}
use Rattle.cells.specs.Ranges.{CellIn}
use Rattle.cells.specs.Sets.{outer_member, inner_member}
use Rattle.region.proofs.Turns.{label_column_lt, diagonal_column_lt}
use Rattle.reaching.specs.declared.Set.{Set}
use Rattle.reaching.specs.Reach.{tuple_cells_of, number_of, outer_side, inner_side}
use Rattle.reaching.specs.State.{side_of, SetIn}
use Rattle.reaching.proofs.Numbers.{number_low}

pub product_le : (a b m n : ℕ) → a ≤ m → b ≤ n → a * b ≤ m * n
product_le a b m n p q = mul-le-mul p q

-- ---- from one unit to the next

-- where unit q's row of columns begins, and its column there
pub record At (x : Set) (p c q : ℕ) : Type 0 where
  pub line : p ≡ x.base + q * x.step
  pub column : c ≡ (x.column + q * x.turn) % x.g

module _ (x : Set) (p c q : ℕ) (a : At x p c q) where
  pub at_next : (r : ℕ) → r ≡ (c + x.turn) % x.g → At x (p + x.step) r (q + 1)
  at_next r e =
      let w : x.column + q * x.turn + x.turn ≡ x.column + (q + 1) * x.turn = omega arith in
      record {
        line = omega (arith, a.line);
        column =
            e ∙ ap (λ (n : ℕ). (n + x.turn) % x.g) a.column ∙ mod-add-mod (x.column + q * x.turn) x.g x.turn
            ∙ ap (λ (n : ℕ). n % x.g) w;
      }

  pub at_is : p + c ≡ (side_of x).member q
  unfolding side_of
  at_is = rw (a.line, a.column)

  pub unit_low : (n : ℕ) → SetIn n x → q < x.size → p + c < n
  unit_low n h l = rw at_is (h.low q l)

-- ---- the two kinds
abbrev pub outer_set : Geometry → Cell → (c : ℕ) → Set
outer_set G x c =
    record {
      size = G.k;
      own = x.position;
      base = x.row * G.g;
      step = G.g * G.g;
      column = c;
      turn = x.row;
      g = G.g;
    }

abbrev pub inner_set : Geometry → Cell → (j : ℕ) → Set
inner_set G x j =
    record {
      size = G.g;
      own = x.row;
      base = x.position * (G.g * G.g);
      step = G.g;
      column = G.g - j;
      turn = 1;
      g = G.g;
    }

-- (l·g + i)·g = i·g + l·g²
lines : (g l i : ℕ) → (l * g + i) * g ≡ i * g + l * (g * g)
lines g l i = add-mul (l * g) i g ∙ ap (λ (y : ℕ). y + i * g) (mul_assoc l g g) ∙ add_comm (l * (g * g)) (i * g)

module _ (G : Geometry) (x : Cell) where
  outer_unit : (c l : ℕ) → (side_of (outer_set G x c)).member l ≡ number_of G (outer_member G x.tuple.0 x.row c l)
  unfolding side_of number_of label_column
  outer_unit c l = rw (lines G.g l x.row, mul_comm l x.row)

  inner_unit : (j i : ℕ) → (side_of (inner_set G x j)).member i ≡ number_of G (inner_member G x.tuple.0 x.position j i)
  unfolding side_of number_of diagonal_column
  inner_unit j i =
      rw (lines G.g x.position i, mul-one i, add_comm (G.g - j) i, add_comm (i * G.g) (x.position * (G.g * G.g)))

  pub outer_is : (c : ℕ) → c ≡ label_of G x → side_of (outer_set G x c) ≡ outer_side G x
  unfolding side_of outer_side
  outer_is c e =
      ap (λ (m : ℕ → ℕ). record { size = G.k; member = m; own = x.position })
      (fun_ext (λ (l : ℕ). rw e (outer_unit (label_of G x) l)))

  pub inner_is : (j : ℕ) → j ≡ diagonal_of G x → side_of (inner_set G x j) ≡ inner_side G x
  unfolding side_of inner_side
  inner_is j e =
      ap (λ (m : ℕ → ℕ). record { size = G.g; member = m; own = x.row })
      (fun_ext (λ (i : ℕ). rw e (inner_unit (diagonal_of G x) i)))

  module _ (s : Sound G) (h : CellIn G x) where
    -- every unit of a set is a cell of the tuple
    outer_low : (c l : ℕ) → l < G.k → number_of G (outer_member G x.tuple.0 x.row c l) < tuple_cells_of G
    outer_low c l q =
        number_low G (outer_member G x.tuple.0 x.row c l)
        (record { tuple = h.tuple; position = q; row = h.row; column = label_column_lt G.g l x.row c (omega arith) })

    inner_low : (j i : ℕ) → i < G.g → number_of G (inner_member G x.tuple.0 x.position j i) < tuple_cells_of G
    inner_low j i q =
        number_low G (inner_member G x.tuple.0 x.position j i)
        (record { tuple = h.tuple; position = h.position; row = q; column = diagonal_column_lt G.g j i (omega arith) })

    pub outer_unit_low : (l : ℕ) → l < (outer_side G x).size → (outer_side G x).member l < tuple_cells_of G
    unfolding outer_side
    outer_unit_low l q = outer_low (label_of G x) l q

    pub inner_unit_low : (i : ℕ) → i < (inner_side G x).size → (inner_side G x).member i < tuple_cells_of G
    unfolding inner_side
    inner_unit_low i q = inner_low (diagonal_of G x) i q

    -- and its seven numbers are small
    pub outer_set_in : (c : ℕ) → c < G.g → SetIn (tuple_cells_of G) (outer_set G x c)
    outer_set_in c p =
        record {
          size = omega arith;
          base = let b : x.row * G.g ≤ 13 * 13 = product_le x.row G.g 13 13 (omega arith) (omega arith) in omega arith;
          step = product_le G.g G.g 13 13 (omega arith) (omega arith);
          column = omega arith;
          turn = omega arith;
          g_low = omega arith;
          g_high = omega arith;
          low = λ (l : ℕ) (q : l < G.k). rw (outer_unit c l) (outer_low c l q);
        }

    pub inner_set_in : (j : ℕ) → SetIn (tuple_cells_of G) (inner_set G x j)
    inner_set_in j =
        let a : G.g * G.g ≤ 13 * 13 = product_le G.g G.g 13 13 (omega arith) (omega arith) in
        let b : x.position * (G.g * G.g) ≤ 10 * (13 * 13) =
        product_le x.position (G.g * G.g) 10 (13 * 13) (omega arith) a in
        record {
          size = omega arith;
          base = omega arith;
          step = omega arith;
          column = omega arith;
          turn = omega arith;
          g_low = omega arith;
          g_high = omega arith;
          low = λ (i : ℕ) (q : i < G.g). rw (inner_unit j i) (inner_low j i q);
        }
