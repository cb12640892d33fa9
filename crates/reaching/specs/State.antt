-- The passes as the code keeps them: one flag a cell, and a log of what was restored, oldest first. No byte of the array is
-- named. Assumes nothing.
use Rattle.std.specs.Prelude.{ℕ, zero, suc, ◌+◌, ◌-◌, ◌*◌, ◌/◌, ◌%◌, ◌≤◌, ◌<◌, ◌≡◌, Bool, true, false, not, cond, ◌&&◌, ◌||◌, List, [], ◌∷◌, ◌++◌, ltb, eqb, get_or, length, set, Option, Some, None}
use Rattle.counting.specs.Counting.{any_below, count_below}
use Rattle.geometry.specs.declared.Geometry.{Geometry}
use Rattle.geometry.specs.Geometry.{disks_of}
use Rattle.design.specs.Design.{group_at}
use Rattle.cells.specs.declared.Cell.{Cell}
use Rattle.layout.specs.Places.{place_of}
use Rattle.peeling.specs.Peeling.{Side, Step, lacks_only}
use Rattle.reaching.specs.declared.Kind.{Kind}
use Rattle.reaching.specs.declared.Kind.TheVariants.{Outer, Inner}
use Rattle.reaching.specs.declared.Set.{Set}
use Rattle.reaching.specs.Reach.{tuple_cells_of, cell_numbered, outer_side, inner_side}

-- ---- sets

-- unit q of a set is cell base + q·step + (column + q·turn) % g [for 1 ≤ g]
unfoldable pub side_of : Set → Side
side_of x =
    record {
      size = x.size;
      member = λ (q : ℕ). x.base + q * x.step + (x.column + q * x.turn) % x.g;
      own = x.own;
    }

-- small enough that its units' numbers fit, the column and its turn at most once round, and each unit below n
pub record SetIn (n : ℕ) (x : Set) : Type 0 where
  pub size : x.size ≤ 13
  pub base : x.base ≤ 1690
  pub step : x.step ≤ 169
  pub column : x.column ≤ x.g
  pub turn : x.turn ≤ x.g
  pub g_low : 1 ≤ x.g
  pub g_high : x.g ≤ 13
  pub low : (q : ℕ) → q < x.size → (side_of x).member q < n

-- ---- the state

-- the flags, the log, and how many of its entries are written
pub record State : Type 0 where
  pub flags : List Bool
  pub log : List ℕ
  pub count : ℕ

abbrev pub state : List Bool → List ℕ → ℕ → State
state flags log count = record { flags = flags; log = log; count = count }

-- the cell is present
abbrev pub seen : List Bool → ℕ → Bool
seen flags n = get_or flags n false

-- how many cells are missing
abbrev pub missing : List Bool → ℕ
missing flags = count_below (λ (n : ℕ). not (seen flags n)) (length flags)

-- there is a flag for each cell, and room in the log for each that is missing
pub record Room (G : Geometry) (s : State) : Type 0 where
  pub flags : length s.flags ≡ tuple_cells_of G
  pub log : s.count + missing s.flags ≤ length s.log

-- the outer set restores the cell: "for rows i below g-1" [for 1 ≤ g]
unfoldable pub outer_restores : Geometry → (present : ℕ → Bool) → Cell → Bool
outer_restores G present x = ltb x.row (G.g - 1) && lacks_only present (outer_side G x)

-- the order of trial
abbrev pub first_of : (outer inner : Bool) → Option Kind
first_of true inner = Some Outer
first_of false true = Some Inner
first_of false false = None

-- the set that restores cell n, if one of its sets lacks only it
unfoldable pub kind_of : Geometry → (t : ℕ) → (present : ℕ → Bool) → ℕ → Option Kind
kind_of G t present n =
    first_of (outer_restores G present (cell_numbered G t n)) (lacks_only present (inner_side G (cell_numbered G t n)))

-- in an entry of the log: 0 for the outer set, 1 for the inner
abbrev pub kind_number : Kind → ℕ
kind_number Outer = 0
kind_number Inner = 1

-- cell n is present from now on, and the log says by which kind of set
unfoldable pub restored_by : State → (n : ℕ) → Kind → State
restored_by s n kind =
    state (set s.flags n true) (set s.log s.count (2 * n + kind_number kind)) (s.count + 1)

-- where no set restores the cell, the state stays
abbrev pub restored_if : State → (n : ℕ) → Option Kind → State
restored_if s n None = s
restored_if s n (Some kind) = restored_by s n kind

-- the state stays where the test passes
abbrev pub stay : Bool → (s next : State) → State
stay true s next = s
stay false s next = next

-- a visit to cell n
unfoldable pub visited : Geometry → (t n : ℕ) → State → State
visited G t n s =
    stay (seen s.flags n) s (restored_if s n (kind_of G t (seen s.flags) n))

-- the first n cells of a pass
unfoldable pub swept : Geometry → (t n : ℕ) → State → State
swept G t zero s = s
swept G t (suc n) s = visited G t n (swept G t n s)

-- "Passes repeat until one restores nothing"
unfoldable pub passed : Geometry → (t fuel : ℕ) → State → State
passed G t zero s = s
passed G t (suc fuel) s =
    stay (eqb (swept G t (tuple_cells_of G) s).count s.count) s (passed G t fuel (swept G t (tuple_cells_of G) s))

-- ---- the log

-- the set of this kind
abbrev pub kind_side : Geometry → Cell → Kind → Side
kind_side G x Outer = outer_side G x
kind_side G x Inner = inner_side G x

-- the kind that an entry names
abbrev pub kind_in : (entry : ℕ) → Kind
kind_in e = cond (eqb (e % 2) 0) Outer Inner

-- entry 2·cell + kind
unfoldable pub step_of : Geometry → (t entry : ℕ) → Step
step_of G t e = record { cell = e / 2; side = kind_side G (cell_numbered G t (e / 2)) (kind_in e) }

-- its first n entries as steps, newest first
unfoldable pub log_steps : Geometry → (t : ℕ) → List ℕ → (n : ℕ) → List Step
log_steps G t log zero = []
log_steps G t log (suc n) = step_of G t (get_or log n 0) ∷ log_steps G t log n

-- ---- the start

-- f 0, f 1, up to f (n - 1)
unfoldable pub tests_of : (ℕ → Bool) → ℕ → List Bool
tests_of f zero = []
tests_of f (suc n) = tests_of f n ++ (f n ∷ [])

-- the disks' flags say that cell n of tuple t is present
unfoldable pub start_flag : Geometry → List ℕ → (lost : List Bool) → (t n : ℕ) → Bool
start_flag G d lost t n = not (get_or lost (place_of G d (cell_numbered G t n)).disk.0 false)

abbrev pub start_flags : Geometry → List ℕ → (lost : List Bool) → (t : ℕ) → List Bool
start_flags G d lost t = tests_of (start_flag G d lost t) (tuple_cells_of G)

-- some disk of the tuple's regions is lost
unfoldable pub touched_of : Geometry → List ℕ → (lost : List Bool) → (t : ℕ) → Bool
touched_of G d lost t =
    any_below (λ (l : ℕ). any_below (λ (x : ℕ). get_or lost (group_at G.k d t l * G.g + x) false) G.g) G.k

-- ---- the whole

-- a flag for each disk and for each cell, and room in the log for every cell
pub record ReachRoom (G : Geometry) (lost flags : List Bool) (log : List ℕ) : Type 0 where
  pub disks : length lost ≡ disks_of G
  pub cells : length flags ≡ tuple_cells_of G
  pub room : tuple_cells_of G ≤ length log

-- every flag is set
unfoldable pub all_seen : List Bool → Bool
all_seen flags = not (any_below (λ (n : ℕ). not (seen flags n)) (length flags))

-- a tuple that no lost disk touches is left at once
unfoldable pub reached_state : Geometry → List ℕ → (lost : List Bool) → (t : ℕ) → List Bool → List ℕ → State
reached_state G d lost t flags log =
    stay (not (touched_of G d lost t)) (state flags log 0)
    (passed G t (tuple_cells_of G) (state (start_flags G d lost t) log 0))

-- and every cell of it is present; of any other, if every flag is set when the passes end
unfoldable pub reached_all : Geometry → List ℕ → (lost : List Bool) → (t : ℕ) → List Bool → List ℕ → Bool
reached_all G d lost t flags log = not (touched_of G d lost t) || all_seen (reached_state G d lost t flags log).flags
