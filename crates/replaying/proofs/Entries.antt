-- The walk over the log: a unit from one of its sets, an entry, the first entries. Assumes nothing.
use Prim.Native.Nat.{ℕ, zero, suc, ◌+◌, ◌/◌, ◌≤◌, ◌<◌}
use mathlib.Core.Path.{◌≡◌, refl, sym, ap, ap₂, ◌∙◌}
use mathlib.Core.Bool.{Bool}
use mathlib.Core.List.{List}
use native.Mathlib.Numerals.{add-one}
use native.Mathlib.Omega.{arith}
use lib.ListN.{get_or, length, take}
use lib.Seq.{get_or-take, length-take-le}
use Rattle.geometry.specs.declared.Geometry.{Geometry}
use Rattle.geometry.specs.Geometry.{tuples_of, bytes_of}
use Rattle.design.specs.Design.{Laid}
use Rattle.cells.specs.declared.Cell.{Cell}
use Rattle.cells.specs.Cells.{label_of, diagonal_of}
use Rattle.cells.specs.Ranges.{CellIn}
use Rattle.sets.specs.Starts.{region_starts, label_starts, diagonal_starts}
use Rattle.reaching.specs.declared.Kind.{Kind}
use Rattle.reaching.specs.declared.Kind.TheVariants.{Outer, Inner}
use Rattle.reaching.specs.Reach.{cell_numbered}
use Rattle.reaching.specs.State.{State, kind_in, log_steps}
use Rattle.reaching.specs.Logged.{Ended}
use Rattle.restoring.specs.Restore.{restored_in, OneOf}
use Rattle.replaying.specs.Replay.{replayed, LogIn}
use Rattle.replaying.specs.Steps.{RegionsApart, cell_bytes, entry_bytes}
use Rattle.replaying.proofs.Starts.{entry_step}

-- ---- a unit from one of its sets; xs is the list of the set's starts
module _ (G : Geometry) (ps : List ℕ) (x : Cell) (xs : List ℕ) where
  module _ (apart : RegionsApart G ps) (v : CellIn G x) (n : ℕ) (long : n ≡ bytes_of G) where
    pub label_one : (c : ℕ) → xs ≡ label_starts G ps x.row c → OneOf n xs x.position G.u
    label_one c e = rw (e, long) (apart.label x.row c x.position v.row v.position)

    pub diagonal_one : (j : ℕ) → xs ≡ diagonal_starts G (get_or ps x.position 0) j → OneOf n xs x.row G.u
    diagonal_one j e = rw (e, long) (apart.diagonal x.position j x.row v.position v.row)

  module _ (a b : List ℕ) where
    pub outer_bytes :
        (c : ℕ) → c ≡ label_of G x → xs ≡ label_starts G ps x.row c → b ≡ restored_in a xs x.position G.u
        → b ≡ cell_bytes G ps x Outer a
    unfolding cell_bytes
    outer_bytes c f e r =
        r ∙ ap (λ (ys : List ℕ). restored_in a ys x.position G.u) (e ∙ ap (label_starts G ps x.row) f)

    pub inner_bytes :
        (j : ℕ) → j ≡ diagonal_of G x → xs ≡ diagonal_starts G (get_or ps x.position 0) j → b ≡ restored_in a xs x.row G.u
        → b ≡ cell_bytes G ps x Inner a
    unfolding cell_bytes
    inner_bytes j f e r =
        r
        ∙ ap (λ (ys : List ℕ). restored_in a ys x.row G.u)
        (e ∙ ap (diagonal_starts G (get_or ps x.position 0)) f)

-- ---- an entry, as it was read
pub entry_read :
    (G : Geometry) (ps : List ℕ) (t e : ℕ) (a b : List ℕ) (x : Cell) (r : ℕ × Kind) (kind : Kind) → r ≡ (e / 2, kind_in e)
    → x ≡ cell_numbered G t r.0 → r.1 ≡ kind → b ≡ cell_bytes G ps x kind a → b ≡ entry_bytes G ps t e a
unfolding entry_bytes
entry_read G ps t e a b x r kind f is k h =
    let n : r.0 ≡ e / 2 = ap (λ (z : ℕ × Kind). z.0) f in
    let m : kind ≡ kind_in e = sym k ∙ ap (λ (z : ℕ × Kind). z.1) f in
    h ∙ ap₂ (λ (y : Cell) (z : Kind). cell_bytes G ps y z a) (is ∙ ap (cell_numbered G t) n) m

-- ---- the log

-- the first n entries alone say the same steps
log_front : (G : Geometry) (t : ℕ) (log : List ℕ) (n m : ℕ) → m ≤ n → log_steps G t (take n log) m ≡ log_steps G t log m
unfolding log_steps
log_front G t log n zero h = refl
log_front G t log n (suc m) h =
    let w : get_or (take n log) m 0 ≡ get_or log m 0 = get_or-take n log m 0 (omega arith) in
    rw (w, log_front G t log n m (omega arith))

pub steps_front : (G : Geometry) (t : ℕ) (log : List ℕ) (n : ℕ) → n ≤ length log → log_steps G t (take n log) (length (take n log)) ≡ log_steps G t log n
steps_front G t log n h = rw (length-take-le n log h) (log_front G t log n n (omega arith))

-- the entries that the passes over a tuple leave are of its cells
pub ended_log :
    {G : Geometry} {d marks : List ℕ} {t : ℕ} {s : State} {complete : Bool} → Ended G d marks t s complete
    → LogIn G (take s.count s.log)
ended_log {s = s} w =
    record {
      low = λ i h.
          let l : i < s.count = omega (arith, length-take-le s.count s.log w.room) in
          rw (get_or-take s.count s.log i 0 l) (w.low i l);
    }

-- ---- the first i entries, oldest first
pub replayed_none : (G : Geometry) (d : List ℕ) (t : ℕ) (log : List ℕ) (n : ℕ) (a : List ℕ) → n ≡ 0 → a ≡ replayed G d t (log_steps G t log n) a
unfolding replayed log_steps
replayed_none G d t log n a e = rw e

-- the step that entry i names comes after those before it
pub replayed_more :
    {G : Geometry} {d : List ℕ} {t : ℕ} {log : List ℕ} {i : ℕ} (a₀ a ps b : List ℕ) → Laid G d → t < tuples_of G → LogIn G log
    → i < length log → ps ≡ region_starts G d t → a ≡ replayed G d t (log_steps G t log i) a₀
    → b ≡ entry_bytes G ps t (get_or log i 0) a → b ≡ replayed G d t (log_steps G t log (i + 1)) a₀
unfolding replayed log_steps
replayed_more {G} {d} {t} {log} {i} a₀ a ps b L ht l h p f r =
    rw (add-one i, ← f, ← entry_step G d L t ht (get_or log i 0) (l.low i h) a, ← p) r
