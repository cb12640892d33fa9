-- The rows of a list as the chunks of k numbers that it is cut into. Assumes nothing.
use Prim.Native.Nat.{ℕ, suc, ◌+◌, ◌-◌, ◌*◌, ◌/◌, ◌≤◌, ◌<◌}
use mathlib.Core.Path.{◌≡◌, sym, ap, ap₂, ◌∙◌}
use mathlib.Core.Bool.{Bool, true, false, ◌||◌}
use mathlib.Core.List.{List, ◌++◌}
use native.Mathlib.Decide.{dec_lt}
use native.Mathlib.Nat.{mul-le-mul_right, suc-mul, mul-div_cancel}
use native.Mathlib.Numerals.{add-one}
use native.Mathlib.Omega.{arith}
use denote.Param.Members.{Mut, Called}
use denote.Ref.{Bor}
use lib.Dec.{leb, eqb}
use lib.ListN.{length, get_or, drop, length-drop, length-append, get_or-append}
use Rattle.std.proofs.lemmas.List.{get_or-drop}
use Rattle.std.specs.Prelude.{Option, Some, None, IfSome, IsSomeAnd, MatchOption}
use Rattle.std.specs.Iterator.Runs.{Run, IsChunksExactRun, CallKeepsClosure, AllItemsGive, IsFirstToGive}
use Rattle.std.specs.List.{IsSubsliceAt}
use lib.Seq.{drop_at, drop-drop}
use Rattle.std.specs.declared.slice.ChunksExact.{ChunksExact}
use Rattle.std.specs.Slice.Iter.{chunks_exact_rest, chunks_exact_size}
use Rattle.std.specs.Option.{option_map}
use Rattle.counting.specs.Counting.{first_below}
use Rattle.counting.proofs.Laws.{any_same, first_is, first_none}
use Rattle.design.specs.Design.{group_at, names}
use Rattle.checking.specs.Rules.{row_bad}

-- a row that lies whole within b rows is one of them
pub row_below : (k b t : ℕ) → 0 < k → t * k + k ≤ b * k → t < b
row_below k b t pos h = go (dec_lt t b)
  where
    go : Dec (t < b) → t < b
    go (yes q) = q
    go (no q) = let m : b * k ≤ t * k = mul-le-mul_right k (omega arith) in absurd (omega arith)

-- a list that is row t alone
pub record IsRow (k : ℕ) (d : List ℕ) (t : ℕ) (row : List ℕ) : Type 0 where
  pub size : length row ≡ k
  pub within : t * k + k ≤ length d
  pub each : (l : ℕ) → l < k → group_at k row 0 l ≡ group_at k d t l

module _ (k : ℕ) (d : List ℕ) (t : ℕ) (row : List ℕ) where
  pub row_is :
      length row ≡ k → t * k + k ≤ length d → ((l : ℕ) → l < k → get_or row l 0 ≡ get_or d (t * k + l) 0) → IsRow k d t row
  unfolding group_at
  row_is size within each =
      record {
        size = size;
        within = within;
        each = λ (l : ℕ) (q : l < k). let e : 0 * k + l ≡ l = omega arith in ap (λ (x : ℕ). get_or row x 0) e ∙ each l q;
      }

  module _ (r : IsRow k d t row) where
    pub row_same_bad : (v : ℕ) → row_bad v (length row) row 0 ≡ row_bad v k d t
    unfolding row_bad
    row_same_bad v =
        rw r.size
        (ap₂ ◌||◌
        (any_same (λ (l : ℕ). leb v (group_at k row 0 l)) (λ (l : ℕ). leb v (group_at k d t l)) k
        (λ (l : ℕ) (q : l < k). ap (leb v) (r.each l q)))
        (any_same (λ (l : ℕ). leb (group_at k row 0 (l + 1)) (group_at k row 0 l))
        (λ (l : ℕ). leb (group_at k d t (l + 1)) (group_at k d t l)) (k - 1)
        (λ (l : ℕ) (q : l < k - 1). ap₂ leb (r.each (l + 1) (omega arith)) (r.each l (omega arith)))))

    pub row_same_names : (z : ℕ) → names (length row) row z 0 ≡ names k d z t
    unfolding names
    row_same_names z =
        rw r.size
        (any_same (λ (l : ℕ). eqb (group_at k row 0 l) z) (λ (l : ℕ). eqb (group_at k d t l) z) k
        (λ (l : ℕ) (q : l < k). ap (λ (x : ℕ). eqb x z) (r.each l q)))

-- ---- a loop over the chunks, of which n have come

pub record CutTo (k : ℕ) (d : List ℕ) (n : ℕ) (s : ChunksExact ℕ) : Type 0 where
  pub rest : chunks_exact_rest s ≡ drop (n * k) d
  pub size : chunks_exact_size s ≡ k
  pub most : n * k ≤ length d

module _ (k : ℕ) (d : List ℕ) where
  -- the row that comes is the front of what is left
  module _ (n : ℕ) (s u : ChunksExact ℕ) (row : List ℕ) (h : CutTo k d n s) (e : chunks_exact_rest s ≡ row ++ chunks_exact_rest u) (f : length row ≡ chunks_exact_size s) where
    front : drop (n * k) d ≡ row ++ chunks_exact_rest u
    front = sym h.rest ∙ e

    size : length row ≡ k
    size = f ∙ h.size

    within : n * k + k ≤ length d
    within =
        let most : n * k ≤ length d = h.most in
        omega (arith, size, ap length front, length-drop (n * k) d, length-append row (chunks_exact_rest u))

    pub cut_row : IsRow k d n row
    cut_row = row_is k d n row size within each
      where
        each : (l : ℕ) → l < k → get_or row l 0 ≡ get_or d (n * k + l) 0
        each l q =
            sym (get_or-append row (chunks_exact_rest u) 0 l (omega (arith, size)))
            ∙ ap (λ (xs : List ℕ). get_or xs l 0) (sym front)
            ∙ get_or-drop (n * k) d l 0

    pub cut_next : chunks_exact_size u ≡ chunks_exact_size s → CutTo k d (n + 1) u
    cut_next g =
        let next : (n + 1) * k ≡ n * k + k = rw (add-one n) (suc-mul n k) in
        record {
          rest = rw next (sym (ap (drop k) front ∙ drop_at row (chunks_exact_rest u) k size) ∙ drop-drop k (n * k) d);
          size = g ∙ h.size;
          most = rw next within;
        }

  -- where no whole row is left, all b have come
  pub cut_all : (b n : ℕ) (s : ChunksExact ℕ) → length d ≡ b * k → CutTo k d n s → length (chunks_exact_rest s) < chunks_exact_size s → n ≡ b
  cut_all b n s size h q = go (dec_lt n b) (dec_lt b n)
    where
      most : n * k ≤ length d
      most = h.most

      short : length d < n * k + k
      short = omega (arith, most, h.size, ap length h.rest, length-drop (n * k) d)

      -- n·k ≤ b·k < n·k + k
      go : Dec (n < b) → Dec (b < n) → n ≡ b
      go (yes x) y = let m : suc n * k ≤ b * k = mul-le-mul_right k x in absurd (omega (arith, short, suc-mul n k))
      go (no x) (yes y) = let m : suc b * k ≤ n * k = mul-le-mul_right k y in absurd (omega (arith, short, most, suc-mul b k))
      go (no x) (no y) = omega arith

-- ---- a test of each chunk, up to the first that passes

module _ {F : Type 0} (g : Mut F (Bor (List ℕ) × Unit {0}) Bool) (f : F) (v k b : ℕ) (d : List ℕ) (answers : (x : Bor (List ℕ)) (r : Bool) → Called g f (x, tt) r f → r ≡ row_bad v (length x.now) x.now 0) where
  answered :
      (o : Option (Bor (List ℕ))) (t : ℕ) (r : Bool) → IsSomeAnd o (λ x. Called g f (x, tt) r f) → IfSome o (λ x. (length x.now ≡ k) × (t * k + k ≤ length d) × IsSubsliceAt k d (t * k) x.now)
      → row_bad v k d t ≡ r
  answered None t r h w = absurd h
  answered (Some x) t r h w = sym (row_same_bad k d t x.now (row_is k d t x.now w.0 w.1 (λ (l : ℕ). w.2.2 l 0)) v) ∙ sym (answers x r h)

  -- a place that a run has reached has an item
  there : (o : Option (Bor (List ℕ))) (P : Bor (List ℕ) → Type 0) (z : Bor (List ℕ)) → option_map (λ y. y) o ≡ Some z → IfSome o P → IsSomeAnd o P
  there None P z e h = absurd (cc)
  there (Some x) P z e h = h

  module _ {S : Type 0} {steps : S → Option (Bor (List ℕ)) → S → Type 0} (keeps : CallKeepsClosure g f) (pos : 0 < k) (size : length d ≡ b * k) (z : Bor (List ℕ)) (p : Run steps) (w : IsChunksExactRun p k d) where
    pub first_chunk :
        (r : Option ℕ)
        → MatchOption r ((p.whole ≡ true) × AllItemsGive p g f false) (λ i. (p.len ≡ i + 1) × IsFirstToGive p g f true false i)
        → r ≡ first_below (row_bad v k d) b
    first_chunk None h = sym (first_none (row_bad v k d) b each)
      where
        len : p.len ≡ b
        len = w.1 h.0 ∙ ap (λ (n : ℕ). n / k) size ∙ mul-div_cancel b pos

        each : (t : ℕ) → t < b → row_bad v k d t ≡ false
        each t q =
            answered (p.at t) t false (there (p.at t) _ _ (p.reads t z (omega (arith, len))) (h.1 keeps t)) (w.2 t)
    first_chunk (Some i) h =
        let gives = h.1 keeps in
        sym
        (first_is (row_bad v k d) b i below (answered (p.at i) i true gives.0 (w.2 i))
        (λ (j : ℕ) (q : j < i). answered (p.at j) j false (gives.1 j q) (w.2 j)))
      where
        below : i < b
        below =
            let m : suc i * k ≤ b * k = rw (← size, ← (add-one i), ← h.0) w.0 in
            row_below k b i pos (omega (arith, suc-mul i k))
