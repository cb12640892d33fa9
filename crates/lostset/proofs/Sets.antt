-- What is in the set of lost disks: after a disk was added or taken out, and as the marks have it. Assumes nothing.
use Rattle.std.proofs.Common.{ℕ, ◌+◌, ◌≤◌, ◌<◌, ◌≡◌, min, Bool, true, false, eqb, List, length, get_or, set, sym, ap, ◌∙◌, arith, rules}
use Rattle.std.proofs.Math.ListN.{length-set, length-replicate, get_or-replicate, length-map, get_or-map, get_or-eq_default}
use Rattle.std.proofs.Math.Seq.{set_out, set-set, set-get_or, get_or-set_other, ext_get_or}
use Rattle.std.proofs.lemmas.Bool.Decides.{nat_tests}
use Rattle.std.proofs.lemmas.List.{places, get_or_past}
use Rattle.std.proofs.lemmas.List.Edits.{fill_by_more}
use native.Mathlib.Decide.{dec_lt}
use Rattle.counting.specs.Lists.{list_of}
use Rattle.counting.proofs.Lists.{list_of_length, list_of_at}
use Rattle.lostset.specs.Lost.{
  disks_most,
  has,
  none_marked,
  marked,
  cleared,
  flags_of,
  has_after_mark,
  has_after_clear,
  has_of_marks,
}

-- ---- a number past the flags
pub set_past : (flags : List Bool) (disk : ℕ) → length flags ≡ disks_most → disks_most ≤ disk → (b : Bool) → flags ≡ set flags disk b
set_past flags disk w h b = sym (set_out flags disk b (omega arith))

-- ---- no disk
pub none_length : length none_marked ≡ disks_most
none_length = length-replicate disks_most false

pub none_has : (x : ℕ) → has none_marked x ≡ false
none_has x = go (dec_lt x disks_most)
  where
    go : Dec (x < disks_most) → has none_marked x ≡ false
    go (yes l) = get_or-replicate disks_most x false false l
    go (no n) = get_or-eq_default none_marked false {n = x} (omega (arith, none_length))

-- ---- a disk added, and one taken out
pub marked_has :
    (flags : List Bool) (disk x : ℕ) → length flags ≡ disks_most → has (marked flags disk) x ≡ has_after_mark flags disk x
unfolding has_after_mark
marked_has flags disk x w = search (rules, places, nat_tests)

pub cleared_has : (flags : List Bool) (disk x : ℕ) → has (cleared flags disk) x ≡ has_after_clear flags disk x
unfolding has_after_clear
cleared_has flags disk x = search (rules, places, nat_tests)

-- one after the other
pub marked_cleared : (flags : List Bool) (disk : ℕ) → has flags disk ≡ false → cleared (marked flags disk) disk ≡ flags
marked_cleared flags disk h =
    set-set flags disk true false ∙ ap (set flags disk) (sym h) ∙ set-get_or flags disk false

pub cleared_marked : (flags : List Bool) (disk : ℕ) → has flags disk ≡ true → marked (cleared flags disk) disk ≡ flags
cleared_marked flags disk h =
    set-set flags disk false true ∙ ap (set flags disk) (sym h) ∙ set-get_or flags disk false

-- ---- as the marks have it
pub flags_at : (marks : List ℕ) (x : ℕ) → x < disks_most → has (flags_of marks) x ≡ eqb (get_or marks x 0) 1
unfolding flags_of
flags_at marks x l =
    get_or-map (λ (m : ℕ). eqb m 1) (list_of (λ (y : ℕ). get_or marks y 0) disks_most) x 0
    ∙ ap (λ (m : ℕ). eqb m 1) (list_of_at (λ (y : ℕ). get_or marks y 0) disks_most x 0 l)

pub flags_length : (marks : List ℕ) → length (flags_of marks) ≡ disks_most
unfolding flags_of
flags_length marks =
    length-map (list_of (λ (x : ℕ). get_or marks x 0) disks_most) (λ (m : ℕ). eqb m 1)
    ∙ list_of_length (λ (x : ℕ). get_or marks x 0) disks_most

pub flags_has : (marks : List ℕ) (x : ℕ) → has (flags_of marks) x ≡ has_of_marks marks x
unfolding has_of_marks
flags_has marks x = grind (arith, flags_at, flags_length, nat_tests, get_or_past)

-- ---- a loop over the marks: what holds when x of them were seen
pub record Marking (marks : List ℕ) (flags : List Bool) (x : ℕ) : Type 0 where
  pub long : length flags ≡ disks_most
  pub seen : (y : ℕ) → y < x → has flags y ≡ eqb (get_or marks y 0) 1
  pub rest : (y : ℕ) → x ≤ y → has flags y ≡ false

pub marking_none : (marks : List ℕ) (flags : List Bool) → flags ≡ none_marked → Marking marks flags 0
marking_none marks flags e = record {
  long = ap length e ∙ none_length;
  seen = λ (y : ℕ) (h : y < 0). absurd (omega arith);
  rest = λ (y : ℕ) (h : 0 ≤ y). ap (λ (l : List Bool). has l y) e ∙ none_has y;
}

module _ {marks : List ℕ} {flags : List Bool} {x : ℕ} (g : Marking marks flags x) where
  pub marking_more : x < disks_most → (b : Bool) → b ≡ eqb (get_or marks x 0) 1 → Marking marks (set flags x b) (x + 1)
  marking_more l b e = record {
    long = length-set flags x b ∙ g.long;
    seen = λ (y : ℕ) (h : y < x + 1).
        ap (λ (v : Bool). has (set flags x v) y) e
        ∙ fill_by_more (λ (z : ℕ). eqb (get_or marks z 0) 1) flags x false (omega (arith, g.long)) g.seen y h;
    rest = λ (y : ℕ) (h : x + 1 ≤ y).
        get_or-set_other flags x y b false (λ (q : y ≡ x). omega arith) ∙ g.rest y (omega arith);
  }

  -- all marks were seen, or all disks
  pub marking_all : x ≡ min (length marks) disks_most → flags ≡ flags_of marks
  marking_all e =
      ext_get_or false flags (flags_of marks) (g.long ∙ sym (flags_length marks))
      (λ (y : ℕ) (l : y < length flags).
      let m : y < disks_most = omega (arith, g.long) in
      go y m (dec_lt y x) ∙ sym (flags_at marks y m))
    where
      go : (y : ℕ) → y < disks_most → Dec (y < x) → has flags y ≡ eqb (get_or marks y 0) 1
      go y m (yes k) = g.seen y k
      go y m (no k) = g.rest y (omega arith) ∙ sym (ap (λ (z : ℕ). eqb z 1) (get_or-eq_default marks 0 (omega arith)))
