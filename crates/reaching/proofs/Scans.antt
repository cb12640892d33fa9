-- Scans upwards that end at the first that passes a test, over a set's units. Assumes nothing.
use Prim.Native.Nat.{ℕ, ◌+◌, ◌≤◌, ◌<◌}
use mathlib.Core.Path.{◌≡◌, ap, sym, refl}
use mathlib.Core.Bool.{Bool, true, false, not, ◌&&◌, ◌||◌}
use mathlib.Core.List.{List}
use native.Mathlib.Omega.{arith}
use lib.Dec.{eqb}
use Rattle.counting.specs.Counting.{any_below}
use Rattle.counting.proofs.Laws.{any_true, none_any}
use Rattle.checking.proofs.Scan.{Scanned, scanned_next}
use Rattle.peeling.specs.Peeling.{lacks_only}
use Rattle.reaching.specs.declared.Set.{Set}
use Rattle.reaching.specs.State.{side_of, seen}

-- ---- some passes

any_found : (f : ℕ → Bool) (n i : ℕ) → i < n → f i ≡ true → true ≡ any_below f n
any_found f n i h p = sym (any_true f n i h p)

any_left : (f : ℕ → Bool) (n i : ℕ) → Scanned f n i → n ≤ i → false ≡ any_below f n
any_left f n i s h = sym (none_any f n (λ (j : ℕ) (q : j < n). s.before j (omega arith)))

-- ---- a set's units

-- unit q is another cell's, and missing
abbrev pub lacking : (flags : List Bool) → Set → ℕ → Bool
lacking flags x q = not (eqb q (side_of x).own) && not (seen flags ((side_of x).member q))

held : (b p : Bool) → not (b || p) ≡ false → (not b && not p) ≡ false
held true p h = refl
held false p h = h

lacks : (b p : Bool) → not (b || p) ≡ true → (not b && not p) ≡ true
lacks true p h = h
lacks false p h = h

module _ (flags : List Bool) (x : Set) (q at : ℕ) (e : at ≡ (side_of x).member q) where
  pub units_more :
      Scanned (lacking flags x) x.size q → q < x.size → not (eqb q x.own || seen flags at) ≡ false
      → Scanned (lacking flags x) x.size (q + 1)
  unfolding side_of
  units_more s h p =
      scanned_next (lacking flags x) x.size q s h (held (eqb q x.own) (seen flags ((side_of x).member q)) (rw (← e) p))

  pub units_lack : q < x.size → not (eqb q x.own || seen flags at) ≡ true → false ≡ lacks_only (seen flags) (side_of x)
  unfolding lacks_only side_of
  units_lack h p =
      ap not (any_found (lacking flags x) x.size q h (lacks (eqb q x.own) (seen flags ((side_of x).member q)) (rw (← e) p)))

pub units_all :
    (flags : List Bool) (x : Set) (q : ℕ) → Scanned (lacking flags x) x.size q → x.size ≤ q
    → true ≡ lacks_only (seen flags) (side_of x)
unfolding lacks_only side_of
units_all flags x q s h = ap not (any_left (lacking flags x) x.size q s h)
