-- What is proved of the audit, each under its sentence of 01: the statements alone. Assumes nothing.
use Rattle.std.specs.Prelude.{ℕ, ◌+◌, ◌<◌, ◌≡◌, true, false, ◌⊎◌, ◌↔◌, List}
use Rattle.geometry.specs.declared.Geometry.{Geometry}
use Rattle.geometry.specs.Geometry.{sets_of}
use Rattle.consistent.specs.Consistent.{set_zero, Consistent}
use Rattle.finding.specs.Bad.{bad_below, audit_of}

-- 0 sets are bad exactly if the array is consistent
abbrev pub NoneBadExactlyIfConsistent : Type 0
NoneBadExactlyIfConsistent =
    (G : Geometry) (d a : List ℕ) → ((audit_of G d a).bad ≡ 0) ↔ Consistent G d a

-- set s does not XOR to zero
abbrev pub Bad : Geometry → List ℕ → List ℕ → ℕ → Type 0
Bad G d a s = (s < sets_of G) × (set_zero G d a s ≡ false)

-- "and the lowest such number, 0 if none": where some set is bad, the number is a bad set's and no lower set is bad
pub record Lowest (G : Geometry) (d a : List ℕ) (s : ℕ) : Type 0 where
  pub is_bad : Bad G d a s
  pub none_lower : (t : ℕ) → t < s → Bad G d a t → ⊥

abbrev pub TheNumberIsTheLowestBadSet : Type 0
TheNumberIsTheLowestBadSet =
    (G : Geometry) (d a : List ℕ) →
    (((audit_of G d a).bad ≡ 0) × ((audit_of G d a).lowest ≡ 0)) ⊎ ((0 < (audit_of G d a).bad) × Lowest G d a (audit_of G d a).lowest)

-- the count goes set by set: none are below 0, a set that XORs to zero adds none, any other adds one
pub record CountsSets (G : Geometry) (d a : List ℕ) : Type 0 where
  pub none : bad_below G d a 0 ≡ 0
  pub fine : (s : ℕ) → set_zero G d a s ≡ true → bad_below G d a (s + 1) ≡ bad_below G d a s
  pub one_more : (s : ℕ) → set_zero G d a s ≡ false → bad_below G d a (s + 1) ≡ bad_below G d a s + 1

abbrev pub TheCountIsOfTheBadSets : Type 0
TheCountIsOfTheBadSets = (G : Geometry) (d a : List ℕ) → CountsSets G d a
