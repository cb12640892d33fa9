-- "That two results allowed by it are equal is itself proved" (01), over the contract of each method itself; some result is
-- allowed; and what `has` answers of the set that another method hands back. Assumes nothing.
use Prim.Native.Nat.{ℕ}
use mathlib.Core.Path.{◌≡◌, refl, sym, ◌∙◌, ap}
use mathlib.Core.Bool.{Bool, false}
use mathlib.Core.List.{List}
use lib.ListN.{length}
use contract.Lifetimes.{Lfts}
use denote.Ref.{Bor}
use Rattle.geometry.specs.declared.Disk.{Disk}
use Rattle.lostset.specs.declared.LostSet.{LostSet}
use Rattle.lostset.specs.Lost.{
  disks_most,
  has,
  none_marked,
  marked,
  cleared,
  flags_of,
  has_after_mark,
  has_after_clear,
  has_of_marks,
}
use Rattle.lostset.proofs.Sets.{none_has, marked_has, cleared_has, flags_has}
use Rattle.lostset.proofs.LostSet.none.Reads as none
use Rattle.lostset.proofs.LostSet.mark.Reads as mark
use Rattle.lostset.proofs.LostSet.clear.Reads as clear
use Rattle.lostset.proofs.LostSet.has.Reads as hasit
use Rattle.lostset.proofs.from_marks.Reads as from

-- sets with the same flags
same_set : (r s : LostSet) → r.flags ≡ s.flags → r ≡ s
same_set r s e = ap (λ (l : List Bool). record { flags = l }) e

module _ (κs : Lfts 0) where
  -- what each contract allows
  abbrev pub NoneAllowed : LostSet → Type 0
  NoneAllowed r = none.Post κs tt r tt

  abbrev pub MarkAllowed : LostSet → Disk → LostSet → Type 0
  MarkAllowed s d r = mark.Post κs (s, (d, tt)) r (s, (d, tt))

  abbrev pub ClearAllowed : LostSet → Disk → LostSet → Type 0
  ClearAllowed s d r = clear.Post κs (s, (d, tt)) r (s, (d, tt))

  abbrev pub HasAllowed : LostSet → Disk → Bool → Type 0
  HasAllowed s d b = hasit.Post κs (s, (d, tt)) b (s, (d, tt))

  pub none_two_results : (r t : LostSet) → NoneAllowed r → NoneAllowed t → r ≡ t
  none_two_results r t p q = same_set r t (p ∙ sym q)

  pub mark_two_results : (s : LostSet) (d : Disk) (r t : LostSet) → MarkAllowed s d r → MarkAllowed s d t → r ≡ t
  mark_two_results s d r t p q = same_set r t (p ∙ sym q)

  pub clear_two_results : (s : LostSet) (d : Disk) (r t : LostSet) → ClearAllowed s d r → ClearAllowed s d t → r ≡ t
  clear_two_results s d r t p q = same_set r t (p ∙ sym q)

  pub has_two_results : (s : LostSet) (d : Disk) (b c : Bool) → HasAllowed s d b → HasAllowed s d c → b ≡ c
  has_two_results s d b c p q = p ∙ sym q

  pub none_some_result : (r : LostSet) × NoneAllowed r
  none_some_result = (record { flags = none_marked }, refl)

  pub mark_some_result : (s : LostSet) (d : Disk) → (r : LostSet) × MarkAllowed s d r
  mark_some_result s d = (record { flags = marked s.flags d.0 }, refl)

  pub clear_some_result : (s : LostSet) (d : Disk) → (r : LostSet) × ClearAllowed s d r
  clear_some_result s d = (record { flags = cleared s.flags d.0 }, refl)

  pub has_some_result : (s : LostSet) (d : Disk) → (b : Bool) × HasAllowed s d b
  has_some_result s d = (has s.flags d.0, refl)

  -- one call after another
  pub none_then_has : (r : LostSet) (e : Disk) (b : Bool) → NoneAllowed r → HasAllowed r e b → b ≡ false
  none_then_has r e b p q = q ∙ ap (λ (l : List Bool). has l e.0) p ∙ none_has e.0

  pub mark_then_has :
      (s : LostSet) (d : Disk) (r : LostSet) (e : Disk) (b : Bool) → length s.flags ≡ disks_most → MarkAllowed s d r →
      HasAllowed r e b → b ≡ has_after_mark s.flags d.0 e.0
  mark_then_has s d r e b w p q = q ∙ ap (λ (l : List Bool). has l e.0) p ∙ marked_has s.flags d.0 e.0 w

  pub clear_then_has :
      (s : LostSet) (d : Disk) (r : LostSet) (e : Disk) (b : Bool) → ClearAllowed s d r → HasAllowed r e b →
      b ≡ has_after_clear s.flags d.0 e.0
  clear_then_has s d r e b p q = q ∙ ap (λ (l : List Bool). has l e.0) p ∙ cleared_has s.flags d.0 e.0

module _ (κs : Lfts 1) (marks : Bor (List ℕ)) where
  abbrev pub FromAllowed : LostSet → Type 0
  FromAllowed r = from.Post κs (marks, tt) r (marks, tt)

  pub from_two_results : (r t : LostSet) → FromAllowed r → FromAllowed t → r ≡ t
  from_two_results r t p q = same_set r t (p ∙ sym q)

  pub from_some_result : (r : LostSet) × FromAllowed r
  from_some_result = (record { flags = flags_of marks.now }, refl)

  pub from_then_has :
      (ks : Lfts 0) (r : LostSet) (e : Disk) (b : Bool) → FromAllowed r → HasAllowed ks r e b → b ≡ has_of_marks marks.now e.0
  from_then_has ks r e b p q = q ∙ ap (λ (l : List Bool). has l e.0) p ∙ flags_has marks.now e.0
