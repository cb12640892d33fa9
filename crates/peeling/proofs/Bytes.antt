-- What bytes the restored cells get: those of the lost cells never count, and on consistent bytes nothing changes.
-- Assumes nothing.
use Prim.Native.Nat.{ℕ, zero, suc, ◌≤◌, ◌<◌}
use mathlib.Core.Path.{◌≡◌, refl, sym, ap, ap₂, ◌∙◌}
use mathlib.Core.Bool.{Bool, true, false}
use mathlib.Core.Logic.{inl, inr, ⊎_elim}
use mathlib.Core.List.{List, [], ◌∷◌}
use native.Mathlib.Decide.{ℕ_discrete}
use native.Mathlib.Omega.{arith}
use lib.Bits.{bit_xor, xor_zero_r}
use lib.Dec.{eqb}
use borrow.Author.Tests.{eq-eqb, ne_eqb, eqb-false}
use Rattle.counting.proofs.Bools.{or_none}
use Rattle.leaves.proofs.Xor.{xor_swap, xor_zero_same}
use Rattle.peeling.specs.Peeling.{Side, Step, restored, present_after, peeled, rest_sum, byte_after}
use Rattle.peeling.specs.Theorems.{Own, AllZero, side_sum, ConsistentBytesComeBack, LostBytesDoNotCount}
use Rattle.peeling.proofs.Sides.{Among, lacks_only_rest}
use Rattle.peeling.proofs.Histories.{Valid, peeled_valid, present_either, present_elsewhere, restored_none}

-- ---- the XOR of a set's rest

pub rest_own : (b : ℕ → ℕ) (s : Side) (m : ℕ) → m ≡ s.own → rest_sum b s (suc m) ≡ rest_sum b s m
unfolding rest_sum
rest_own b s m e = let t : eqb m s.own ≡ true = eq-eqb m s.own e in rw t (xor_zero_r (rest_sum b s m))

pub rest_other :
    (b : ℕ → ℕ) (s : Side) (m : ℕ) → (m ≡ s.own → ⊥) → rest_sum b s (suc m) ≡ bit_xor (rest_sum b s m) (b (s.member m))
unfolding rest_sum
rest_other b s m e = let t : eqb m s.own ≡ false = ne_eqb m s.own e in rw t refl

-- only the rest counts
pub rest_same :
    (a b : ℕ → ℕ) (s : Side) (m : ℕ) → ((q : ℕ) → q < m → (q ≡ s.own → ⊥) → a (s.member q) ≡ b (s.member q)) →
    rest_sum a s m ≡ rest_sum b s m
unfolding rest_sum
rest_same a b s zero h = refl
rest_same a b s (suc m) h = go (ℕ_discrete m s.own) (rest_same a b s m (λ q l. h q (omega arith)))
  where
    go : Dec (m ≡ s.own) → rest_sum a s m ≡ rest_sum b s m → rest_sum a s (suc m) ≡ rest_sum b s (suc m)
    go (yes e) ih = rest_own a s m e ∙ ih ∙ sym (rest_own b s m e)
    go (no e) ih = rest_other a s m e ∙ ap₂ bit_xor ih (h m (omega arith) e) ∙ sym (rest_other b s m e)

-- a set's units: those of the rest and, once it is among them, the own
rest_before : (b : ℕ → ℕ) (s : Side) (m : ℕ) → m ≤ s.own → side_sum b s m ≡ rest_sum b s m
unfolding rest_sum
rest_before b s zero l = refl
rest_before b s (suc m) l =
    ap (λ (y : ℕ). bit_xor y (b (s.member m))) (rest_before b s m (omega arith))
    ∙ sym (rest_other b s m (λ e. omega arith))

pub rest_and_own :
    (b : ℕ → ℕ) (s : Side) (m : ℕ) → s.own < m → side_sum b s m ≡ bit_xor (rest_sum b s m) (b (s.member s.own))
rest_and_own b s zero l = absurd (omega arith)
rest_and_own b s (suc m) l = go (ℕ_discrete m s.own) (λ h. rest_and_own b s m h)
  where
    go :
        Dec (m ≡ s.own) → (s.own < m → side_sum b s m ≡ bit_xor (rest_sum b s m) (b (s.member s.own))) →
        side_sum b s (suc m) ≡ bit_xor (rest_sum b s (suc m)) (b (s.member s.own))
    go (yes e) ih =
        ap₂ bit_xor (rest_before b s m (omega arith) ∙ sym (rest_own b s m e)) (ap (λ (q : ℕ). b (s.member q)) e)
    go (no e) ih =
        ap (λ (y : ℕ). bit_xor y (b (s.member m))) (ih (omega arith))
        ∙ xor_swap (rest_sum b s m) (b (s.member s.own)) (b (s.member m))
        ∙ ap (λ (y : ℕ). bit_xor y (b (s.member s.own))) (sym (rest_other b s m e))

-- the rest of a set that XORs to zero is the own unit
pub zero_rest : (b : ℕ → ℕ) (x : ℕ) (s : Side) → Own x s → side_sum b s s.size ≡ 0 → rest_sum b s s.size ≡ b x
zero_rest b x s o z =
    xor_zero_same (rest_sum b s s.size) (b (s.member s.own)) (sym (rest_and_own b s s.size o.low) ∙ z)
    ∙ ap b o.is

-- ---- the bytes after the steps

pub byte_none : (b : ℕ → ℕ) (x : ℕ) → byte_after b [] x ≡ b x
unfolding byte_after
byte_none b x = refl

pub byte_here :
    (b : ℕ → ℕ) (s : Step) (ss : List Step) (x : ℕ) → s.cell ≡ x →
    byte_after b (s ∷ ss) x ≡ rest_sum (byte_after b ss) s.side s.side.size
unfolding byte_after
byte_here b s ss x e = let t : eqb s.cell x ≡ true = eq-eqb s.cell x e in rw t refl

pub byte_elsewhere :
    (b : ℕ → ℕ) (s : Step) (ss : List Step) (x : ℕ) → (s.cell ≡ x → ⊥) → byte_after b (s ∷ ss) x ≡ byte_after b ss x
unfolding byte_after
byte_elsewhere b s ss x e = let t : eqb s.cell x ≡ false = ne_eqb s.cell x e in rw t refl

-- "Units of present disks don't change": nor does any cell that was not restored
pub byte_not_restored : (b : ℕ → ℕ) (ss : List Step) (x : ℕ) → restored ss x ≡ false → byte_after b ss x ≡ b x
unfolding byte_after restored
byte_not_restored b [] x h = refl
byte_not_restored b (s ∷ ss) x h =
    let none = or_none (eqb s.cell x) (restored ss x) h in
    byte_elsewhere b s ss x (eqb-false s.cell x none.0) ∙ byte_not_restored b ss x none.1

module _ (start : ℕ → Bool) (sides : ℕ → List Side) (n : ℕ) where
  pub bytes_same :
      (a b : ℕ → ℕ) → ((x : ℕ) → start x ≡ true → a x ≡ b x) → (ss : List Step) → Valid start sides n ss →
      (x : ℕ) → present_after start ss x ≡ true → byte_after a ss x ≡ byte_after b ss x
  unfolding byte_after
  bytes_same a b agree [] v x h = ⊎_elim (agree x) (restored_none x) (present_either start [] x h)
  bytes_same a b agree (s ∷ ss) (f, v) x h = go (ℕ_discrete s.cell x) (bytes_same a b agree ss v)
    where
      go :
          Dec (s.cell ≡ x) → ((y : ℕ) → present_after start ss y ≡ true → byte_after a ss y ≡ byte_after b ss y) →
          byte_after a (s ∷ ss) x ≡ byte_after b (s ∷ ss) x
      go (yes e) ih =
          byte_here a s ss x e
          ∙ rest_same (byte_after a ss) (byte_after b ss) s.side s.side.size
          (λ q l ne. ih (s.side.member q) (lacks_only_rest (present_after start ss) s.side f.lacks q l ne))
          ∙ sym (byte_here b s ss x e)
      go (no e) ih =
          byte_elsewhere a s ss x e ∙ ih x (sym (present_elsewhere start s ss x e) ∙ h) ∙ sym (byte_elsewhere b s ss x e)

  zero_among : (b : ℕ → ℕ) (x : ℕ) (vs : List Side) (v : Side) → AllZero b x vs → Among v vs → rest_sum b v v.size ≡ b x
  zero_among b x [] v zs m = elim m [ ]
  zero_among b x (w ∷ ws) v ((o, z), zs) (inl e) = rw e (zero_rest b x w o z)
  zero_among b x (w ∷ ws) v ((o, z), zs) (inr m) = zero_among b x ws v zs m

  -- on bytes whose sets XOR to zero the steps change nothing
  pub zero_bytes_stay :
      (b : ℕ → ℕ) → ((x : ℕ) → x < n → AllZero b x (sides x)) → (ss : List Step) → Valid start sides n ss →
      (x : ℕ) → byte_after b ss x ≡ b x
  unfolding byte_after
  zero_bytes_stay b zeros [] v x = refl
  zero_bytes_stay b zeros (s ∷ ss) (f, v) x = go (ℕ_discrete s.cell x) (zero_bytes_stay b zeros ss v)
    where
      go : Dec (s.cell ≡ x) → ((y : ℕ) → byte_after b ss y ≡ b y) → byte_after b (s ∷ ss) x ≡ b x
      go (yes e) ih =
          byte_here b s ss x e
          ∙ rest_same (byte_after b ss) b s.side s.side.size (λ q l ne. ih (s.side.member q))
          ∙ zero_among b s.cell (sides s.cell) s.side (zeros s.cell f.below) f.among
          ∙ ap b e
      go (no e) ih = byte_elsewhere b s ss x e ∙ ih x

pub lost_bytes_do_not_count : LostBytesDoNotCount
lost_bytes_do_not_count start sides n a b agree =
    bytes_same start sides n a b agree (peeled start sides n) (peeled_valid start sides n)

pub consistent_bytes_come_back : ConsistentBytesComeBack
consistent_bytes_come_back start sides n before held zeros agree x h =
    lost_bytes_do_not_count start sides n held before agree x h
    ∙ zero_bytes_stay start sides n before zeros (peeled start sides n) (peeled_valid start sides n) x
