-- A write of bytes as the difference to what was there, added at several places. Assumes nothing.
use Prim.Native.Nat.{ℕ, zero, suc, ◌+◌, ◌-◌, ◌≤◌, ◌<◌}
use mathlib.Core.Path.{◌≡◌, sym, ◌∙◌, ap, ap₂, subst}
use mathlib.Core.List.{List, [], ◌∷◌}
use mathlib.Core.Logic.{⊎_elim, inl, inr}
use native.Mathlib.Omega.{arith}
use native.Mathlib.Nat.{add-sub_cancel_left, le_refl}
use lib.ListN.{get_or, length, take}
use lib.Seq.{length-take-le, take-add, take_all}
use borrow.Rule.Slice.PartMut.{mid_of}
use Rattle.leaves.specs.Bytes.{xors, run, add_at, add_all, difference_at, written, Apart, Inside, FirstApart}
use Rattle.leaves.proofs.Runs.{at_zeros, length_xors, xors_self, xors_cancel, length_run, run_run, run_xors, run_add_at, apart_sym, further, add_all_zero, add_all_nil, add_all_append, run_all_apart}

pub length_difference :
    (a : List ℕ) (p : ℕ) (new : List ℕ) → p + length new ≤ length a → length (difference_at a p new) ≡ length new
length_difference a p new h = length_xors (run a p (length new)) new ∙ length_run a p (length new) h

-- ---- what a write does; each other position lies apart from p
module _ (a : List ℕ) (p : ℕ) (ps new : List ℕ) (fits : p + length new ≤ length a) where
  abbrev d : List ℕ
  d = difference_at a p new

  -- a run apart from all positions stays
  pub written_apart :
      (o n : ℕ) → ((t : ℕ) → t < suc (length ps) → Apart (get_or (p ∷ ps) t 0) (length new) o n) → run (written a p ps new) o n ≡ run a o n
  written_apart o n h = run_all_apart a (p ∷ ps) d o n (rw (length_difference a p new fits) h)

  module _ (apart : (t : ℕ) → t < length ps → Apart p (length new) (get_or ps t 0) (length new)) where
    -- the bytes at p are the new ones
    pub written_there : run (written a p ps new) p (length new) ≡ new
    unfolding add_all
    written_there =
        let e : length d ≡ length new = length_difference a p new fits in
        run_all_apart (add_at a p d) ps d p (length new) (rw e (λ (t : ℕ) (l : t < length ps). apart_sym (apart t l)))
        ∙ subst (λ (n : ℕ). run (add_at a p d) p n ≡ xors (run a p n) d) e (run_add_at a p d (rw e fits))
        ∙ xors_cancel (run a p (length new)) new (length_run a p (length new) fits)

    -- ---- block after block: i bytes are done, and k are next
    module _ (i k : ℕ) (room : i + k ≤ length new) where
      length_done : length (take i d) ≡ i
      length_done = length-take-le i d (rw (length_difference a p new fits) (omega arith))

      -- the first i bytes of each run lie apart from the next k of the first
      before : (t : ℕ) → t < suc (length ps) → Apart (get_or (p ∷ ps) t 0) i (p + i) k
      before zero l = record { apart = inl (omega arith) }
      before (suc t) l =
          let q : ℕ = get_or ps t 0 in
          record {
            apart =
                ⊎_elim (λ (m : p + length new ≤ q). inr (omega arith)) (λ (m : q + length new ≤ p). inl (omega arith))
                (apart t (omega arith)).apart;
          }

      -- so the next k bytes at p are still as they were
      still : run (add_all a (p ∷ ps) (take i d)) (p + i) k ≡ run a (p + i) k
      still = run_all_apart a (p ∷ ps) (take i d) (p + i) k (rw length_done before)

      -- and their difference is a run of the whole
      block_difference : difference_at (add_all a (p ∷ ps) (take i d)) (p + i) (run new i k) ≡ run d i k
      block_difference =
          rw (length_run new i k room, still)
          (ap (λ (l : List ℕ). xors l (run new i k)) (sym (run_run a p (length new) i k room fits))
          ∙ run_xors (run a p (length new)) new i k (rw (length_run a p (length new) fits) room))

      pub written_block : written (add_all a (p ∷ ps) (take i d)) (p + i) (further i ps) (run new i k) ≡ add_all a (p ∷ ps) (take (i + k) d)
      unfolding run
      written_block =
          ap (add_all (add_all a (p ∷ ps) (take i d)) (further i (p ∷ ps))) block_difference
          ∙ ap (λ (n : ℕ). add_all (add_all a (p ∷ ps) (take i d)) (further n (p ∷ ps)) (run d i k)) (sym length_done)
          ∙ sym (add_all_append a (p ∷ ps) (take i d) (run d i k)) ∙ ap (add_all a (p ∷ ps)) (sym (take-add i k d))

-- writing what is there changes nothing
pub written_same : (a : List ℕ) (p : ℕ) (ps : List ℕ) (n : ℕ) → p + n ≤ length a → written a p ps (run a p n) ≡ a
written_same a p ps n h =
    add_all_zero a (p ∷ ps) (difference_at a p (run a p n))
    (rw (length_run a p n h, xors_self (run a p n)) (at_zeros (length (run a p n))))

-- ---- block after block, over a list of positions
-- one block: the difference to the part lent from p on
pub block_written :
    (a x e new ps : List ℕ) (p k : ℕ) → length new ≡ k → e ≡ xors (mid_of p (p + k - p) a) new → x ≡ add_all a ps e
    → x ≡ add_all a ps (difference_at a p new)
unfolding run
block_written a x e new ps p k h g f =
    f ∙ ap (add_all a ps) (g ∙ ap (λ (n : ℕ). xors (mid_of p n a) new) (add-sub_cancel_left p k ∙ sym h))

pub apart_part : (p n q i k : ℕ) → i + k ≤ n → Apart p n q n → Apart (p + i) k (q + i) k
apart_part p n q i k h a = record {
  apart = ⊎_elim (λ (l : p + n ≤ q). inl (omega arith)) (λ (l : q + n ≤ p). inr (omega arith)) a.apart;
}

-- nothing is done
pub wrote_none : (a ps new : List ℕ) → a ≡ add_all a ps (take 0 (difference_at a (get_or ps 0 0) new))
wrote_none a ps new = sym (add_all_nil a ps)

-- the first i bytes are done; a block of k from there on makes j
pub wrote_more :
    (a₀ ps new block : List ℕ) (at i k j : ℕ) → Inside (length a₀) ps (length new) → FirstApart ps (length new) → at ≡ i → i + k ≡ j
    → j ≤ length new → block ≡ run new i k → {a b : List ℕ} → a ≡ add_all a₀ ps (take i (difference_at a₀ (get_or ps 0 0) new))
    → b ≡ add_all a (further at ps) (difference_at a (get_or ps 0 0 + at) block)
    → b ≡ add_all a₀ ps (take j (difference_at a₀ (get_or ps 0 0) new))
unfolding add_all
wrote_more a₀ [] new block at i k j inside first here next room same is e = e ∙ is
wrote_more a₀ (p ∷ ps) new block at i k j inside first here next room same {a} {b} is e =
    e ∙ ap₂ (λ (n : ℕ) (l : List ℕ). written a (p + n) (further n ps) l) here same
    ∙ ap (λ (x : List ℕ). written x (p + i) (further i ps) (run new i k)) is
    ∙ written_block a₀ p ps new (inside.inside 0 (omega arith))
    (λ (t : ℕ) (l : t < length ps). first.first_apart t (omega arith))
    i k (omega arith)
    ∙ ap (λ (n : ℕ). add_all a₀ (p ∷ ps) (take n (difference_at a₀ p new))) next

-- all of them are done
pub wrote_all :
    (a₀ ps new : List ℕ) {a : List ℕ} → Inside (length a₀) ps (length new)
    → a ≡ add_all a₀ ps (take (length new) (difference_at a₀ (get_or ps 0 0) new))
    → a ≡ add_all a₀ ps (difference_at a₀ (get_or ps 0 0) new)
unfolding add_all
wrote_all a₀ [] new inside is = is
wrote_all a₀ (p ∷ ps) new inside is =
    is
    ∙ ap (add_all a₀ (p ∷ ps))
    (take_all (length new) _ (rw (length_difference a₀ p new (inside.inside 0 (omega arith))) (le_refl (length new))))
