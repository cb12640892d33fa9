-- The answers of the rebuild, case by case. Assumes nothing.
use Prim.Native.Nat.{ℕ, ◌≤◌}
use mathlib.Core.Path.{◌≡◌, sym, ap, ◌∙◌}
use mathlib.Core.Bool.{Bool}
use mathlib.Core.List.{List, [], ◌∷◌}
use native.Mathlib.Omega.{arith}
use lib.ListN.{length, replicate}
use Rattle.refusal.specs.declared.Refusal.{Refusal}
use Rattle.refusal.specs.Refusal.{Outcome, refused, accepted, answer, verdict, kept, number_of, place_of, outcome_of}
use Rattle.refusal.proofs.Answer.{skip, stop}
use Rattle.geometry.specs.declared.Geometry.{Geometry}
use Rattle.geometry.specs.Geometry.{Sound, disks_of}
use Rattle.geometry.proofs.Laws.{disks_bound}
use Rattle.array.specs.Array.{formatted_marks}
use Rattle.array.specs.Rules.{array_rules}
use Rattle.array.proofs.Fits.{ready}
use Rattle.reaching.specs.Logged.{LostAs}
use Rattle.lostset.specs.Lost.{flags_of}
use Rattle.lostset.proofs.Sets.{flags_at, flags_length}
use Rattle.rebuilding.specs.Rebuild.{rebuilt_of, restored_of, tuple_rule, rebuild_rules}
use Rattle.std.specs.Prelude.{Result, Ok, Err}

-- ---- the set of the marks
module _ (G : Geometry) (s : Sound G) (marks : List ℕ) (flags : List Bool) (e : flags ≡ flags_of marks) where
  pub set_lost : LostAs G marks flags
  set_lost x h = rw e (flags_at marks x (omega (arith, disks_bound G s)))

  pub set_long : disks_of G ≤ length flags
  set_long = omega (arith, ap length e, flags_length marks, disks_bound G s)

module _ (G : Geometry) (d marks a : List ℕ) where
  -- ---- 13 alone
  abbrev decided : Outcome ℕ
  decided = answer (tuple_rule G d marks ∷ []) (restored_of G d marks)

  -- what the contract of the checked call says of an answer, and of the array at return
  abbrev pub Decided : Outcome ℕ → List ℕ → Type 0
  Decided o b = (o ≡ decided) × (b ≡ kept decided (rebuilt_of G d marks a) a)

  -- ---- the call
  abbrev answered : Outcome ℕ
  answered = answer (rebuild_rules G d (length a) marks) (restored_of G d marks)

  -- what its contract says of an answer, and of the array and the marks at return
  abbrev pub Answered : Outcome ℕ → (b m : List ℕ) → Type 0
  Answered o b m =
      (o ≡ answered) × (b ≡ kept answered (rebuilt_of G d marks a) a) × (m ≡ kept answered (formatted_marks G) marks)

  -- refused by 2 to 8
  pub array_refuses : (n p : ℕ) → verdict (array_rules G d (length a) marks) ≡ refused n p → Answered (refused n p) a marks
  unfolding rebuild_rules
  array_refuses n p e =
      let w : answered ≡ refused n p = stop (array_rules G d (length a) marks) _ (restored_of G d marks) n p e in (
        sym w,
        ap (λ (o : Outcome ℕ). kept o (rebuilt_of G d marks a) a) (sym w),
        ap (λ (o : Outcome ℕ). kept o (formatted_marks G) marks) (sym w),
      )

  module _ (fine : verdict (array_rules G d (length a) marks) ≡ accepted tt) (r : Result ℕ Refusal) (b : List ℕ)
      (is : Decided (outcome_of r) b) where
    -- 13 decides
    behind : answered ≡ outcome_of r
    unfolding rebuild_rules
    behind = skip (array_rules G d (length a) marks) _ (restored_of G d marks) fine ∙ sym is.0

    bytes : b ≡ kept answered (rebuilt_of G d marks a) a
    bytes = is.1 ∙ ap (λ (o : Outcome ℕ). kept o (rebuilt_of G d marks a) a) (sym is.0 ∙ sym behind)

    -- refused by 13
    pub refuses : (x : Refusal) → r ≡ Err x → Answered (refused (number_of x) (place_of x)) b marks
    refuses x e =
        let w : answered ≡ refused (number_of x) (place_of x) = behind ∙ ap outcome_of e in
        (sym w, bytes, ap (λ (o : Outcome ℕ). kept o (formatted_marks G) marks) (sym w))

    -- not refused
    pub goes : (n : ℕ) → r ≡ Ok n → (m : List ℕ) → m ≡ replicate (length marks) 0 → Answered (accepted n) b m
    unfolding formatted_marks
    goes n e m q =
        let w : answered ≡ accepted n = behind ∙ ap outcome_of e in (
          sym w,
          bytes,
          q ∙ ap (λ (i : ℕ). replicate i 0) (ready G d (length a) marks fine).long
              ∙ ap (λ (o : Outcome ℕ). kept o (formatted_marks G) marks) (sym w),
        )
