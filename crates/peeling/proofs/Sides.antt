-- The sets of a cell: what it means that one lacks only the cell, for one set and for a list of them. Assumes nothing.
use Prim.Native.Nat.{ℕ, ◌<◌}
use mathlib.Core.Path.{◌≡◌, sym, ap, subst}
use mathlib.Core.Bool.{Bool, true, false, not, ◌&&◌}
use mathlib.Core.Logic.{◌⊎◌, inl, inr, ⊎_elim}
use mathlib.Core.List.{List, [], ◌∷◌}
use lib.Dec.{eqb}
use borrow.Author.Tests.{ne_eqb, eqb-false, not-true, not-false}
use Rattle.counting.proofs.Bools.{
  bool_either,
  bool_not_both,
  and_both,
  both_and,
  and_left_false,
  and_right_false,
  not_is_true,
  not_is_false,
}
use Rattle.counting.proofs.Laws.{any_witness, any_none, none_any, any_same}
use Rattle.peeling.specs.Peeling.{Side, lacks_only}
use Rattle.peeling.specs.Theorems.{Rest, SomeRest}

-- the set is in the list
abbrev pub Among : Side → List Side → Type 0
Among v [] = ⊥
Among v (w ∷ ws) = (v ≡ w) ⊎ Among v ws

-- every set of the list has the property
abbrev pub Every : (Side → Type 0) → List Side → Type 0
Every P [] = Unit {0}
Every P (v ∷ vs) = P v × Every P vs

pub every_among : (P : Side → Type 0) (vs : List Side) (v : Side) → Every P vs → Among v vs → P v
every_among P [] v h m = elim m [ ]
every_among P (w ∷ ws) v (h, hs) (inl e) = subst P (sym e) h
every_among P (w ∷ ws) v (h, hs) (inr m) = every_among P ws v hs m

pub some_among : (R : ℕ → Type 0) (vs : List Side) (v : Side) → Among v vs → Rest R v → SomeRest R vs
some_among R [] v m r = elim m [ ]
some_among R (w ∷ ws) v (inl e) r = inl (subst (Rest R) e r)
some_among R (w ∷ ws) v (inr m) r = inr (some_among R ws v m r)

module _ (present : ℕ → Bool) where
  -- a unit that is not the cell's own and is missing
  abbrev other_missing : Side → ℕ → Bool
  other_missing s q = not (eqb q s.own) && not (present (s.member q))

  -- besides the cell's own unit, another unit of the set is missing
  pub record LacksAnother (s : Side) : Type 0 where
    pub unit : ℕ
    pub low : unit < s.size
    pub other : unit ≡ s.own → ⊥
    pub missing : present (s.member unit) ≡ false

  pub lacks_only_rest : (s : Side) → lacks_only present s ≡ true → Rest (λ (x : ℕ). present x ≡ true) s
  unfolding lacks_only
  lacks_only_rest s h q l ne = ⊎_elim here lost (bool_either (present (s.member q)))
    where
      fails : other_missing s q ≡ false
      fails = any_none (other_missing s) s.size (not-true _ h) q l

      here : present (s.member q) ≡ true → present (s.member q) ≡ true
      here e = e

      lost : present (s.member q) ≡ false → present (s.member q) ≡ true
      lost e =
          bool_not_both (other_missing s q)
          (both_and (not (eqb q s.own)) (not (present (s.member q))) (not_is_true _ (ne_eqb q s.own ne)) (not_is_true _ e))
          fails

  pub rest_lacks_only : (s : Side) → Rest (λ (x : ℕ). present x ≡ true) s → lacks_only present s ≡ true
  unfolding lacks_only
  rest_lacks_only s r = not_is_true _ (none_any (other_missing s) s.size each)
    where
      each : (q : ℕ) → q < s.size → other_missing s q ≡ false
      each q l = ⊎_elim own other (bool_either (eqb q s.own))
        where
          own : eqb q s.own ≡ true → other_missing s q ≡ false
          own e = and_left_false (not (eqb q s.own)) (not (present (s.member q))) (not_is_false _ e)

          other : eqb q s.own ≡ false → other_missing s q ≡ false
          other e =
              and_right_false (not (eqb q s.own)) (not (present (s.member q)))
              (not_is_false _ (r q l (eqb-false q s.own e)))

  pub lacks_another : (s : Side) → lacks_only present s ≡ false → LacksAnother s
  unfolding lacks_only
  lacks_another s h = from (any_witness (other_missing s) s.size (not-false _ h))
    where
      from : (q : ℕ) × (q < s.size) × (other_missing s q ≡ true) → LacksAnother s
      from (q, l, e) =
          let both = and_both (not (eqb q s.own)) (not (present (s.member q))) e in
          record {
            unit = q;
            low = l;
            other = eqb-false q s.own (not-true _ both.0);
            missing = not-true _ both.1;
          }

  -- a list of sets none of which lacks only the cell
  pub some_rest_lacks_only :
      {X : Type 0} (vs : List Side) → Every (λ (v : Side). lacks_only present v ≡ false) vs →
      SomeRest (λ (x : ℕ). present x ≡ true) vs → X
  some_rest_lacks_only {X = X} [] h m = elim m [ ]
  some_rest_lacks_only (v ∷ vs) (h, hs) (inl r) = bool_not_both (lacks_only present v) (rest_lacks_only v r) h
  some_rest_lacks_only (v ∷ vs) (h, hs) (inr m) = some_rest_lacks_only vs hs m

  pub every_lacks_another : (vs : List Side) → Every (λ (v : Side). lacks_only present v ≡ false) vs → Every LacksAnother vs
  every_lacks_another [] h = tt {0}
  every_lacks_another (v ∷ vs) (h, hs) = (lacks_another v h, every_lacks_another vs hs)

-- only the presence of the set's units counts
pub lacks_only_same :
    (f h : ℕ → Bool) (s : Side) → ((q : ℕ) → q < s.size → f (s.member q) ≡ h (s.member q)) →
    lacks_only f s ≡ lacks_only h s
unfolding lacks_only
lacks_only_same f h s e =
    ap not
    (any_same (other_missing f s) (other_missing h s) s.size
    (λ (q : ℕ) (l : q < s.size). ap (λ (b : Bool). not (eqb q s.own) && not b) (e q l)))
