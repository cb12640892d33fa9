-- A loop that stores lists, one after the other. Assumes nothing.
use Prim.Native.Nat.{ℕ, suc, ◌+◌, ◌≤◌, ◌<◌}
use mathlib.Core.Path.{◌≡◌, refl, sym, ap, ap₂, ◌∙◌}
use mathlib.Core.List.{List, [], ◌∷◌, ◌++◌}
use native.Mathlib.Nat.{add-zero, add-suc, suc-add}
use native.Mathlib.Omega.{arith}
use lib.ListN.{length, set, length-append}
use lib.Seq.{sets, length-sets}
use Rattle.sources.specs.declared.Triples.{Triples}
use Rattle.sources.specs.Plan.{lists_of}
use Rattle.sources.specs.Written.{Written}
use Rattle.sources.proofs.Lists.{lists_none, lists_more, lists_room}

pub sets_append : (l : List ℕ) (i : ℕ) (xs ys : List ℕ) → sets l i (xs ++ ys) ≡ sets (sets l i xs) (i + length xs) ys
sets_append l i [] ys = ap (λ (j : ℕ). sets l j ys) (sym (add-zero i))
sets_append l i (x ∷ xs) ys =
    sets_append (set l i x) (suc i) xs ys
    ∙ ap (λ (j : ℕ). sets (sets (set l i x) (suc i) xs) j ys) (suc-add i (length xs) ∙ sym (add-suc i (length xs)))

pub written_none : (old : Triples) → Written old [] old
written_none old = record { is = refl; next = sym (add-zero old.next); lent = refl }

-- the first e of n lists are stored; all of them have room
pub record Storing (f : ℕ → List ℕ) (n : ℕ) (old last : Triples) (e : ℕ) : Type 0 where
  pub room : old.next + length (lists_of f n) ≤ length old.list.now
  pub written : Written old (lists_of f e) last

pub storing_none :
    (f : ℕ → List ℕ) (n : ℕ) (old : Triples) → old.next + length (lists_of f n) ≤ length old.list.now → Storing f n old old 0
storing_none f n old h = record { room = h; written = rw (lists_none f) (written_none old) }

module _ {f : ℕ → List ℕ} {n : ℕ} {old last : Triples} {e : ℕ} (s : Storing f n old last e) where
  pub stored_long : length last.list.now ≡ length old.list.now
  stored_long = ap length s.written.is ∙ length-sets old.list.now old.next (lists_of f e)

  -- the next one has room
  pub storing_room : (new : List ℕ) → new ≡ f e → e < n → last.next + length new ≤ length last.list.now
  storing_room new q h = rw q (omega (arith, lists_room f e n h, stored_long, s.room, s.written.next))

  pub storing_more : {new : List ℕ} {last' : Triples} → Written last new last' → new ≡ f e → Storing f n old last' (e + 1)
  storing_more {new} {last'} w q =
      record {
        room = s.room;
        written =
            record {
              is =
                  w.is
                  ∙ ap (sets last.list.now last.next) q
                  ∙ ap₂ (λ (l : List ℕ) (i : ℕ). sets l i (f e)) s.written.is s.written.next
                  ∙ sym (sets_append old.list.now old.next (lists_of f e) (f e))
                  ∙ ap (sets old.list.now old.next) (sym (lists_more f e));
              next =
                  rw (lists_more f e, length-append) (omega (arith, w.next, s.written.next, ap length q));
              lent = w.lent ∙ s.written.lent;
            };
      }

  pub storing_all : e ≡ n → Written old (lists_of f n) last
  storing_all h = rw (sym h) s.written
