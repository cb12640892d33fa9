-- What the line asks, in the words of the definitions, from its three numbers. Assumes nothing.
use Prim.Native.Nat.{ℕ, ◌+◌}
use mathlib.Core.Path.{◌≡◌, refl, sym, ap, ◌∙◌}
use mathlib.Core.Bool.{Bool, true, false}
use mathlib.Core.Logic.{◌≢◌}
use mathlib.Core.List.{List, [], ◌∷◌}
use Rattle.std.proofs.Math.Bool.{and-true}
use lib.Dec.{eqb}
use lib.ListN.{length, take, drop}
use lib.Pointwise.{pointwise}
use lib.Seq.{drop-drop}
use Rattle.std.proofs.Common.{rules, tests}
use Rattle.std.specs.Prelude.{Some, None}
use Rattle.std.specs.Bool.{then_some}
use Rattle.decimals.specs.Decimal.{decimal, space}
use Rattle.lines.specs.Line.{front, most, spaced, field, past, v_in, g_in, disk_in, some, question, Reads, parsed, ended}
use Rattle.lines.proofs.Fronts.{field_found, field_none, no_front}

some_digits : (xs : List ℕ) → xs ≢ [] → some xs ≡ true
some_digits [] h = absurd (h refl)
some_digits (x ∷ xs) h = search (rules, tests)

module _ (line : List ℕ) where
  pub no_v : v_in line ≡ [] → None ≡ parsed line
  unfolding parsed
  no_v v = rw v

  pub no_g : v_in line ≢ [] → g_in line ≡ [] → None ≡ parsed line
  unfolding parsed
  no_g v g = rw (some_digits (v_in line) v, g)

  pub no_disk : v_in line ≢ [] → g_in line ≢ [] → disk_in line ≡ [] → None ≡ parsed line
  unfolding parsed
  no_disk v g d = rw (some_digits (v_in line) v, some_digits (g_in line) g, d)

  pub all_three :
      v_in line ≢ [] → g_in line ≢ [] → disk_in line ≢ [] →
      Some (question (decimal (v_in line)) (decimal (g_in line)) (decimal (disk_in line))) ≡ parsed line
  unfolding parsed
  all_three v g d = rw (some_digits (v_in line) v, some_digits (g_in line) g, some_digits (disk_in line) d)

-- ---- a field, from the digits at the front of a line

module _ (line : List ℕ) (e : List ℕ) (h : e ≡ drop (length (front most line)) line) where
  spaced_is : (xs : List ℕ) → pointwise eqb (take 1 xs) (space ∷ []) ≡ spaced xs
  spaced_is [] = refl
  spaced_is (x ∷ xs) = and-true (eqb x space)

  pub no_space : pointwise eqb (take 1 e) (space ∷ []) ≡ false → field spaced line ≡ []
  no_space t = field_none spaced line (sym (ap spaced h) ∙ sym (spaced_is e) ∙ t)

  pub with_space : pointwise eqb (take 1 e) (space ∷ []) ≡ true → field spaced line ≡ front most line
  with_space t = field_found spaced line (sym (ap spaced h) ∙ sym (spaced_is e) ∙ t)

  pub past_space : pointwise eqb (take 1 e) (space ∷ []) ≡ true → drop 1 e ≡ past line
  unfolding past
  past_space t = rw (with_space t, h) (drop-drop 1 (length (front most line)) line)

pub past_is : (xs : List ℕ) → past xs ≡ drop (length (field spaced xs) + 1) xs
unfolding past
past_is xs = refl

-- ---- the three numbers, one after the other

module _ (line : List ℕ) (v : ℕ) (b : List ℕ) (hv : Reads (v_in line) (past line) v b) where
  pub unread_g : field spaced b ≡ [] → None ≡ parsed line
  unread_g z = no_g line hv.0 (ap (field spaced) (sym hv.2) ∙ z)

  module _ (g : ℕ) (c : List ℕ) (hg : Reads (field spaced b) (past b) g c) where
    g_there : g_in line ≢ []
    g_there z = hg.0 (ap (field spaced) hv.2 ∙ z)

    c_is : c ≡ past (past line)
    c_is = hg.2 ∙ ap past hv.2

    pub unread_disk : front most c ≡ [] → None ≡ parsed line
    unread_disk z = no_disk line hv.0 g_there (no_front ended (past (past line)) (ap (front most) (sym c_is) ∙ z))

    pub read_all :
        (disk : ℕ) (e : List ℕ) → Reads (front most c) (drop (length (front most c)) c) disk e →
        then_some (ended e) (question v g disk) ≡ parsed line
    read_all disk e hd = go (ended e) refl
      where
        there : {t : Bool} → ended e ≡ t → ended (drop (length (front most c)) c) ≡ t
        there t = ap ended (sym hd.2) ∙ t

        go : (t : Bool) → ended e ≡ t → then_some t (question v g disk) ≡ parsed line
        go true t =
            let x : g_in line ≡ field spaced b = ap (field spaced) (sym hv.2) in
            let y : disk_in line ≡ front most c = ap (field ended) (sym c_is) ∙ field_found ended c (there t) in
            rw (hv.1, hg.1, hd.1, ← x, ← y) (all_three line hv.0 g_there (λ z. hd.0 (sym y ∙ z)))
        go false t = no_disk line hv.0 g_there (ap (field ended) (sym c_is) ∙ field_none ended c (there t))
