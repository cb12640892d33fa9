-- A line is read exactly if it has the form that 01 names. Assumes nothing.
use Prim.Native.Nat.{ℕ, ◌+◌, ◌≤◌}
use mathlib.Core.Path.{◌≡◌, refl, sym, ap, ◌∙◌}
use mathlib.Core.Bool.{Bool, true, false}
use mathlib.Core.Logic.{◌⊎◌, inl, inr, ◌≢◌}
use mathlib.Core.List.{List, [], ◌∷◌, ◌++◌, append_assoc}
use native.Mathlib.Omega.{arith}
use lib.ListN.{length, drop}
use lib.Seq.{drop-append_seam, drop-append-add, drop-drop}
use borrow.Author.Tests.{eqb-true}
use Rattle.std.specs.Prelude.{Some, None}
use Rattle.decimals.specs.Decimal.{is_digit, decimal, space, line_end}
use Rattle.lines.specs.declared.Question.{Question}
use Rattle.lines.specs.Line.{front, most, starts_digit, spaced, ended, field, past, v_in, g_in, disk_in, question, parsed}
use Rattle.lines.specs.Theorems.{Decimal, Form}
use Rattle.lines.proofs.Fronts.{front_of, front_append, field_found, field_some}
use Rattle.lines.proofs.Answers.{no_v, no_g, no_disk, all_three, past_is}

-- ---- what was read has the form

one_at_least : (xs : List ℕ) → xs ≢ [] → 1 ≤ length xs
one_at_least [] h = absurd (h refl)
one_at_least (x ∷ xs) h = omega arith

-- a field that is not empty is one to nine digits
field_decimal :
    (test : List ℕ → Bool) (xs : List ℕ) → field test xs ≢ [] →
    Decimal (field test xs) (decimal (field test xs))
field_decimal test xs h =
    let F = front_of xs in
    let e = (field_some test xs h).0 in
    record {
      digits = rw e F.digits;
      one = one_at_least (field test xs) h;
      nine = rw e F.few;
      value = refl;
    }

-- and stands at the front
field_front :
    (test : List ℕ → Bool) (xs : List ℕ) → field test xs ≢ [] →
    xs ≡ field test xs ++ drop (length (field test xs)) xs
field_front test xs h = rw (field_some test xs h).0 (front_of xs).there

-- what comes after a number and its space
space_first : (ys : List ℕ) → spaced ys ≡ true → ys ≡ space ∷ drop 1 ys
space_first [] h = absurd (cc)
space_first (y ∷ ys) h = ap (λ (x : ℕ). x ∷ ys) (eqb-true y space h)

spaced_split : (xs : List ℕ) → field spaced xs ≢ [] → xs ≡ field spaced xs ++ space ∷ past xs
spaced_split xs h =
    let a = field spaced xs in
    let e = space_first (drop (length a) xs) (field_some spaced xs h).1 in
    let p : drop 1 (drop (length a) xs) ≡ past xs = drop-drop 1 (length a) xs ∙ sym (past_is xs) in
    field_front spaced xs h ∙ ap (λ (ys : List ℕ). a ++ ys) (e ∙ ap (λ (ys : List ℕ). space ∷ ys) p)

end_is : (e : List ℕ) → ended e ≡ true → (e ≡ []) ⊎ (e ≡ line_end ∷ [])
end_is [] h = inl refl
end_is (x ∷ []) h = inr (ap (λ (y : ℕ). y ∷ []) (eqb-true x line_end h))
end_is (x ∷ y ∷ xs) h = absurd (cc)

-- the three fields, one after the other
three_split :
    (line a b c e p q : List ℕ) → line ≡ a ++ space ∷ p → p ≡ b ++ space ∷ q → q ≡ c ++ e →
    line ≡ a ++ space ∷ b ++ space ∷ c ++ e
three_split line a b c e p q h i j = rw (h, i, j, append_assoc, append_assoc)

read_form :
    (line : List ℕ) → v_in line ≢ [] → g_in line ≢ [] → disk_in line ≢ [] →
    Form line (decimal (v_in line)) (decimal (g_in line)) (decimal (disk_in line))
read_form line v g d =
    let e = drop (length (disk_in line)) (past (past line)) in
    record {
      a = v_in line;
      b = g_in line;
      c = disk_in line;
      e = e;
      reads_v = field_decimal spaced line v;
      reads_g = field_decimal spaced (past line) g;
      reads_disk = field_decimal ended (past (past line)) d;
      end = end_is e (field_some ended (past (past line)) d).1;
      written =
          three_split line (v_in line) (g_in line) (disk_in line) e (past line) (past (past line)) (spaced_split line v)
          (spaced_split (past line) g) (field_front ended (past (past line)) d);
    }

-- the line is read, or one of its fields is empty
abbrev Cases : List ℕ → Type 0
Cases line = (None ≡ parsed line) ⊎ ((v_in line ≢ []) × (g_in line ≢ []) × (disk_in line ≢ []))

none_or_some : (xs : List ℕ) → (xs ≡ []) ⊎ (xs ≢ [])
none_or_some [] = inl refl
none_or_some (x ∷ xs) = inr (λ e. cc)

cases : (line : List ℕ) → Cases line
cases line = first (none_or_some (v_in line))
  where
    third : v_in line ≢ [] → g_in line ≢ [] → (disk_in line ≡ []) ⊎ (disk_in line ≢ []) → Cases line
    third v g (inl z) = inl (no_disk line v g z)
    third v g (inr z) = inr (v, g, z)

    second : v_in line ≢ [] → (g_in line ≡ []) ⊎ (g_in line ≢ []) → Cases line
    second v (inl z) = inl (no_g line v z)
    second v (inr z) = third v z (none_or_some (disk_in line))

    first : (v_in line ≡ []) ⊎ (v_in line ≢ []) → Cases line
    first (inl z) = inl (no_v line z)
    first (inr z) = second z (none_or_some (g_in line))

pub has_form : (line : List ℕ) (v g disk : ℕ) → parsed line ≡ Some (question v g disk) → Form line v g disk
has_form line v g disk h = go (cases line)
  where
    go : Cases line → Form line v g disk
    go (inl u) = absurd (cc (h, u))
    go (inr n) =
        let s = all_three line n.0 n.1 n.2 ∙ h in
        let q : question (decimal (v_in line)) (decimal (g_in line)) (decimal (disk_in line)) ≡ question v g disk = cc s in
        let x : decimal (v_in line) ≡ v = ap (λ (r : Question). r.v) q in
        let y : decimal (g_in line) ≡ g = ap (λ (r : Question). r.g) q in
        let z : decimal (disk_in line) ≡ disk = ap (λ (r : Question). r.disk) q in
        rw (← x, ← y, ← z) (read_form line n.0 n.1 n.2)

-- ---- what has the form is read

field_is :
    (test : List ℕ → Bool) (a ys : List ℕ) (n : ℕ) → Decimal a n → starts_digit ys ≡ false → test ys ≡ true →
    field test (a ++ ys) ≡ a
field_is test a ys n D s t =
    let f : front most (a ++ ys) ≡ a = front_append most a ys D.digits D.nine s in
    field_found test (a ++ ys) (ap test (ap (λ (xs : List ℕ). drop (length xs) (a ++ ys)) f ∙ drop-append_seam a ys) ∙ t) ∙ f

space_is : (a ys : List ℕ) (n : ℕ) → Decimal a n → field spaced (a ++ space ∷ ys) ≡ a
unfolding is_digit
space_is a ys n D = field_is spaced a (space ∷ ys) n D refl refl

past_space : (a ys : List ℕ) (n : ℕ) → Decimal a n → past (a ++ space ∷ ys) ≡ ys
past_space a ys n D =
    past_is (a ++ space ∷ ys)
    ∙ ap (λ (xs : List ℕ). drop (length xs + 1) (a ++ space ∷ ys)) (space_is a ys n D)
    ∙ drop-append-add a (space ∷ ys) 1

end_field : (c e : List ℕ) (n : ℕ) → Decimal c n → (e ≡ []) ⊎ (e ≡ line_end ∷ []) → field ended (c ++ e) ≡ c
unfolding is_digit
end_field c e n D (inl h) = rw h (field_is ended c [] n D refl refl)
end_field c e n D (inr h) = rw h (field_is ended c (line_end ∷ []) n D refl refl)

three_join : (a b c e : List ℕ) → a ++ space ∷ b ++ space ∷ c ++ e ≡ a ++ space ∷ (b ++ space ∷ (c ++ e))
three_join a b c e = rw (append_assoc, append_assoc)

some_digits : (xs ys : List ℕ) (n : ℕ) → Decimal ys n → xs ≡ ys → xs ≢ []
some_digits xs ys n D e z = let l = D.one in let s = ap length (sym e ∙ z) in omega arith

pub form_read : (line : List ℕ) (v g disk : ℕ) → Form line v g disk → parsed line ≡ Some (question v g disk)
form_read line v g disk F =
    let q = F.c ++ F.e in
    let p = F.b ++ space ∷ q in
    let l : line ≡ F.a ++ space ∷ p = F.written ∙ three_join F.a F.b F.c F.e in
    let x : v_in line ≡ F.a = ap (field spaced) l ∙ space_is F.a p v F.reads_v in
    let s : past line ≡ p = ap past l ∙ past_space F.a p v F.reads_v in
    let y : g_in line ≡ F.b = ap (field spaced) s ∙ space_is F.b q g F.reads_g in
    let t : past (past line) ≡ q = ap past s ∙ past_space F.b q g F.reads_g in
    let z : disk_in line ≡ F.c = ap (field ended) t ∙ end_field F.c F.e disk F.reads_disk F.end in
    sym
    (all_three line (some_digits (v_in line) F.a v F.reads_v x) (some_digits (g_in line) F.b g F.reads_g y)
    (some_digits (disk_in line) F.c disk F.reads_disk z))
    ∙ rw (x, y, z, F.reads_v.value, F.reads_g.value, F.reads_disk.value)

-- ---- and no other line

pub no_form_unread : (line : List ℕ) → ((v g disk : ℕ) → Form line v g disk → ⊥) → parsed line ≡ None
no_form_unread line h = go (cases line)
  where
    go : Cases line → parsed line ≡ None
    go (inl u) = sym u
    go (inr n) =
        absurd (h (decimal (v_in line)) (decimal (g_in line)) (decimal (disk_in line)) (read_form line n.0 n.1 n.2))
