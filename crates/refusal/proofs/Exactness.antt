-- Refusals are exact: where each test of a call fits what its row of 01's table says in words, the answer is refused by n at
-- p exactly if n is due at p, and accepted exactly if none is due. Assumes nothing.
use Prim.Native.Nat.{ℕ}
use mathlib.Core.Path.{◌≡◌, refl, sym, ◌∙◌, subst}
use mathlib.Core.Logic.{inl, inr}
use mathlib.Core.Bool.{Bool, true, false, true≢false}
use mathlib.Core.List.{List, [], ◌∷◌, ◌++◌}
use Rattle.refusal.specs.Refusal.{Rule, rule, refused, accepted, answer}
use Rattle.refusal.specs.Due.{Row, row, Silent, Due, NoneDue, Exact}
use Rattle.refusal.proofs.Answer.{refused_accepted, first, next}

-- a rule fits a row: its test passes where the row holds, and the row holds at the rule's place and nowhere else
pub record Fit (x : Rule) (w : Row) : Type 0 where
  pub number : x.number ≡ w.number
  pub holds : x.test ≡ true → w.holds x.place
  pub only : (p : ℕ) → w.holds p → (x.test ≡ true) × (p ≡ x.place)

-- a row that has no place of its own: place 0
pub zero_fit :
    (n : ℕ) (t : Bool) (P : Type 0) → (t ≡ true → P) → (P → t ≡ true)
    → Fit (rule n t 0) (row n (λ (p : ℕ). (p ≡ 0) × P))
zero_fit n t P to from =
    record {
      number = refl;
      holds = λ (e : t ≡ true). (refl, to e);
      only = λ (p : ℕ) (h : (p ≡ 0) × P). (from h.1, h.0);
    }

-- the same row in other words
pub fit_words :
    (x : Rule) (n : ℕ) (P Q : ℕ → Type 0)
    → ((p : ℕ) → P p → Q p) → ((p : ℕ) → Q p → P p) → Fit x (row n P) → Fit x (row n Q)
fit_words x n P Q to from f =
    record {
      number = f.number;
      holds = λ (e : x.test ≡ true). to x.place (f.holds e);
      only = λ (p : ℕ) (h : Q p). f.only p (from p h);
    }

-- the rules fit the rows one by one; a later row's fit may assume that no earlier row holds anywhere
abbrev pub Fits : List Rule → List Row → Type 0
Fits [] [] = Unit {0}
Fits [] (w ∷ ws) = ⊥
Fits (x ∷ xs) [] = ⊥
Fits (x ∷ xs) (w ∷ ws) = Fit x w × (Silent w → Fits xs ws)

pub fits_append :
    (xs ys : List Rule) (ws zs : List Row)
    → Fits xs ws → (NoneDue ws → Fits ys zs) → Fits (xs ++ ys) (ws ++ zs)
fits_append [] ys [] zs f g = g tt
fits_append [] ys (w ∷ ws) zs f g = absurd f
fits_append (x ∷ xs) ys [] zs f g = absurd f
fits_append (x ∷ xs) ys (w ∷ ws) zs f g =
    (f.0, λ (s : Silent w). fits_append xs ys ws zs (f.1 s) (λ (r : NoneDue ws). g (s, r)))

pub fits_last :
    (xs : List Rule) (x : Rule) (ws : List Row) (w : Row)
    → Fits xs ws → (NoneDue ws → Fit x w) → Fits (xs ++ (x ∷ [])) (ws ++ (w ∷ []))
fits_last xs x ws w f g = fits_append xs (x ∷ []) ws (w ∷ []) f (λ (s : NoneDue ws). (g s, λ (_ : Silent w). tt))

-- a row is silent exactly if the test of its rule fails
pub fit_silent : (x : Rule) (w : Row) → Fit x w → x.test ≡ false → Silent w
fit_silent x w f e p h = true≢false (sym (f.only p h).0 ∙ e)

pub silent_fit : (x : Rule) (w : Row) → Fit x w → Silent w → x.test ≡ false
silent_fit x w f s = go x.test refl
  where
    go : (t : Bool) → x.test ≡ t → t ≡ false
    go true e = absurd (s x.place (f.holds e))
    go false e = refl

refused_due :
    {A : Type 0} (xs : List Rule) (ws : List Row) (a : A) (n p : ℕ)
    → Fits xs ws → answer xs a ≡ refused n p → Due ws n p
refused_due [] [] a n p f e = refused_accepted e refl
refused_due [] (w ∷ ws) a n p f e = absurd f
refused_due (x ∷ xs) [] a n p f e = absurd f
refused_due (x ∷ xs) (w ∷ ws) a n p f e = go x.test refl (λ (s : Silent w). refused_due xs ws a n p (f.1 s))
  where
    go :
        (t : Bool) → x.test ≡ t → (Silent w → answer xs a ≡ refused n p → Due ws n p)
        → Due (w ∷ ws) n p
    go true h rest =
        let r = first x xs a h in
        let same : n ≡ x.number = cc in
        let at : x.place ≡ p = cc in
        inl (same ∙ f.0.number, subst (λ (q : ℕ). w.holds q) at (f.0.holds h))
    go false h rest = let s = fit_silent x w f.0 h in inr (s, rest s (sym (next x xs a h) ∙ e))

due_refused :
    {A : Type 0} (xs : List Rule) (ws : List Row) (a : A) (n p : ℕ)
    → Fits xs ws → Due ws n p → answer xs a ≡ refused n p
due_refused [] [] a n p f d = absurd d
due_refused [] (w ∷ ws) a n p f d = absurd f
due_refused (x ∷ xs) [] a n p f d = absurd f
due_refused (x ∷ xs) (w ∷ ws) a n p f (inl d) =
    let h = f.0.only p d.1 in
    let r = first x xs a h.0 in
    cc (d.0, f.0.number, h.1)
due_refused (x ∷ xs) (w ∷ ws) a n p f (inr d) =
    next x xs a (silent_fit x w f.0 d.0) ∙ due_refused xs ws a n p (f.1 d.0) d.1

accepted_none :
    {A : Type 0} (xs : List Rule) (ws : List Row) (a b : A) → Fits xs ws → answer xs a ≡ accepted b → NoneDue ws
accepted_none [] [] a b f e = tt
accepted_none [] (w ∷ ws) a b f e = absurd f
accepted_none (x ∷ xs) [] a b f e = absurd f
accepted_none (x ∷ xs) (w ∷ ws) a b f e = go x.test refl (λ (s : Silent w). accepted_none xs ws a b (f.1 s))
  where
    go : (t : Bool) → x.test ≡ t → (Silent w → answer xs a ≡ accepted b → NoneDue ws) → NoneDue (w ∷ ws)
    go true h rest = absurd (refused_accepted (first x xs a h) e)
    go false h rest = let s = fit_silent x w f.0 h in (s, rest s (sym (next x xs a h) ∙ e))

none_accepted :
    {A : Type 0} (xs : List Rule) (ws : List Row) (a : A) → Fits xs ws → NoneDue ws → answer xs a ≡ accepted a
none_accepted [] [] a f d = refl
none_accepted [] (w ∷ ws) a f d = absurd f
none_accepted (x ∷ xs) [] a f d = absurd f
none_accepted (x ∷ xs) (w ∷ ws) a f d =
    next x xs a (silent_fit x w f.0 d.0) ∙ none_accepted xs ws a (f.1 d.0) d.1

-- "refusals come exactly as tabled"
pub exact : {A : Type 0} (xs : List Rule) (ws : List Row) (a : A) → Fits xs ws → Exact ws (answer xs a)
exact {A} xs ws a f =
    record {
      refusal = λ (n p : ℕ). (refused_due xs ws a n p f, due_refused xs ws a n p f);
      acceptance = (
        λ (e : (b : A) × (answer xs a ≡ accepted b)). accepted_none xs ws a e.0 f e.1,
        λ (d : NoneDue ws). (a, none_accepted xs ws a f d),
      );
    }
