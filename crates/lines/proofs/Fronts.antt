-- The digits at the front of a list of bytes, and the field that they make. Assumes nothing.
use Prim.Native.Nat.{ℕ, zero, suc, ◌≤◌}
use mathlib.Core.Path.{◌≡◌, refl, ap, ◌∙◌}
use mathlib.Core.Bool.{Bool, true, false, cond}
use mathlib.Core.Logic.{◌⊎◌, inl, inr, ◌≢◌}
use mathlib.Core.List.{List, [], ◌∷◌, ◌++◌}
use native.Mathlib.Nat.{not-suc-le-zero}
use native.Mathlib.Omega.{arith}
use lib.ListN.{length, take, drop, length-append}
use lib.Seq.{take-append_seam}
use Rattle.std.specs.Char.{is_ascii_digit}
use Rattle.std.specs.List.{take_while}
use Rattle.std.proofs.lemmas.List.Sums.{take_while-cons}
use Rattle.counting.proofs.Bools.{bool_either}
use Rattle.decimals.specs.Decimal.{is_digit, Digits}
use Rattle.lines.specs.Line.{front, most, starts_digit, field}

front_none : (n : ℕ) (xs : List ℕ) → starts_digit xs ≡ false → front n xs ≡ []
unfolding front
front_none zero xs h = refl
front_none (suc n) [] h = refl
front_none (suc n) (x ∷ xs) h = rw h

front_digit : (n x : ℕ) (xs : List ℕ) → is_digit x ≡ true → front (suc n) (x ∷ xs) ≡ x ∷ front n xs
unfolding front
front_digit n x xs h = rw h

-- the digits are what the library takes while they pass its test
pub front_taken : (n : ℕ) (xs : List ℕ) → take_while is_ascii_digit (take n xs) ≡ front n xs
unfolding front is_digit
front_taken zero xs = refl
front_taken (suc n) [] = refl
front_taken (suc n) (x ∷ xs) =
    take_while-cons is_ascii_digit x (take n xs)
    ∙ ap (λ (ys : List ℕ). cond (is_ascii_digit x) (x ∷ ys) []) (front_taken n xs)

-- they are digits, n at most, and stand at the front
pub record Front (n : ℕ) (xs ys : List ℕ) : Type 0 where
  pub digits : Digits ys
  pub few : length ys ≤ n
  pub there : xs ≡ ys ++ drop (length ys) xs

front_laws : (n : ℕ) (xs : List ℕ) → Front n xs (front n xs)
unfolding front
front_laws zero xs = record { digits = tt; few = omega arith; there = refl }
front_laws (suc n) [] = record { digits = tt; few = omega arith; there = refl }
front_laws (suc n) (x ∷ xs) = go (bool_either (is_digit x)) (front_laws n xs)
  where
    go : (is_digit x ≡ true) ⊎ (is_digit x ≡ false) → Front n xs (front n xs) → Front (suc n) (x ∷ xs) (front (suc n) (x ∷ xs))
    go (inl e) F =
        rw e
        (record {
          digits = (e, F.digits);
          few = let l = F.few in omega arith;
          there = ap (λ (ys : List ℕ). x ∷ ys) F.there;
        })
    go (inr e) F = rw e (record { digits = tt; few = omega arith; there = refl })

pub front_of : (xs : List ℕ) → Front most xs (front most xs)
front_of xs = front_laws most xs

pub front_first : (xs : List ℕ) → take (length (front most xs)) xs ≡ front most xs
front_first xs =
    let F = front_of xs in
    ap (take (length (front most xs))) F.there ∙ take-append_seam (front most xs) (drop (length (front most xs)) xs)

-- they are no more than the bytes
pub front_short : (xs : List ℕ) → length (front most xs) ≤ length xs
front_short xs =
    let e = ap length (front_of xs).there ∙ length-append (front most xs) (drop (length (front most xs)) xs) in
    omega arith

-- digits before what is no digit are those at the front
pub front_append : (n : ℕ) (xs ys : List ℕ) → Digits xs → length xs ≤ n → starts_digit ys ≡ false → front n (xs ++ ys) ≡ xs
front_append n [] ys d l h = front_none n ys h
front_append zero (x ∷ xs) ys d l h = absurd (not-suc-le-zero l)
front_append (suc n) (x ∷ xs) ys d l h =
    front_digit n x (xs ++ ys) d.0 ∙ ap (λ (zs : List ℕ). x ∷ zs) (front_append n xs ys d.1 (omega arith) h)

module _ (test : List ℕ → Bool) (xs : List ℕ) where
  pub field_found : test (drop (length (front most xs)) xs) ≡ true → field test xs ≡ front most xs
  unfolding field
  field_found h = rw h

  pub field_none : test (drop (length (front most xs)) xs) ≡ false → field test xs ≡ []
  unfolding field
  field_none h = rw h

  -- no digits, no field
  pub no_front : front most xs ≡ [] → field test xs ≡ []
  no_front h = go (bool_either (test (drop (length (front most xs)) xs)))
    where
      go :
          (test (drop (length (front most xs)) xs) ≡ true) ⊎ (test (drop (length (front most xs)) xs) ≡ false) → field test xs ≡ []
      go (inl e) = field_found e ∙ h
      go (inr e) = field_none e

  -- a field that is not empty is the digits at the front, and what comes after them passes the test
  pub field_some :
      (field test xs ≢ []) → (field test xs ≡ front most xs) × (test (drop (length (field test xs)) xs) ≡ true)
  field_some h = go (bool_either (test (drop (length (front most xs)) xs)))
    where
      go :
          (test (drop (length (front most xs)) xs) ≡ true) ⊎ (test (drop (length (front most xs)) xs) ≡ false) →
          (field test xs ≡ front most xs) × (test (drop (length (field test xs)) xs) ≡ true)
      go (inl e) = (field_found e, rw (field_found e) e)
      go (inr e) = absurd (h (field_none e))
