-- The laws of `stored`: what each byte is, and runs stored one behind the other. Assumes nothing.
use Prim.Native.Nat.{ℕ, suc, ◌+◌, ◌-◌, ◌≤◌, ◌<◌}
use mathlib.Core.Path.{◌≡◌, refl, sym, ◌∙◌, ap, ap₂}
use mathlib.Core.List.{List, [], ◌∷◌, ◌++◌, append_assoc}
use mathlib.Core.Logic.{◌⊎◌, inl, inr, ⊎_elim}
use native.Mathlib.Nat.{add_assoc, add-zero, le-add_right}
use native.Mathlib.Omega.{arith}
use lib.Bits.{bit_xor}
use lib.ListN.{get_or, length, take, drop, length-append, length-drop, get_or-append, take-append-drop}
use lib.Seq.{length-take-le, get_or-take, get_or-drop, get_or-append-add, drop-drop, ext_get_or, take_at, drop_at}
use borrow.Rule.Slice.PartMut.{put_mid, Post-is}
use Rattle.leaves.specs.Bytes.{run, sum_at, Apart}
use Rattle.leaves.proofs.Runs.{at_run, length_run}
use Rattle.restoring.specs.Restore.{stored}

-- ---- xs laid inside the list
module _ (a : List ℕ) (p : ℕ) (xs : List ℕ) (fits : p + length xs ≤ length a) where
  length_front : length (take p a) ≡ p
  length_front = length-take-le p a (omega arith)

  pub length_stored : length (stored a p xs) ≡ length a
  unfolding stored
  length_stored =
      let e : length (take p a) ≡ p = length_front in
      rw (
        length-append (take p a) (xs ++ drop (p + length xs) a),
        length-append xs (drop (p + length xs) a),
        length-drop (p + length xs) a,
      )
      (omega arith)

  -- inside the run the bytes of xs
  pub stored_in : (j : ℕ) → j < length xs → get_or (stored a p xs) (p + j) 0 ≡ get_or xs j 0
  unfolding stored
  stored_in j l =
      ap (λ (n : ℕ). get_or (stored a p xs) (n + j) 0) (sym length_front)
      ∙ get_or-append-add (take p a) (xs ++ drop (p + length xs) a) j 0 ∙ get_or-append xs (drop (p + length xs) a) 0 j l

  stored_before : (n : ℕ) → n < p → get_or (stored a p xs) n 0 ≡ get_or a n 0
  unfolding stored
  stored_before n l =
      get_or-append (take p a) (xs ++ drop (p + length xs) a) 0 n (rw length_front l) ∙ get_or-take p a n 0 l

  stored_past : (j : ℕ) → get_or (stored a p xs) (p + (length xs + j)) 0 ≡ get_or a (p + length xs + j) 0
  unfolding stored
  stored_past j =
      ap (λ (n : ℕ). get_or (stored a p xs) (n + (length xs + j)) 0) (sym length_front)
      ∙ get_or-append-add (take p a) (xs ++ drop (p + length xs) a) (length xs + j) 0
      ∙ get_or-append-add xs (drop (p + length xs) a) j 0 ∙ get_or-drop (p + length xs) a j 0

  stored_after : (n : ℕ) → p + length xs ≤ n → get_or (stored a p xs) n 0 ≡ get_or a n 0
  stored_after n l =
      let j : ℕ = n - (p + length xs) in
      let e : n ≡ p + (length xs + j) = omega arith in
      let f : p + length xs + j ≡ n = omega arith in
      ap (λ (i : ℕ). get_or (stored a p xs) i 0) e ∙ stored_past j ∙ ap (λ (i : ℕ). get_or a i 0) f

  -- and elsewhere what was there
  pub stored_out : (n : ℕ) → (n < p) ⊎ (p + length xs ≤ n) → get_or (stored a p xs) n 0 ≡ get_or a n 0
  stored_out n = ⊎_elim (stored_before n) (stored_after n)

  -- the run itself
  pub run_stored : run (stored a p xs) p (length xs) ≡ xs
  unfolding run stored
  run_stored =
      ap (take (length xs)) (drop_at (take p a) (xs ++ drop (p + length xs) a) p length_front)
      ∙ take_at xs (drop (p + length xs) a) (length xs) refl

  out_of_apart : (q n i : ℕ) → Apart p (length xs) q n → i < n → (q + i < p) ⊎ (p + length xs ≤ q + i)
  out_of_apart q n i h l =
      ⊎_elim (λ (k : p + length xs ≤ q). inr (omega arith)) (λ (k : q + n ≤ p). inl (omega arith)) h.apart

  -- a run apart from it stays
  pub run_stored_apart : (q n : ℕ) → q + n ≤ length a → Apart p (length xs) q n → run (stored a p xs) q n ≡ run a q n
  run_stored_apart q n h k =
      ext_get_or 0 (run (stored a p xs) q n) (run a q n)
      (length_run (stored a p xs) q n (rw length_stored h) ∙ sym (length_run a q n h))
      (λ (i : ℕ) (l : i < length (run (stored a p xs) q n)).
      let m : i < n = omega (arith, length_run (stored a p xs) q n (rw length_stored h)) in
      at_run (stored a p xs) q n i m ∙ stored_out (q + i) (out_of_apart q n i k m) ∙ sym (at_run a q n i m))

  -- the list in two: up to the end of the run, and from there
  stored_two : stored a p xs ≡ (take p a ++ xs) ++ drop (p + length xs) a
  unfolding stored
  stored_two = sym (append_assoc (take p a) xs (drop (p + length xs) a))

  length_two : length (take p a ++ xs) ≡ p + length xs
  length_two = length-append (take p a) xs ∙ ap (λ (n : ℕ). n + length xs) length_front

  -- the next run behind it
  pub stored_more : (ys : List ℕ) → stored (stored a p xs) (p + length xs) ys ≡ stored a p (xs ++ ys)
  unfolding stored
  stored_more ys =
      let m : ℕ = p + length xs in
      let d : List ℕ = drop m a in
      let e : stored a p xs ≡ (take p a ++ xs) ++ d = stored_two in
      let f : take m (stored a p xs) ≡ take p a ++ xs = ap (take m) e ∙ take_at (take p a ++ xs) d m length_two in
      let g : drop (m + length ys) (stored a p xs) ≡ drop (p + length (xs ++ ys)) a =
      sym (drop-drop (length ys) m (stored a p xs))
      ∙ ap (drop (length ys)) (ap (drop m) e ∙ drop_at (take p a ++ xs) d m length_two) ∙ drop-drop (length ys) m a
      ∙ ap (λ (n : ℕ). drop n a) (add_assoc p (length xs) (length ys) ∙ ap (λ (n : ℕ). p + n) (sym (length-append xs ys))) in
      ap₂ (λ (x y : List ℕ). x ++ (ys ++ y)) f g ∙ append_assoc (take p a) xs (ys ++ drop (p + length (xs ++ ys)) a)
      ∙ ap (λ (l : List ℕ). take p a ++ l) (sym (append_assoc xs ys (drop (p + length (xs ++ ys)) a)))

-- nothing stored
pub stored_nil : (a : List ℕ) (p : ℕ) → stored a p [] ≡ a
unfolding stored
stored_nil a p = ap (λ (n : ℕ). take p a ++ drop n a) (add-zero p) ∙ take-append-drop p a

-- storing what is there changes nothing
pub stored_same : (a : List ℕ) (p n : ℕ) → p + n ≤ length a → stored a p (run a p n) ≡ a
unfolding stored run
stored_same a p n h =
    ap (λ (m : ℕ). take p a ++ (run a p n ++ drop (p + m) a)) (length_run a p n h)
    ∙ ap (λ (l : List ℕ). take p a ++ l)
    (ap (λ (l : List ℕ). run a p n ++ l) (sym (drop-drop n p a)) ∙ take-append-drop n (drop p a))
    ∙ take-append-drop p a

-- a part lent from p on comes back as y
pub put_stored : (a : List ℕ) (p k : ℕ) (y : List ℕ) → length y ≡ k → put_mid p (p + k - p) a y ≡ stored a p y
unfolding stored
put_stored a p k y h =
    ap (λ (l : List ℕ). take p a ++ (y ++ l)) (Post-is p (p + k) a (le-add_right p k) ∙ ap (λ (n : ℕ). drop (p + n) a) (sym h))

-- ---- a sum none of whose sources has a byte in the run
pub sum_stored :
    (a : List ℕ) (p : ℕ) (xs : List ℕ) → p + length xs ≤ length a → (ps : List ℕ) (i : ℕ)
    → ((t : ℕ) → t < length ps → (get_or ps t 0 + i < p) ⊎ (p + length xs ≤ get_or ps t 0 + i))
    → sum_at (stored a p xs) ps i ≡ sum_at a ps i
unfolding sum_at
sum_stored a p xs f [] i h = refl
sum_stored a p xs f (q ∷ ps) i h =
    ap₂ bit_xor (stored_out a p xs f (q + i) (h 0 (omega arith)))
    (sum_stored a p xs f ps i (λ (t : ℕ) (l : t < length ps). h (suc t) (omega arith)))
