-- Laws of runs: what each byte is, and the algebra of adding bytes at positions. Assumes nothing.
use Prim.Native.Nat.{ℕ, zero, suc, ◌+◌, ◌-◌, ◌≤◌, ◌<◌, min}
use mathlib.Core.Path.{◌≡◌, refl, sym, ◌∙◌, ap, ap₂}
use mathlib.Core.List.{List, [], ◌∷◌, ◌++◌, map, map-append}
use Rattle.std.proofs.lemmas.List.{take_more}
use mathlib.Core.Logic.{◌⊎◌, inl, inr, ⊎_elim}
use native.Mathlib.Nat.{zero-add, add_assoc, suc-add, add-sub_cancel_left}
use native.Mathlib.Decide.{dec_lt}
use native.Mathlib.Omega.{arith}
use lib.Bits.{bit_xor, xor_comm, xor_self, xor_zero_r}
use lib.ListN.{get_or, length, take, drop, replicate, length-append, length-take, length-drop, length-replicate, get_or-eq_default, take-append-drop}
use lib.Seq.{get_or-take, get_or-drop, length-take-le, ext_get_or}
use borrow.Rule.Slice.PartMut.{mid_of, put_mid, mid_len}
use Rattle.leaves.specs.Bytes.{xors, run, add_at, add_all, laid, Apart}
use Rattle.leaves.proofs.Xor.{xor_assoc, xor_cancel, xor_swap}

-- ---- a list by its bytes
pub record Bytes (x : List ℕ) (n : ℕ) (f : ℕ → ℕ) : Type 0 where
  pub long : length x ≡ n
  pub at : (i : ℕ) → i < n → get_or x i 0 ≡ f i

pub same_bytes : {x y : List ℕ} {n : ℕ} {f h : ℕ → ℕ} → Bytes x n f → Bytes y n h → ((i : ℕ) → i < n → f i ≡ h i) → x ≡ y
same_bytes {x} {y} {n} bx by e =
    ext_get_or 0 x y (bx.long ∙ sym by.long)
    (λ (i : ℕ) (l : i < length x). let m : i < n = omega (arith, bx.long) in bx.at i m ∙ e i m ∙ sym (by.at i m))

pub bytes_of : (x : List ℕ) → Bytes x (length x) (λ (i : ℕ). get_or x i 0)
bytes_of x = record { long = refl; at = λ i l. refl }

-- a list of zeros
pub at_zeros : (n i : ℕ) → ◌≡◌ {A = ℕ} (get_or (replicate n 0) i 0) 0
at_zeros zero i = refl
at_zeros (suc n) zero = refl
at_zeros (suc n) (suc i) = at_zeros n i

pub bytes_zeros : (n : ℕ) → Bytes (replicate n 0) n (λ (i : ℕ). 0)
bytes_zeros n = record { long = length-replicate n 0; at = λ i l. at_zeros n i }

-- ---- lent parts
-- n of k zeros
pub front_zeros : (k n : ℕ) → n ≤ k → n ≡ length {A = ℕ} (take n (replicate k 0))
front_zeros k n h = sym (length-take-le n (replicate k 0) (rw (bytes_zeros k).long h))

pub at_front_zeros : (k n i : ℕ) → ◌≡◌ {A = ℕ} (get_or (take n (replicate k 0)) i 0) 0
at_front_zeros k zero i = refl
at_front_zeros zero (suc n) i = refl
at_front_zeros (suc k) (suc n) zero = refl
at_front_zeros (suc k) (suc n) (suc i) = at_front_zeros k n i

-- k bytes from p on
pub part_length : (a : List ℕ) (p k : ℕ) → p + k ≤ length a → length (mid_of p (p + k - p) a) ≡ k
part_length a p k h = mid_len p (p + k) a h ∙ add-sub_cancel_left p k

-- ---- xors
pub length_xors : (x y : List ℕ) → length (xors x y) ≡ length x
unfolding xors
length_xors [] y = refl
length_xors (a ∷ x) [] = refl
length_xors (a ∷ x) (b ∷ y) = ap suc (length_xors x y)

pub at_xors : (x y : List ℕ) (i : ℕ) → i < length x → get_or (xors x y) i 0 ≡ bit_xor (get_or x i 0) (get_or y i 0)
unfolding xors
at_xors [] y i h = absurd (omega arith)
at_xors (a ∷ x) [] i h = sym (xor_zero_r (get_or (a ∷ x) i 0))
at_xors (a ∷ x) (b ∷ y) zero h = refl
at_xors (a ∷ x) (b ∷ y) (suc i) h = at_xors x y i (omega arith)

-- past the end too, where the first list is not shorter
pub at_xors_all : (x y : List ℕ) (i : ℕ) → length y ≤ length x → get_or (xors x y) i 0 ≡ bit_xor (get_or x i 0) (get_or y i 0)
unfolding xors
at_xors_all [] [] i h = refl
at_xors_all [] (b ∷ y) i h = absurd (omega arith)
at_xors_all (a ∷ x) [] i h = sym (xor_zero_r (get_or (a ∷ x) i 0))
at_xors_all (a ∷ x) (b ∷ y) zero h = refl
at_xors_all (a ∷ x) (b ∷ y) (suc i) h = at_xors_all x y i (omega arith)

pub bytes_xors :
    {x : List ℕ} {n : ℕ} {f : ℕ → ℕ} → Bytes x n f → (y : List ℕ) → Bytes (xors x y) n (λ (i : ℕ). bit_xor (f i) (get_or y i 0))
bytes_xors {x} {n} {f} b y = record {
  long = length_xors x y ∙ b.long;
  at = λ (i : ℕ) (l : i < n). at_xors x y i (omega (arith, b.long)) ∙ ap (λ (z : ℕ). bit_xor z (get_or y i 0)) (b.at i l);
}

-- XOR with what is zero everywhere changes nothing
pub xors_zero : (x y : List ℕ) → ((i : ℕ) → get_or y i 0 ≡ 0) → xors x y ≡ x
xors_zero x y z = same_bytes (bytes_xors (bytes_of x) y) (bytes_of x) (λ i l. rw (z i) (xor_zero_r (get_or x i 0)))

pub xors_zeros : (x : List ℕ) (n : ℕ) → xors x (replicate n 0) ≡ x
xors_zeros x n = xors_zero x (replicate n 0) (at_zeros n)

pub xors_self : (x : List ℕ) → xors x x ≡ replicate (length x) 0
xors_self x = same_bytes (bytes_xors (bytes_of x) x) (bytes_zeros (length x)) (λ i l. xor_self (get_or x i 0))

pub xors_comm : (x y : List ℕ) → length x ≡ length y → xors x y ≡ xors y x
xors_comm x y e =
    same_bytes (bytes_xors (bytes_of x) y) (rw (← e) at (bytes_xors (bytes_of y) x)) (λ i l. xor_comm (get_or x i 0) (get_or y i 0))

pub zeros_xors : (y : List ℕ) → xors (replicate (length y) 0) y ≡ y
zeros_xors y = xors_comm (replicate (length y) 0) y (bytes_zeros (length y)).long ∙ xors_zeros y (length y)

pub xors_assoc : (x y z : List ℕ) → length z ≤ length y → xors (xors x y) z ≡ xors x (xors y z)
xors_assoc x y z e =
    same_bytes (bytes_xors (bytes_xors (bytes_of x) y) z) (bytes_xors (bytes_of x) (xors y z))
    (λ i l. rw (at_xors_all y z i e) (xor_assoc (get_or x i 0) (get_or y i 0) (get_or z i 0)))

-- the second list again: what was there before
pub xors_cancel : (x y : List ℕ) → length x ≡ length y → xors x (xors x y) ≡ y
xors_cancel x y e =
    same_bytes (bytes_xors (bytes_of x) (xors x y)) (rw (← e) at (bytes_of y))
    (λ i l. rw (at_xors x y i l) (xor_cancel (get_or x i 0) (get_or y i 0)))

-- ---- runs
length_run_any : (a : List ℕ) (p n : ℕ) → length (run a p n) ≡ min n (length a - p)
unfolding run
length_run_any a p n = length-take n (drop p a) ∙ ap (min n) (length-drop p a)

pub at_run : (a : List ℕ) (p n i : ℕ) → i < n → get_or (run a p n) i 0 ≡ get_or a (p + i) 0
unfolding run
at_run a p n i l = get_or-take n (drop p a) i 0 l ∙ get_or-drop p a i 0

bytes_run_any : (a : List ℕ) (p n : ℕ) → Bytes (run a p n) (min n (length a - p)) (λ (i : ℕ). get_or a (p + i) 0)
bytes_run_any a p n = record {
  long = length_run_any a p n;
  at = λ (i : ℕ) (l : i < min n (length a - p)). at_run a p n i (omega arith);
}

pub length_run : (a : List ℕ) (p n : ℕ) → p + n ≤ length a → length (run a p n) ≡ n
length_run a p n h = omega (arith, length_run_any a p n)

pub bytes_run : (a : List ℕ) (p n : ℕ) → p + n ≤ length a → Bytes (run a p n) n (λ (i : ℕ). get_or a (p + i) 0)
bytes_run a p n h = record { long = length_run a p n h; at = at_run a p n }

-- a run of a run
pub run_run : (a : List ℕ) (p n q m : ℕ) → q + m ≤ n → p + n ≤ length a → run (run a p n) q m ≡ run a (p + q) m
run_run a p n q m h k =
    same_bytes (bytes_run (run a p n) q m (rw (length_run a p n k) h)) (bytes_run a (p + q) m (omega arith))
    (λ (i : ℕ) (l : i < m). at_run a p n (q + i) (omega arith) ∙ ap (λ (j : ℕ). get_or a j 0) (sym (add_assoc p q i)))

-- XOR run by run
pub run_xors : (x y : List ℕ) (p n : ℕ) → p + n ≤ length x → xors (run x p n) (run y p n) ≡ run (xors x y) p n
run_xors x y p n h =
    same_bytes (bytes_xors (bytes_run x p n h) (run y p n)) (bytes_run (xors x y) p n (rw (length_xors x y) h))
    (λ (i : ℕ) (l : i < n). ap (bit_xor (get_or x (p + i) 0)) (at_run y p n i l) ∙ sym (at_xors x y (p + i) (omega arith)))

-- ---- what is laid at a position
pub laid_before : (p : ℕ) (e : List ℕ) (i : ℕ) → i < p → laid p e i ≡ 0
unfolding laid
laid_before zero e i h = absurd (omega arith)
laid_before (suc p) e zero h = refl
laid_before (suc p) e (suc i) h = laid_before p e i (omega arith)

pub laid_from : (p : ℕ) (e : List ℕ) (j : ℕ) → laid p e (p + j) ≡ get_or e j 0
unfolding laid
laid_from zero e j = ap (λ (k : ℕ). get_or e k 0) (zero-add j)
laid_from (suc p) e j = ap (λ (k : ℕ). get_or (0 ∷ replicate p 0 ++ e) k 0) (suc-add p j) ∙ laid_from p e j

pub laid_after : (p : ℕ) (e : List ℕ) (i : ℕ) → p + length e ≤ i → laid p e i ≡ 0
laid_after p e i h =
    let k : i ≡ p + (i - p) = omega arith in
    ap (laid p e) k ∙ laid_from p e (i - p) ∙ get_or-eq_default e 0 (omega arith)

pub laid_nil : (p i : ℕ) → laid p [] i ≡ 0
unfolding laid
laid_nil zero i = refl
laid_nil (suc p) zero = refl
laid_nil (suc p) (suc i) = laid_nil p i

pub laid_out : (p : ℕ) (e : List ℕ) (i : ℕ) → (i < p) ⊎ (p + length e ≤ i) → laid p e i ≡ 0
laid_out p e i = ⊎_elim (laid_before p e i) (laid_after p e i)

-- laid past p, seen from p
pub laid_shift : (p o : ℕ) (e : List ℕ) (i : ℕ) → laid (p + o) e (p + i) ≡ laid o e i
unfolding laid
laid_shift zero o e i = ap₂ (λ (x y : ℕ). laid x e y) (zero-add o) (zero-add i)
laid_shift (suc p) o e i = ap₂ (λ (x y : ℕ). laid x e y) (suc-add p o) (suc-add p i) ∙ laid_shift p o e i

laid_tail : (e f : List ℕ) (i : ℕ) → get_or (e ++ f) i 0 ≡ bit_xor (get_or e i 0) (laid (length e) f i)
unfolding laid
laid_tail [] f i = refl
laid_tail (x ∷ e) f zero = sym (xor_zero_r x)
laid_tail (x ∷ e) f (suc i) = laid_tail e f i

-- two parts one behind the other
pub laid_append : (p : ℕ) (e f : List ℕ) (i : ℕ) → laid p (e ++ f) i ≡ bit_xor (laid p e i) (laid (p + length e) f i)
unfolding laid
laid_append zero e f i = laid_tail e f i ∙ ap (λ (x : ℕ). bit_xor (get_or e i 0) (laid x f i)) (sym (zero-add (length e)))
laid_append (suc p) e f zero = ap (λ (x : ℕ). laid x f 0) (sym (suc-add p (length e)))
laid_append (suc p) e f (suc i) =
    laid_append p e f i ∙ ap (λ (x : ℕ). bit_xor (laid p e i) (laid x f (suc i))) (sym (suc-add p (length e)))

-- what is zero everywhere stays so
pub laid_zero : (p : ℕ) (e : List ℕ) → ((i : ℕ) → get_or e i 0 ≡ 0) → (i : ℕ) → laid p e i ≡ 0
unfolding laid
laid_zero zero e z i = z i
laid_zero (suc p) e z zero = refl
laid_zero (suc p) e z (suc i) = laid_zero p e z i

-- ---- adding at a position
pub length_add_at : (a : List ℕ) (p : ℕ) (e : List ℕ) → length (add_at a p e) ≡ length a
unfolding add_at
length_add_at a p e =
    length-append (take p a) (xors (drop p a) e)
    ∙ rw (length_xors (drop p a) e) (sym (length-append (take p a) (drop p a)) ∙ ap length (take-append-drop p a))

pub at_add_at :
    (a : List ℕ) (p : ℕ) (e : List ℕ) (i : ℕ) → i < length a → get_or (add_at a p e) i 0 ≡ bit_xor (get_or a i 0) (laid p e i)
unfolding add_at laid
at_add_at a zero e i h = at_xors a e i h
at_add_at [] (suc p) e i h = absurd (omega arith)
at_add_at (x ∷ a) (suc p) e zero h = sym (xor_zero_r x)
at_add_at (x ∷ a) (suc p) e (suc i) h = at_add_at a p e i (omega arith)

pub bytes_add_at :
    {a : List ℕ} {n : ℕ} {f : ℕ → ℕ} → Bytes a n f → (p : ℕ) (e : List ℕ)
    → Bytes (add_at a p e) n (λ (i : ℕ). bit_xor (f i) (laid p e i))
bytes_add_at {a} {n} {f} b p e = record {
  long = length_add_at a p e ∙ b.long;
  at = λ (i : ℕ) (l : i < n). at_add_at a p e i (omega (arith, b.long)) ∙ ap (λ (x : ℕ). bit_xor x (laid p e i)) (b.at i l);
}

-- inside e's run the XOR
pub add_at_in :
    (a : List ℕ) (p : ℕ) (e : List ℕ) (j : ℕ) → p + j < length a
    → get_or (add_at a p e) (p + j) 0 ≡ bit_xor (get_or a (p + j) 0) (get_or e j 0)
add_at_in a p e j h = at_add_at a p e (p + j) h ∙ rw (laid_from p e j)

-- and elsewhere what was there
pub add_at_out : (a : List ℕ) (p : ℕ) (e : List ℕ) (i : ℕ) → (i < p) ⊎ (p + length e ≤ i) → get_or (add_at a p e) i 0 ≡ get_or a i 0
add_at_out a p e i h = go (dec_lt i (length a))
  where
    go : Dec (i < length a) → get_or (add_at a p e) i 0 ≡ get_or a i 0
    go (yes l) = at_add_at a p e i l ∙ rw (laid_out p e i h) (xor_zero_r (get_or a i 0))
    go (no n) =
        get_or-eq_default (add_at a p e) 0 (rw (length_add_at a p e) (omega arith))
        ∙ sym (get_or-eq_default a 0 (omega arith))

pub add_at_nil : (a : List ℕ) (p : ℕ) → add_at a p [] ≡ a
add_at_nil a p = same_bytes (bytes_add_at (bytes_of a) p []) (bytes_of a) (λ i l. rw (laid_nil p i) (xor_zero_r (get_or a i 0)))

pub add_at_zero : (a : List ℕ) (p : ℕ) (e : List ℕ) → ((i : ℕ) → get_or e i 0 ≡ 0) → add_at a p e ≡ a
add_at_zero a p e z =
    same_bytes (bytes_add_at (bytes_of a) p e) (bytes_of a) (λ i l. rw (laid_zero p e z i) (xor_zero_r (get_or a i 0)))

pub add_at_append : (a : List ℕ) (p : ℕ) (e f : List ℕ) → add_at a p (e ++ f) ≡ add_at (add_at a p e) (p + length e) f
add_at_append a p e f =
    same_bytes (bytes_add_at (bytes_of a) p (e ++ f)) (bytes_add_at (bytes_add_at (bytes_of a) p e) (p + length e) f)
    (λ i l. rw (laid_append p e f i) (sym (xor_assoc (get_or a i 0) (laid p e i) (laid (p + length e) f i))))

pub add_at_comm : (a : List ℕ) (p : ℕ) (e : List ℕ) (q : ℕ) (f : List ℕ) → add_at (add_at a p e) q f ≡ add_at (add_at a q f) p e
add_at_comm a p e q f =
    same_bytes (bytes_add_at (bytes_add_at (bytes_of a) p e) q f) (bytes_add_at (bytes_add_at (bytes_of a) q f) p e)
    (λ i l. xor_swap (get_or a i 0) (laid p e i) (laid q f i))

-- the run to which e was added
pub run_add_at :
    (a : List ℕ) (p : ℕ) (e : List ℕ) → p + length e ≤ length a → run (add_at a p e) p (length e) ≡ xors (run a p (length e)) e
run_add_at a p e h =
    same_bytes (bytes_run (add_at a p e) p (length e) (rw (length_add_at a p e) h)) (bytes_xors (bytes_run a p (length e) h) e)
    (λ (i : ℕ) (l : i < length e). add_at_in a p e i (omega arith))

pub apart_sym : {p m q n : ℕ} → Apart p m q n → Apart q n p m
apart_sym h = record { apart = ⊎_elim inr inl h.apart }

-- a run apart from it
pub run_apart : (a : List ℕ) (p : ℕ) (e : List ℕ) (q n : ℕ) → Apart p (length e) q n → run (add_at a p e) q n ≡ run a q n
run_apart a p e q n h =
    same_bytes (rw (length_add_at a p e) at (bytes_run_any (add_at a p e) q n)) (bytes_run_any a q n)
    (λ (i : ℕ) (l : i < min n (length a - q)).
    add_at_out a p e (q + i) (⊎_elim (λ (k : p + length e ≤ q). inr (omega arith)) (λ (k : q + n ≤ p). inl (omega arith)) h.apart))

-- a part lent from p on comes back with e added to it
xors_front : (x e : List ℕ) (k : ℕ) → length e ≤ k → xors (take k x) e ++ drop k x ≡ xors x e
unfolding xors
xors_front [] e zero h = refl
xors_front [] e (suc k) h = refl
xors_front (a ∷ x) [] zero h = refl
xors_front (a ∷ x) [] (suc k) h = ap (λ (l : List ℕ). a ∷ l) (take-append-drop k x)
xors_front (a ∷ x) (b ∷ e) zero h = absurd (omega arith)
xors_front (a ∷ x) (b ∷ e) (suc k) h = ap (λ (l : List ℕ). bit_xor a b ∷ l) (xors_front x e k (omega arith))

pub put_xors :
    (a : List ℕ) (p : ℕ) (e y : List ℕ) → y ≡ xors (mid_of p (p + length e - p) a) e
    → put_mid p (p + length e - p) a y ≡ add_at a p e
unfolding add_at
put_xors a p e y g =
    ap (λ (l : List ℕ). take p a ++ (l ++ drop (p + length e - p) (drop p a))) g
    ∙ ap (λ (l : List ℕ). take p a ++ l) (xors_front (drop p a) e (p + length e - p) (omega arith))

-- ---- adding at several positions
pub length_add_all : (a ps e : List ℕ) → length (add_all a ps e) ≡ length a
unfolding add_all
length_add_all a [] e = refl
length_add_all a (p ∷ ps) e = length_add_all (add_at a p e) ps e ∙ length_add_at a p e

-- the order does not matter
pub add_all_add_at : (a ps e : List ℕ) (q : ℕ) (f : List ℕ) → add_all (add_at a q f) ps e ≡ add_at (add_all a ps e) q f
unfolding add_all
add_all_add_at a [] e q f = refl
add_all_add_at a (p ∷ ps) e q f = ap (λ (x : List ℕ). add_all x ps e) (add_at_comm a q f p e) ∙ add_all_add_at (add_at a p e) ps e q f

-- nothing is added at no position, and behind the others at one more
pub add_all_none : (a e : List ℕ) → add_all a [] e ≡ a
unfolding add_all
add_all_none a e = refl

add_all_last : (a ps : List ℕ) (q : ℕ) (e : List ℕ) → add_all a (ps ++ (q ∷ [])) e ≡ add_at (add_all a ps e) q e
unfolding add_all
add_all_last a [] q e = refl
add_all_last a (p ∷ ps) q e = add_all_last (add_at a p e) ps q e

pub add_all_zero : (a ps e : List ℕ) → ((i : ℕ) → get_or e i 0 ≡ 0) → add_all a ps e ≡ a
unfolding add_all
add_all_zero a [] e z = refl
add_all_zero a (p ∷ ps) e z = ap (λ (x : List ℕ). add_all x ps e) (add_at_zero a p e z) ∙ add_all_zero a ps e z

pub add_all_nil : (a ps : List ℕ) → add_all a ps [] ≡ a
add_all_nil a ps = add_all_zero a ps [] (λ i. refl)

-- positions n further on
abbrev pub further : ℕ → List ℕ → List ℕ
further n ps = map (λ (p : ℕ). p + n) ps

-- a loop over positions, i further on: the t-th is next
pub add_all_more :
    (a₀ ps e : List ℕ) (i t : ℕ) → t < length ps → {a b : List ℕ} → a ≡ add_all a₀ (further i (take t ps)) e
    → b ≡ add_at a (get_or ps t 0 + i) e → b ≡ add_all a₀ (further i (take (t + 1) ps)) e
add_all_more a₀ ps e i t h is next =
    let f : further i (take (t + 1) ps) ≡ further i (take t ps) ++ ((get_or ps t 0 + i) ∷ []) =
    ap (further i) (take_more ps t 0 h) ∙ map-append (λ (p : ℕ). p + i) (take t ps) (get_or ps t 0 ∷ []) in
    next ∙ ap (λ (x : List ℕ). add_at x (get_or ps t 0 + i) e) is
    ∙ sym (ap (λ (l : List ℕ). add_all a₀ l e) f ∙ add_all_last a₀ (further i (take t ps)) (get_or ps t 0 + i) e)

-- two parts one behind the other
pub add_all_append : (a ps e f : List ℕ) → add_all a ps (e ++ f) ≡ add_all (add_all a ps e) (further (length e) ps) f
unfolding add_all
add_all_append a [] e f = refl
add_all_append a (p ∷ ps) e f =
    ap (λ (x : List ℕ). add_all x ps (e ++ f)) (add_at_append a p e f)
    ∙ add_all_append (add_at (add_at a p e) (p + length e) f) ps e f
    ∙ ap (λ (x : List ℕ). add_all x (further (length e) ps) f) (add_all_add_at (add_at a p e) ps e (p + length e) f)

-- a run apart from all of them
pub run_all_apart :
    (a ps e : List ℕ) (q n : ℕ) → ((t : ℕ) → t < length ps → Apart (get_or ps t 0) (length e) q n)
    → run (add_all a ps e) q n ≡ run a q n
unfolding add_all
run_all_apart a [] e q n h = refl
run_all_apart a (p ∷ ps) e q n h =
    run_all_apart (add_at a p e) ps e q n (λ (t : ℕ) (l : t < length ps). h (suc t) (omega arith))
    ∙ run_apart a p e q n (h 0 (omega arith))
