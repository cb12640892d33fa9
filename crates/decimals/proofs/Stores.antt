-- Text at the front of lent bytes: what each function here leaves, and how one text follows another. Assumes nothing.
use Prim.Native.Nat.{ℕ, ◌+◌, ◌-◌, ◌/◌, ◌%◌, ◌<◌, ◌≤◌}
use mathlib.Core.Path.{◌≡◌, refl, ◌∙◌}
use mathlib.Core.List.{List, [], ◌∷◌, ◌++◌, append_assoc, append-nil}
use native.Mathlib.Numerals.{add-one}
use native.Mathlib.Omega.{arith}
use lib.ListN.{length, set, take, drop, length-append, length-drop, drop_of_length-le}
use lib.Seq.{take_all, drop-cons, drop-drop, set-append_seam, take-append_seam, drop-append_seam}
use borrow.Rule.Slice.PartMut.{mid_of, put_mid}
use Rattle.decimals.specs.Decimal.{digit, decimal_of, followed, space, line_end, line_of}
use Rattle.decimals.proofs.Laws.{one_digit, more_digits}

-- xs stands at the front of e, up to `end`, and what comes after it is as in d
abbrev pub Put : (d xs : List ℕ) (end : ℕ) (e : List ℕ) → Type 0
Put d xs end e = (end ≡ length xs) × (e ≡ xs ++ drop end d)

put_one : (d : List ℕ) (x : ℕ) → 0 < length d → Put d (x ∷ []) 1 (set d 0 x)
put_one [] x h = absurd (omega arith)
put_one (y ∷ d) x h = (refl, refl)

-- a byte after a text
put_then :
    (d xs : List ℕ) (p : ℕ) (e : List ℕ) (y : ℕ) → Put d xs p e → p < length d → Put d (xs ++ (y ∷ [])) (p + 1) (set e p y)
put_then d xs p e y h l =
    (rw (h.0, length-append) refl, rw (h.1, h.0, drop-cons d (length xs) 0 (omega arith), set-append_seam, append_assoc, add-one))

-- what is lent on is what comes after the text
part_is : (d xs : List ℕ) (p : ℕ) (e : List ℕ) → Put d xs p e → mid_of p (length e - p) e ≡ drop p d
part_is d xs p e h =
    take_all (length e - p) (drop p e) (rw length-drop (omega arith)) ∙ rw (h.1, h.0, drop-append_seam)

-- and there is room in it
pub room_left :
    (d xs : List ℕ) (p : ℕ) (e : List ℕ) (n : ℕ) → Put d xs p e → length xs + n ≤ length d → n ≤ length (mid_of p (length e - p) e)
room_left d xs p e n h l = rw (part_is d xs p e h, length-drop) (omega (arith, h.0))

-- a text after a text
pub put_append :
    (d xs : List ℕ) (p : ℕ) (e ys : List ℕ) (q : ℕ) (f : List ℕ) →
    Put d xs p e → Put (mid_of p (length e - p) e) ys q f → Put d (xs ++ ys) (p + q) (put_mid p (length e - p) e f)
put_append d xs p e ys q f h g =
    let front : take p e ≡ xs = rw (h.1, h.0, take-append_seam) in
    let none : drop (length e - p) (drop p e) ≡ [] = drop_of_length-le (drop p e) (rw length-drop (omega arith)) in
    let text : f ≡ ys ++ drop (p + q) d = g.1 ∙ rw (part_is d xs p e h, drop-drop) in
    (rw (h.0, g.0, length-append) refl, rw (front, none, text, append-nil, append_assoc))

-- ---- a decimal, by its digits

pub low_length : (n : ℕ) → n < 10 → length (decimal_of n) ≡ 1
low_length n h = rw (one_digit n h)

pub high_length : (n : ℕ) → 10 ≤ n → length (decimal_of n) ≡ length (decimal_of (n / 10)) + 1
high_length n h = rw (more_digits n h, length-append)

pub put_low : (d : List ℕ) (n : ℕ) → n < 10 → 0 < length d → Put d (decimal_of n) 1 (set d 0 (digit n))
put_low d n h l = rw (one_digit n h) (put_one d (digit n) l)

pub put_high :
    (d : List ℕ) (n p : ℕ) (e : List ℕ) → 10 ≤ n → length (decimal_of n) ≤ length d → Put d (decimal_of (n / 10)) p e →
    Put d (decimal_of n) (p + 1) (set e p (digit (n % 10)))
put_high d n p e h l g =
    rw (more_digits n h) (put_then d (decimal_of (n / 10)) p e (digit (n % 10)) g (omega (arith, g.0, high_length n h)))

-- ---- a number and the byte after it, and a line

pub followed_length : (n by : ℕ) → length (followed n by) ≡ length (decimal_of n) + 1
unfolding followed
followed_length n by = length-append (decimal_of n) (by ∷ [])

pub put_followed :
    (d : List ℕ) (n p : ℕ) (e : List ℕ) (by : ℕ) → length (followed n by) ≤ length d → Put d (decimal_of n) p e →
    Put d (followed n by) (p + 1) (set e p by)
unfolding followed
put_followed d n p e by l h = put_then d (decimal_of n) p e by h (omega (arith, h.0, followed_length n by))

pub line_length :
    (x y z : ℕ) → length (line_of x y z) ≡ length (followed x space) + length (followed y space) + length (followed z line_end)
unfolding line_of
line_length x y z = rw (length-append, length-append)

pub put_three :
    (d : List ℕ) (x y z p q s : ℕ) (e f g : List ℕ) → Put d (followed x space) p e →
    Put (mid_of p (length e - p) e) (followed y space) q f →
    let h = put_mid p (length e - p) e f in
    Put (mid_of (p + q) (length h - (p + q)) h) (followed z line_end) s g →
    Put d (line_of x y z) (p + q + s) (put_mid (p + q) (length h - (p + q)) h g)
unfolding line_of
put_three d x y z p q s e f g a b c =
    let h = put_mid p (length e - p) e f in
    put_append d (followed x space ++ followed y space) (p + q) h (followed z line_end) s g
    (put_append d (followed x space) p e (followed y space) q f a b) c
