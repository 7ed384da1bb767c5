-- Laws of `Number`. No contract cites this file.
-- Assumes nothing.
use Rattle.std.specs.Prelude.{◌≡◌, refl, Bool, true, false, cond, ℕ, zero, suc, ◌+◌, ◌*◌, ◌/◌, ◌%◌, ◌^◌, ◌≤◌, ◌<◌, List, [], ◌∷◌, ◌++◌, ltb, leb, eqb, length, take, drop, get_or, Ok, Err}
use Rattle.std.proofs.Common.{ap, ◌∙◌, pow-suc, add-zero, zero-add, le_refl, add-one, arith, append_assoc, append-nil, length-append, length-take, length-drop, get_or-drop, drop-cons, take_at, drop_at, lt-ltb, le-ltb, le-leb, ne_eqb, ltb-true, leb-true}
use Rattle.std.proofs.Math.Decide.{dec_lt}
use Rattle.std.proofs.Math.ListN.{get_or-append}
use Rattle.std.proofs.lemmas.List.{get_or_at}
use Rattle.text.specs.PartLaws.{and_left, and_right}
use Rattle.text.specs.Number.{Numeral, numeral_of, digits_at, digits_from, is_digit, with_digit, width, width_by, digits, decimal, big_endian, low_bytes, big_from, big_at, Bytes}
use Rattle.text.specs.declared.NumberFault.TheVariants.{NotADigit, TooLarge}

-- what holds of the numbers below ten, and of n where it holds of n / 10, holds of each number
module _ (P : ℕ → Type 0) (small : (n : ℕ) → n < 10 → P n) (more : (n : ℕ) → 10 ≤ n → P (n / 10) → P n) where
  tens_either : (n : ℕ) → (10 ≤ n → P (n / 10)) → Dec (n < 10) → P n
  tens_either n h (yes k) = small n k
  tens_either n h (no k) = more n (omega arith) (h (omega arith))

  tens-under : (f n : ℕ) → n ≤ f → P n
  tens-under zero n h = small n (omega arith)
  tens-under (suc f) n h = tens_either n (λ k. tens-under f (n / 10) (omega arith)) (dec_lt n 10)

  pub by_tens : (n : ℕ) → P n
  by_tens n = tens-under n n (le_refl n)

-- the width of n is the same with any fuel that is at least n
same_width : (f g n : ℕ) → n ≤ f → n ≤ g → width_by f n ≡ width_by g n
unfolding width_by
same_width zero zero n h k = refl
same_width zero (suc g) n h k = rw (lt-ltb n 10 (omega arith))
same_width (suc f) zero n h k = rw (lt-ltb n 10 (omega arith))
same_width (suc f) (suc g) n h k = rw (same_width f g (n / 10) (omega arith) (omega arith))

pub width_small : (n : ℕ) → n < 10 → width n ≡ 1
unfolding width width_by
width_small zero h = refl
width_small (suc n) h = rw (lt-ltb (suc n) 10 h)

pub width-more : (n : ℕ) → 10 ≤ n → width n ≡ suc (width (n / 10))
unfolding width width_by
width-more zero h = absurd (omega arith)
width-more (suc n) h = rw (le-ltb (suc n) 10 h) (ap suc (same_width n (suc n / 10) (suc n / 10) (omega arith) (le_refl _)))

pub width_pos : (n : ℕ) → 1 ≤ width n
width_pos = by_tens (λ n. 1 ≤ width n) (λ n h. omega (arith, width_small n h)) (λ n h k. omega (arith, width-more n h))

-- n has no more than `width n` digits
pub below_pow : (n : ℕ) → n < 10 ^ width n
below_pow =
    by_tens (λ n. n < 10 ^ width n)
    (λ n h. rw (width_small n h) h)
    (λ n h k. rw (width-more n h, pow-suc) (omega arith))

-- and no more than it needs
width_either : (w n : ℕ) → (10 ≤ n → width (n / 10) ≤ w) → Dec (n < 10) → width n ≤ suc w
width_either w n h (yes k) = omega (arith, width_small n k)
width_either w n h (no k) = let m : 10 ≤ n = omega arith in omega (arith, width-more n m, h m)

pub width-within : (w n : ℕ) → n < 10 ^ suc w → width n ≤ suc w
width-within zero n h = omega (arith, width_small n h)
width-within (suc w) n h = width_either (suc w) n (λ m. width-within w (n / 10) (omega (arith, pow-suc 10 (suc w)))) (dec_lt n 10)

-- a u64 has at most twenty digits
pub width_u64 : (n : ℕ) → n < 2 ^ 64 → width n ≤ 20
width_u64 n h = width-within 19 n (omega arith)

pub length_digits : (w n : ℕ) → length (digits w n) ≡ w
unfolding digits
length_digits zero n = refl
length_digits (suc w) n = rw length-append (omega (arith, length_digits w (n / 10)))

pub length-decimal : (n : ℕ) → length (decimal n) ≡ width n
unfolding decimal
length-decimal n = length_digits (width n) n

pub length-decimal-some : (n : ℕ) → 1 ≤ length (decimal n)
length-decimal-some n = omega (arith, length-decimal n, width_pos n)

pub length-decimal_u64 : (n : ℕ) → n < 2 ^ 64 → length (decimal n) ≤ 20
length-decimal_u64 n h = omega (arith, length-decimal n, width_u64 n h)

-- the text of a number below ten is one byte, and that of another is the text of its tenth and one byte more
pub decimal_small : (n : ℕ) → n < 10 → decimal n ≡ (48 + n) ∷ []
unfolding decimal digits
decimal_small n h = let e : n % 10 ≡ n = omega arith in rw (width_small n h, e)

pub decimal-more : (n : ℕ) → 10 ≤ n → decimal n ≡ decimal (n / 10) ++ (48 + n % 10) ∷ []
unfolding decimal digits
decimal-more n h = rw (width-more n h)

-- a byte that is a digit
abbrev pub Digit : ℕ → Type 0
Digit b = (48 ≤ b) × (b ≤ 57)

-- each byte of the text is a digit
digit_either : (w n k : ℕ) → (k < w → Digit (get_or (digits w (n / 10)) k 0)) → k < suc w → Dec (k < w) → Digit (get_or (digits (suc w) n) k 0)
unfolding digits
digit_either w n k h m (yes l) = let e : k < length (digits w (n / 10)) = omega (arith, length_digits w (n / 10)) in rw (get_or-append (digits w (n / 10)) ((48 + n % 10) ∷ []) 0 k e) (h l)
digit_either w n k h m (no l) = rw (get_or_at (digits w (n / 10)) (48 + n % 10) [] 0 k (omega (arith, length_digits w (n / 10)))) (omega arith)

digits-each : (w n k : ℕ) → k < w → Digit (get_or (digits w n) k 0)
digits-each zero n k h = absurd (omega arith)
digits-each (suc w) n k h = digit_either w n k (λ l. digits-each w (n / 10) k l) h (dec_lt k w)

pub decimal-each : (n k : ℕ) → k < length (decimal n) → Digit (get_or (decimal n) k 0)
unfolding decimal
decimal-each n k h = digits-each (width n) n k (omega (arith, length-decimal n))

-- the first byte is `0` for 0 alone
pub decimal-first : (n : ℕ) → 0 < n → 48 < get_or (decimal n) 0 0
decimal-first =
    by_tens (λ n. 0 < n → 48 < get_or (decimal n) 0 0)
    (λ n h p. rw (decimal_small n h) (omega arith))
    (λ n h k p. rw (decimal-more n h, get_or-append (decimal (n / 10)) ((48 + n % 10) ∷ []) 0 0 (omega (arith, length-decimal (n / 10), width_pos (n / 10)))) (k (omega arith)))

-- the last w digits of n, which are all of them, read as n
digits-read : (w n i : ℕ) (rest : List ℕ) → n < 10 ^ w → n < 2 ^ 64 → digits_from 0 i (digits w n ++ rest) ≡ digits_from n (i + w) rest
unfolding digits digits_from
digits-read zero n i rest h u = let e : n ≡ 0 = omega arith in rw (e, add-zero)
digits-read (suc w) n i rest h u =
    let e : with_digit (n / 10) (48 + n % 10) ≡ n = omega arith in
    let p : i + w + 1 ≡ i + suc w = omega arith in
    rw append_assoc
    (digits-read w (n / 10) i ((48 + n % 10) ∷ rest) (omega (arith, pow-suc 10 w)) (omega arith)
    ∙ rw (le-leb 48 (48 + n % 10) (omega arith), le-leb (48 + n % 10) 57 (omega arith), lt-ltb (with_digit (n / 10) (48 + n % 10)) (2 ^ 64) (omega arith), e, p))

-- a text that starts with a digit has no sign
unsigned : (s : List ℕ) → 0 < length s → 48 ≤ get_or s 0 0 → numeral_of s ≡ digits_from 0 0 s
unfolding numeral_of digits_at
unsigned [] h d = absurd (omega arith)
unsigned (b ∷ s) h d = rw (ne_eqb b 43 (λ e. omega arith))

-- what is written reads as the number
pub read-decimal : (n : ℕ) → n < 2 ^ 64 → numeral_of (decimal n) ≡ Ok n
unfolding decimal digits_from
read-decimal n h =
    let p : 0 < length (decimal n) = omega (arith, length-decimal n, width_pos n) in
    unsigned (decimal n) p (decimal-each n 0 p).0 ∙ rw (← append-nil (decimal n)) (digits-read (width n) n 0 [] (below_pow n) h)

-- a number that is read fits a u64
cond-is : (t : Bool) (a b : Numeral) (n : ℕ) → cond t a b ≡ Ok n → (b ≡ Ok n → ⊥) → (t ≡ true) × (a ≡ Ok n)
cond-is true a b n h x = (refl, h)
cond-is false a b n h x = absurd (x h)

large-is-none : (i n : ℕ) → Err (TooLarge i) ≡ Ok n → ⊥
large-is-none i n x = let z : ◌≡◌ {A = ℕ} 0 1 = cc in omega arith

letter-is-none : (i n : ℕ) → Err (NotADigit i) ≡ Ok n → ⊥
letter-is-none i n x = let z : ◌≡◌ {A = ℕ} 0 1 = cc in omega arith

digits_from-fits : (s : List ℕ) (v i n : ℕ) → v < 2 ^ 64 → digits_from v i s ≡ Ok n → n < 2 ^ 64
unfolding digits_from
digits_from-fits [] v i n u h = let e : v ≡ n = cc in omega arith
digits_from-fits (b ∷ s) v i n u h =
    let digit = cond-is (is_digit b) _ _ n h (letter-is-none i n) in
    let small = cond-is (ltb (with_digit v b) (2 ^ 64)) _ _ n digit.1 (large-is-none i n) in
    digits_from-fits s (with_digit v b) (i + 1) n (ltb-true _ _ small.0) small.1

digits_at-fits : (s : List ℕ) (i n : ℕ) → digits_at i s ≡ Ok n → n < 2 ^ 64
unfolding digits_at
digits_at-fits [] i n h = let z : ◌≡◌ {A = ℕ} 0 1 = cc in omega arith
digits_at-fits (b ∷ s) i n h = digits_from-fits (b ∷ s) 0 i n (omega arith) h

either-fits : (t : Bool) (a b : Numeral) (n : ℕ) → (a ≡ Ok n → n < 2 ^ 64) → (b ≡ Ok n → n < 2 ^ 64) → cond t a b ≡ Ok n → n < 2 ^ 64
either-fits true a b n f g h = f h
either-fits false a b n f g h = g h

pub numeral-fits : (s : List ℕ) (n : ℕ) → numeral_of s ≡ Ok n → n < 2 ^ 64
unfolding numeral_of
numeral-fits [] n h = let z : ◌≡◌ {A = ℕ} 0 1 = cc in omega arith
numeral-fits (b ∷ s) n h = either-fits (eqb b 43) _ _ n (digits_at-fits s 1 n) (digits_at-fits (b ∷ s) 0 n) h

-- ---- what is written of a number is no longer than a text that reads as it
-- d is no longer than c, and it is c where it is as long
abbrev pub NoLonger : List ℕ → List ℕ → Type 0
NoLonger d c = (length d ≤ length c) × (length d ≡ length c → d ≡ c)

-- k digits with the value v, and the digits s after them, are the digits of what they read as
digits-back : (k v i : ℕ) (s : List ℕ) (n : ℕ) → v < 10 ^ k → digits_from v i s ≡ Ok n → (n < 10 ^ (k + length s)) × (digits (k + length s) n ≡ digits k v ++ s)
unfolding digits digits_from
digits-back k v i [] n u h = let e : v ≡ n = cc in (rw (add-zero, ← e) u, rw (add-zero, append-nil, e))
digits-back k v i (b ∷ s) n u h =
    let digit = cond-is (is_digit b) _ _ n h (letter-is-none i n) in
    let small = cond-is (ltb (with_digit v b) (2 ^ 64)) _ _ n digit.1 (large-is-none i n) in
    let low : 48 ≤ b = leb-true 48 b (and_left (leb 48 b) (leb b 57) digit.0) in
    let high : b ≤ 57 = leb-true b 57 (and_right (leb 48 b) (leb b 57) digit.0) in
    let back = digits-back (suc k) (with_digit v b) (i + 1) s n (omega (arith, pow-suc 10 k)) small.1 in
    let more : suc k + length s ≡ k + suc (length s) = omega arith in
    let tens : with_digit v b / 10 ≡ v = omega arith in
    let ones : 48 + with_digit v b % 10 ≡ b = omega arith in
    (rw more at back.0, rw (more, tens, ones, append_assoc) at back.1)

digits_at-no-longer : (i : ℕ) (s : List ℕ) (n : ℕ) → digits_at i s ≡ Ok n → NoLonger (decimal n) s
unfolding digits_at decimal digits
digits_at-no-longer i [] n h = let z : ◌≡◌ {A = ℕ} 0 1 = cc in absurd (omega arith)
digits_at-no-longer i (b ∷ s) n h =
    let back = digits-back 0 0 i (b ∷ s) n (omega arith) h in
    let w : width n ≤ suc (length s) = width-within (length s) n (rw zero-add at back.0) in
    (omega (arith, length-decimal n), λ e. let f : width n ≡ suc (length s) = omega (arith, length-decimal n) in rw f (rw zero-add at back.1))

-- a sign makes the text longer
pub decimal-no-longer : (c : List ℕ) (n : ℕ) → numeral_of c ≡ Ok n → NoLonger (decimal n) c
unfolding numeral_of
decimal-no-longer [] n h = let z : ◌≡◌ {A = ℕ} 0 1 = cc in absurd (omega arith)
decimal-no-longer (b ∷ s) n h = go (eqb b 43) h
  where
    go : (v : Bool) → cond v (digits_at 1 s) (digits_at 0 (b ∷ s)) ≡ Ok n → NoLonger (decimal n) (b ∷ s)
    go true k = let l = (digits_at-no-longer 1 s n k).0 in (omega arith, λ e. absurd (omega arith))
    go false k = digits_at-no-longer 0 (b ∷ s) n k

-- ---- the bytes of a number
pub length_big : (n v : ℕ) → length (big_endian n v) ≡ n
unfolding big_endian
length_big zero v = refl
length_big (suc n) v = rw length-append (omega (arith, length_big n (v / 256)))

pub length-low : (n v : ℕ) → length (low_bytes n v) ≡ n
unfolding low_bytes
length-low zero v = refl
length-low (suc n) v = rw (length-low n (v / 256))

-- ---- and read back: the bytes of a number are that number
big-append : (v : ℕ) (xs ys : List ℕ) → big_from v (xs ++ ys) ≡ big_from (big_from v xs) ys
unfolding big_from
big-append v [] ys = refl
big-append v (x ∷ xs) ys = big-append (v * 256 + x) xs ys

pub big-back : (n v : ℕ) → v < 256 ^ n → big_from 0 (big_endian n v) ≡ v
unfolding big_from big_endian
big-back zero v h = let z : 256 ^ 0 ≡ 1 = refl in omega (arith, h, z)
big-back (suc n) v h =
    big-append 0 (big_endian n (v / 256)) (v % 256 ∷ [])
    ∙ ap (λ (m : ℕ). m * 256 + v % 256) (big-back n (v / 256) (omega (arith, h, pow-suc 256 n)))
    ∙ omega arith

-- the same of a number of n bytes that stands behind others
pub big-at : (pre post : List ℕ) (at n v : ℕ) (bs : List ℕ) → bs ≡ pre ++ (big_endian n v ++ post) → length pre ≡ at → v < 256 ^ n → big_at at n bs ≡ v
big-at pre post at n v bs e l h =
    ap (λ (x : List ℕ). big_from 0 (take n (drop at x))) e
    ∙ ap (λ (x : List ℕ). big_from 0 (take n x)) (drop_at pre (big_endian n v ++ post) at l)
    ∙ ap (big_from 0) (take_at (big_endian n v) post n (length_big n v))
    ∙ big-back n v h

-- the number that bytes are has these bytes
big-after : (k v : ℕ) (s : List ℕ) → Bytes s → big_endian (k + length s) (big_from v s) ≡ big_endian k v ++ s
unfolding big_from big_endian
big-after k v [] h = rw (add-zero, append-nil)
big-after k v (b ∷ s) h =
    let byte : b < 256 = h 0 in
    let low : (v * 256 + b) % 256 ≡ b = omega arith in
    let high : (v * 256 + b) / 256 ≡ v = omega arith in
    let more : suc k + length s ≡ k + suc (length s) = omega arith in
    rw (more, low, high, append_assoc) at (big-after (suc k) (v * 256 + b) s (λ i. h (suc i)))

pub big_forth : (s : List ℕ) → Bytes s → big_endian (length s) (big_from 0 s) ≡ s
unfolding big_endian
big_forth s h = rw zero-add at (big-after 0 0 s h)

-- and fits them
big-fits : (k v : ℕ) (s : List ℕ) → Bytes s → v < 256 ^ k → big_from v s < 256 ^ (k + length s)
unfolding big_from
big-fits k v [] h l = rw add-zero l
big-fits k v (b ∷ s) h l =
    let byte : b < 256 = h 0 in
    let more : suc k + length s ≡ k + suc (length s) = omega arith in
    rw more at (big-fits (suc k) (v * 256 + b) s (λ i. h (suc i)) (rw pow-suc (omega arith)))

pub big-below : (s : List ℕ) → Bytes s → big_from 0 s < 256 ^ length s
big-below s h = rw zero-add at (big-fits 0 0 s h (omega arith))

-- both of n bytes that stand in a text
pub bytes_take : (n : ℕ) (s : List ℕ) → Bytes s → Bytes (take n s)
bytes_take zero s h i = omega arith
bytes_take (suc n) [] h i = omega arith
bytes_take (suc n) (x ∷ s) h zero = h 0
bytes_take (suc n) (x ∷ s) h (suc i) = bytes_take n s (λ j. h (suc j)) i

pub bytes_drop : (n : ℕ) (s : List ℕ) → Bytes s → Bytes (drop n s)
bytes_drop n s h i = rw get_or-drop (h (n + i))

module _ (at n : ℕ) (s : List ℕ) (b : Bytes s) (h : at + n ≤ length s) where
  there : length (take n (drop at s)) ≡ n
  there = simp (length-take, length-drop) (omega arith)

  pub big-there : big_endian n (big_at at n s) ≡ take n (drop at s)
  big-there = rw there at (big_forth (take n (drop at s)) (bytes_take n (drop at s) (bytes_drop at s b)))

  pub big-within : big_at at n s < 256 ^ n
  big-within = rw there at (big-below (take n (drop at s)) (bytes_take n (drop at s) (bytes_drop at s b)))

-- one turn of a loop that reads n bytes from place p on
pub big-none : (v n p : ℕ) (s : List ℕ) → n ≡ 0 → big_from v (take n (drop p s)) ≡ v
unfolding big_from
big-none v n p s e = rw e

pub big-more : (v n m p : ℕ) (s : List ℕ) → n ≡ suc m → p < length s → big_from v (take n (drop p s)) ≡ big_from (v * 256 + get_or s p 0) (take m (drop (p + 1) s))
unfolding big_from
big-more v n m p s e h = rw (e, drop-cons s p 0 h, add-one)
