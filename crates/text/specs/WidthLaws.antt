-- How many digits a number has, by what it is compared with, and a number cut in two before its last digits.
-- Assumes nothing.
use Rattle.std.specs.Prelude.{◌≡◌, ℕ, zero, suc, ◌+◌, ◌*◌, ◌/◌, ◌%◌, ◌^◌, ◌≤◌, ◌<◌, List, [], ◌∷◌, ◌++◌, length}
use Rattle.std.proofs.Common.{sym, ap, ◌∙◌, add-zero, add-suc, div-one, pow-suc, arith, append_assoc, append-nil, pow-add}
use Rattle.std.proofs.Math.Nat.{div-div-eq-div-mul, pow-succ', pow-le-pow_right}
use Rattle.std.proofs.Math.Decide.{dec_lt}
use Rattle.std.proofs.Math.Arith.{mod-mul}
use Rattle.text.specs.Number.{width, digits, decimal}
use Rattle.text.specs.NumberLaws.{width-more, width-within, below_pow, length_digits, length-decimal}
use Rattle.text.specs.Put.{put}
use Rattle.text.specs.PutLaws.{put_then}

-- a number has more than k digits where it is no less than the least number that does
at_least : (k n : ℕ) → 10 ^ k ≤ n → Dec (k < width n) → k < width n
at_least k n h (yes l) = l
at_least k n h (no l) = absurd (omega (arith, below_pow n, pow-le-pow_right {n = 10} (omega arith) {i = width n} {j = k} (omega arith)))

-- it has k + d + 1, where it is below ten times the least number of so many too
pub width_in : (k d n : ℕ) → 10 ^ k * 10 ^ d ≤ n → n < 10 ^ k * 10 ^ d * 10 → k + suc d ≡ width n
width_in k d n l h =
    let low = at_least (k + d) n (rw (pow-add 10 k d) l) (dec_lt (k + d) (width n)) in
    let high = width-within (k + d) n (rw (pow-suc 10 (k + d), pow-add 10 k d) h) in
    omega arith

-- two digits
pub digits-two : (r : ℕ) → r < 100 → digits 2 r ≡ (48 + r / 10) ∷ (48 + r % 10) ∷ []
unfolding digits
digits-two r h = let e : r / 10 % 10 ≡ r / 10 = omega arith in rw e

pub decimal-two : (n : ℕ) → 10 ≤ n → n < 100 → decimal n ≡ digits 2 n
unfolding decimal
decimal-two n l h = rw (← width_in 1 0 n l h)

-- ---- a number cut before its last k digits
some_tens : (k : ℕ) → 0 < 10 ^ k
some_tens zero = omega arith
some_tens (suc k) = omega (arith, pow-suc 10 k, some_tens k)

-- one digit more than k cut off: what is left of a tenth, and what is cut off of it, with the last digit behind
left-more : (k n : ℕ) → n / 10 ^ suc k ≡ n / 10 / 10 ^ k
left-more k n = ap (λ (x : ℕ). n / x) (pow-succ' 10 k) ∙ sym (div-div-eq-div-mul n 10 (10 ^ k))

off-more : (k n : ℕ) → n % 10 ^ suc k ≡ n / 10 % 10 ^ k * 10 + n % 10
off-more k n = ap (λ (x : ℕ). n % x) (pow-suc 10 k) ∙ mod-mul n {m = 10 ^ k} {c = 10} (some_tens k) (omega arith)

ten-and : (x q r : ℕ) → x ≡ q * 10 + r → r < 10 → (x / 10 ≡ q) × (x % 10 ≡ r)
ten-and x q r e h = (omega arith, omega arith)

pub digits-parts : (k w n : ℕ) → digits (w + k) n ≡ digits w (n / 10 ^ k) ++ digits k (n % 10 ^ k)
unfolding digits
digits-parts zero w n = rw (add-zero, div-one, append-nil)
digits-parts (suc k) w n =
    let last = ten-and (n % 10 ^ suc k) (n / 10 % 10 ^ k) (n % 10) (off-more k n) (omega arith) in
    rw (add-suc, left-more k n, last.0, last.1, digits-parts k w (n / 10), append_assoc)

width-parts : (k n : ℕ) → 10 ^ k ≤ n → width n ≡ width (n / 10 ^ k) + k
width-parts zero n h = rw (div-one, add-zero)
width-parts (suc k) n h =
    let more : 10 ^ k ≤ n / 10 = omega (arith, pow-suc 10 k) in
    rw (left-more k n) (omega (arith, width-more n (omega (arith, some_tens k)), width-parts k (n / 10) more))

pub decimal-parts : (k n : ℕ) → 10 ^ k ≤ n → decimal n ≡ decimal (n / 10 ^ k) ++ digits k (n % 10 ^ k)
unfolding decimal
decimal-parts k n h = rw (width-parts k n h) (digits-parts k (width (n / 10 ^ k)) n)

pub length-parts : (k n : ℕ) → 10 ^ k ≤ n → length (decimal n) ≡ length (decimal (n / 10 ^ k)) + k
length-parts k n h = omega (arith, length-decimal n, length-decimal (n / 10 ^ k), width-parts k n h)

-- the higher part written up to p, and then the last k digits up to e, is all of it written: of j + k digits
pub digits-written :
    (j k : ℕ) (out : List ℕ) (at n : ℕ) (o o' : List ℕ) (p e : ℕ) → at + (j + k) ≤ length out → (p ≡ at + j) × (o ≡ put out at (digits j (n / 10 ^ k))) → (e ≡ p + k) × (o' ≡ put o p (digits k (n % 10 ^ k))) → (e ≡ at + (j + k)) × (o' ≡ put out at (digits (j + k) n))
digits-written j k out at n o o' p e room x y =
    let l = length_digits j (n / 10 ^ k) in
    (omega (arith, x.0, y.0), rw (digits-parts k j n) (put_then out at (digits j (n / 10 ^ k)) (digits k (n % 10 ^ k)) o o' p x.1 (rw l x.0) (omega arith) y.1))

-- and of a number
pub decimal-written :
    (k : ℕ) (out : List ℕ) (at n : ℕ) (o o' : List ℕ) (p e : ℕ) → 10 ^ k ≤ n → at + length (decimal n) ≤ length out → (p ≡ at + length (decimal (n / 10 ^ k))) × (o ≡ put out at (decimal (n / 10 ^ k))) → (e ≡ p + k) × (o' ≡ put o p (digits k (n % 10 ^ k))) → (e ≡ at + length (decimal n)) × (o' ≡ put out at (decimal n))
decimal-written k out at n o o' p e h room x y =
    let l = length-parts k n h in
    (omega (arith, x.0, y.0), rw (decimal-parts k n h) (put_then out at (decimal (n / 10 ^ k)) (digits k (n % 10 ^ k)) o o' p x.1 x.0 (omega arith) y.1))
