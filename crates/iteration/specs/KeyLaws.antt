-- Iteration keys compare as bytes exactly as (revision number, revision height) pairs compare.
-- Assumes nothing.
use Rattle.std.specs.Prelude.{◌≡◌, refl, [], ◌∷◌, ◌++◌, length}
use Rattle.std.proofs.Common.{sym, ◌∙◌, pow-suc, arith, length-append}
use Prim.Native.Nat.{ℕ, zero, suc, ◌/◌, ◌%◌, ◌^◌, ◌<◌, compare, Ordering}
use Rattle.text.specs.Bytes.{bytes}
use Rattle.text.specs.Order.{then, cmp}
use Rattle.text.specs.OrderLaws.{compare-lt, compare_gt, compare_same, Tri, below, equal, above, tri, cmp_self, cmp-append}
use Rattle.text.specs.Number.{big_endian}
use Rattle.text.specs.NumberLaws.{length_big}
use Rattle.iteration.specs.Key.{iteration_key}

-- a number is compared by its high part first
digits_compare : (x y : ℕ) → then (compare (x / 256) (y / 256)) (compare (x % 256) (y % 256)) ≡ compare x y
digits_compare x y = go (tri (x / 256) (y / 256)) (tri (x % 256) (y % 256))
  where
    go : Tri (x / 256) (y / 256) → Tri (x % 256) (y % 256) → then (compare (x / 256) (y / 256)) (compare (x % 256) (y % 256)) ≡ compare x y
    go (below p) t = rw (compare-lt (x / 256) (y / 256) p, compare-lt x y (omega arith))
    go (above p) t = rw (compare_gt (x / 256) (y / 256) p, compare_gt x y (omega arith))
    go (equal p) (below q) = rw (p, compare_same (y / 256), compare-lt (x % 256) (y % 256) q, compare-lt x y (omega arith))
    go (equal p) (above q) = rw (p, compare_same (y / 256), compare_gt (x % 256) (y % 256) q, compare_gt x y (omega arith))
    go (equal p) (equal q) = let e : x ≡ y = omega arith in rw (e, compare_same (y / 256), compare_same (y % 256), compare_same y)

then_equal : (o : Ordering) → then o Ordering.eq ≡ o
then_equal Ordering.lt = refl
then_equal Ordering.eq = refl
then_equal Ordering.gt = refl

pub big_compare : (n x y : ℕ) → x < 256 ^ n → y < 256 ^ n → cmp (big_endian n x) (big_endian n y) ≡ compare x y
unfolding big_endian cmp
big_compare zero x y h k = let e : x ≡ y = omega arith in rw (e) (sym (compare_same y))
big_compare (suc n) x y h k =
    let l : length (big_endian n (x / 256)) ≡ length (big_endian n (y / 256)) = length_big n (x / 256) ∙ sym (length_big n (y / 256)) in
    cmp-append (big_endian n (x / 256)) (big_endian n (y / 256)) ((x % 256) ∷ []) ((y % 256) ∷ []) l
    ∙ rw (big_compare n (x / 256) (y / 256) (omega (arith, pow-suc 256 n)) (omega (arith, pow-suc 256 n)), then_equal (compare (x % 256) (y % 256))) (digits_compare x y)

pub key-length : (n h : ℕ) → length (iteration_key n h) ≡ 38
unfolding iteration_key
key-length n h = rw (length-append (big_endian 8 n) (big_endian 8 h)) (omega (arith, length_big 8 n, length_big 8 h))

-- keys compare as pairs
pub key_compare : (m h n k : ℕ) → m < 2 ^ 64 → h < 2 ^ 64 → n < 2 ^ 64 → k < 2 ^ 64 → cmp (iteration_key m h) (iteration_key n k) ≡ then (compare m n) (compare h k)
unfolding iteration_key
key_compare m h n k p q r s =
    let l : length (big_endian 8 m) ≡ length (big_endian 8 n) = length_big 8 m ∙ sym (length_big 8 n) in
    cmp-append (bytes "iterateConsensusStates") (bytes "iterateConsensusStates") (big_endian 8 m ++ big_endian 8 h) (big_endian 8 n ++ big_endian 8 k) refl
    ∙ rw (cmp_self (bytes "iterateConsensusStates"), cmp-append (big_endian 8 m) (big_endian 8 n) (big_endian 8 h) (big_endian 8 k) l, big_compare 8 m n (omega arith) (omega arith), big_compare 8 h k (omega arith) (omega arith))
