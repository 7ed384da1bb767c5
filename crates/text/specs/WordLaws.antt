-- Laws of a number that is made of bytes one by one, and a test of eight at once.
-- Assumes nothing.
use Rattle.std.specs.Prelude.{◌≡◌, refl, Bool, true, false, ◌&&◌, List, [], ◌∷◌, ℕ, zero, suc, ◌+◌, ◌*◌, ◌^◌, ◌≤◌, ◌<◌, ltb, eqb, length, take, get_or}
use Rattle.std.proofs.Common.{ap, ◌∙◌, arith, eq-eqb, ne_eqb, eqb-true}
use Rattle.std.proofs.Math.Nat.{pow-le-pow_right}
use Rattle.std.specs.Int.Bits.{bit_and}
use Rattle.std.proofs.lemmas.Nat.{and_block}
use Rattle.std.proofs.lemmas.Bool.{eqb-false}
use Rattle.text.specs.Number.{little}
use Rattle.text.specs.Part.{every, ascii}
use Rattle.text.specs.TableLaws.{agree_at}

-- a number of n bytes has room for one more in a u64
pub byte-room : (n r : ℕ) → n < 8 → r < 256 ^ n → r < 256 ^ 7
byte-room n r h l = omega (arith, pow-le-pow_right {n = 256} (omega arith) {i = n} {j = 7} (omega arith))

-- the highest bit of each of n bytes
abbrev pub high_bits : ℕ → ℕ
high_bits zero = 0
high_bits (suc n) = high_bits n * 256 + 128

both_zero : (x y : ℕ) → eqb (x * 256 + y) 0 ≡ (eqb y 0 && eqb x 0)
both_zero x y = go (eqb y 0) refl (eqb x 0) refl
  where
    go : (p : Bool) → eqb y 0 ≡ p → (q : Bool) → eqb x 0 ≡ q → eqb (x * 256 + y) 0 ≡ (p && q)
    go true e true f = eq-eqb (x * 256 + y) 0 (omega (arith, eqb-true y 0 e, eqb-true x 0 f))
    go true e false f = ne_eqb (x * 256 + y) 0 (λ z. eqb-false x 0 f (omega arith))
    go false e q f = ne_eqb (x * 256 + y) 0 (λ z. eqb-false y 0 e (omega arith))

high_bit : (b : ℕ) → b < 256 → eqb (bit_and b 128) 0 ≡ ltb b 128
high_bit b h = agree_at (λ b. eqb (bit_and b 128) 0) (λ b. ltb b 128) 0 256 refl b (omega arith) (omega arith)

-- none is set where each byte is ASCII
pub high-ascii : (n : ℕ) (s : List ℕ) → n ≤ length s → ((i : ℕ) → get_or s i 0 < 256) → eqb (bit_and (little n s) (high_bits n)) 0 ≡ ascii (take n s)
unfolding little ascii every
high-ascii zero s h k = refl
high-ascii (suc n) [] h k = absurd (omega arith)
high-ascii (suc n) (b ∷ s) h k =
    ap (λ v. eqb v 0) (and_block 8 (little n s) (high_bits n) b 128 (k 0) (omega arith))
    ∙ both_zero (bit_and (little n s) (high_bits n)) (bit_and b 128)
    ∙ ap (λ v. v && eqb (bit_and (little n s) (high_bits n)) 0) (high_bit b (k 0))
    ∙ ap (λ v. ltb b 128 && v) (high-ascii n s (omega arith) (λ i. k (suc i)))
