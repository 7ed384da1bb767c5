-- A test of every byte, made part by part, and of a short part by the or of its bytes.
-- Assumes nothing.
use Rattle.std.specs.Prelude.{◌≡◌, List, Bool, ◌&&◌, ℕ, suc, ◌+◌, ◌-◌, ◌≤◌, ◌<◌, length, take, drop, get_or, ◌++◌}
use Rattle.std.proofs.Math.Path.{refl}
use Rattle.std.proofs.Common.{sym, ap, ◌∙◌, arith, length-drop, take-append-drop, drop_of_length-le, drop-cons, drop-drop, drop_at, length-append, take_all, eq-eqb, ne_eqb, eqb-true}
use Rattle.std.proofs.Math.Bool.{true, false}
use Rattle.std.proofs.Math.Numerals.{add-one}
use Rattle.std.specs.Int.Bits.{bit_or, or_zero_l, or_add_and}
use Rattle.std.proofs.lemmas.Nat.{and_le_r}
use Rattle.std.proofs.Math.Dec.{eqb}
use Rattle.std.proofs.lemmas.Bool.{eqb-false}
use Rattle.text.specs.Part.{every}
use Rattle.text.specs.PartLaws.{every_append}

-- the or of two numbers is 0 where both are
or-zero : (a b : ℕ) → eqb (bit_or a b) 0 ≡ (eqb a 0 && eqb b 0)
or-zero a b = go (eqb a 0) refl (eqb b 0) refl
  where
    first : bit_or a b ≡ 0 → a ≡ 0
    first z = omega (arith, or_add_and a b, and_le_r a b)

    second : bit_or a b ≡ 0 → b ≡ 0
    second z = sym (or_zero_l b) ∙ ap (λ (x : ℕ). bit_or x b) (sym (first z)) ∙ z

    go : (p : Bool) → eqb a 0 ≡ p → (q : Bool) → eqb b 0 ≡ q → eqb (bit_or a b) 0 ≡ (p && q)
    go true e true f = eq-eqb (bit_or a b) 0 (ap (λ (x : ℕ). bit_or x b) (eqb-true a 0 e) ∙ or_zero_l b ∙ eqb-true b 0 f)
    go true e false f = ne_eqb (bit_or a b) 0 (λ z. eqb-false b 0 f (second z))
    go false e q f = ne_eqb (bit_or a b) 0 (λ z. eqb-false a 0 e (first z))

-- one turn of a loop that keeps the or v of the bytes before place i
module _ (v : ℕ) (s : List ℕ) (i : ℕ) where
  pub or-none : length s ≤ i → (eqb v 0 && every (λ b. eqb b 0) (drop i s)) ≡ eqb v 0
  unfolding every
  or-none h = rw (drop_of_length-le s h) (go (eqb v 0))
    where
      go : (p : Bool) → (p && true) ≡ p
      go true = refl
      go false = refl

  pub or-more : i < length s → (eqb v 0 && every (λ b. eqb b 0) (drop i s)) ≡ (eqb (bit_or v (get_or s i 0)) 0 && every (λ b. eqb b 0) (drop (i + 1) s))
  unfolding every
  or-more h = rw (drop-cons s i 0 h, add-one, or-zero v (get_or s i 0)) (go (eqb v 0) (eqb (get_or s i 0) 0) (every (λ b. eqb b 0) (drop (suc i) s)))
    where
      go : (p q r : Bool) → (p && (q && r)) ≡ ((p && q) && r)
      go true q r = refl
      go false q r = refl

-- a part that reaches to the end decides, where what is not known ends inside it
suffix : (a b l r s : Bool) → s ≡ (a && l) → l ≡ (b && r) → s ≡ r → l ≡ s
suffix true b l r s p q e = sym p
suffix false true l r s p q e = q ∙ sym e
suffix false false l r s p q e = q ∙ sym p

module _ (f : ℕ → Bool) (s : List ℕ) (i m : ℕ) where
  every_split : every f (drop i s) ≡ (every f (take m (drop i s)) && every f (drop (i + m) s))
  every_split =
      sym (ap (every f) (take-append-drop m (drop i s)))
      ∙ every_append f (take m (drop i s)) (drop m (drop i s))
      ∙ ap (λ (l : List ℕ). every f (take m (drop i s)) && every f l) (drop-drop m i s)

part-last : (f : ℕ → Bool) (s : List ℕ) (i j m : ℕ) → every f s ≡ every f (drop i s) → j ≤ i → length s ≤ j + m → every f (take m (drop j s)) ≡ every f s
part-last f s i j m e h hm =
    let all : take m (drop j s) ≡ drop j s = take_all m (drop j s) (omega (arith, length-drop j s)) in
    let front : every f s ≡ (every f (take j s) && every f (drop j s)) = sym (ap (every f) (take-append-drop j s)) ∙ every_append f (take j s) (drop j s) in
    let back : every f (drop j s) ≡ (every f (take (i - j) (drop j s)) && every f (drop i s)) = every_split f s j (i - j) ∙ ap (λ (k : ℕ). every f (take (i - j) (drop j s)) && every f (drop k s)) (let w : j + (i - j) ≡ i = omega arith in w) in
    ap (every f) all ∙ suffix (every f (take j s)) (every f (take (i - j) (drop j s))) (every f (drop j s)) (every f (drop i s)) (every f s) front back e

-- r is what is left of s, where the bytes before it pass the test
pub record Left (f : ℕ → Bool) (s r : List ℕ) : Type 0 where
  pub within : length r ≤ length s
  pub behind : r ≡ drop (length s - length r) s
  pub passed : every f s ≡ every f r

module _ (f : ℕ → Bool) (s : List ℕ) where
  pub left-start : (r : List ℕ) → r ≡ s → Left f s r
  left-start r e = rw e (record { within = omega arith; behind = ap (λ (n : ℕ). drop n s) (let z : 0 ≡ length s - length s = omega arith in z); passed = refl })

  pub left-stop : (x t r : List ℕ) → Left f s r → r ≡ x ++ t → every f x ≡ false → every f s ≡ false
  left-stop x t r g e h = g.passed ∙ ap (every f) e ∙ every_append f x t ∙ rw h refl

  pub left-next : (x t r : List ℕ) → Left f s r → r ≡ x ++ t → every f x ≡ true → Left f s t
  left-next x t r g e h =
      let n : length r ≡ length x + length t = ap length e ∙ length-append x t in
      record {
        within = omega (arith, g.within);
        behind = sym (drop_at x t (length x) refl) ∙ ap (drop (length x)) (sym e ∙ g.behind) ∙ drop-drop (length x) (length s - length r) s ∙ ap (λ (k : ℕ). drop k s) (let z : length s - length r + length x ≡ length s - length t = omega (arith, g.within) in z);
        passed = g.passed ∙ ap (every f) e ∙ every_append f x t ∙ rw h refl;
      }

  -- the last m bytes decide, where no more are left
  pub left-end : (r : List ℕ) (j m : ℕ) → Left f s r → length r ≤ m → m ≤ length s → j + m ≡ length s → every f (take (length s - j) (drop j s)) ≡ every f s
  left-end r j m g h k e = part-last f s (length s - length r) j (length s - j) (g.passed ∙ ap (every f) g.behind) (omega arith) (omega arith)
