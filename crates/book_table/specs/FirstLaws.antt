-- Laws of `first`.
-- Assumes nothing.
use Rattle.std.specs.Prelude.{◌≡◌, ℕ, zero, suc, ◌+◌, ◌<◌, ◌≤◌, Bool, true, false, cond, refl}
use Rattle.std.proofs.Common.{ap, ◌∙◌}
use Rattle.std.proofs.Math.Decide.{dec_lt}
use native.Mathlib.Omega.{arith}
use Rattle.book_table.specs.First.{first_from, first}

module _ (p : ℕ → Bool) where
  from-stop : (i n d : ℕ) → i ≤ d → d ≤ i + n → ((e : ℕ) → i ≤ e → e < d → p e ≡ false) → (d < i + n → p d ≡ true) → first_from p i n ≡ d
  unfolding first_from
  from-stop i zero d l m b h = omega arith
  from-stop i (suc n) d l m b h = go (dec_lt i d) (λ q. from-stop (suc i) n d q (omega arith) (λ e k. b e (omega arith)) (λ k. h (omega arith)))
    where
      go : Dec (i < d) → (i < d → first_from p (suc i) n ≡ d) → cond (p i) i (first_from p (suc i) n) ≡ d
      go (yes q) r = rw (b i (omega arith) q) (r q)
      go (no q) r = let s : i ≡ d = omega arith in rw (ap p s ∙ h (omega arith)) s

  -- where a walk from 0 stops: at the first that passes, or at the end
  pub first-stop : (n d : ℕ) → d ≤ n → ((e : ℕ) → e < d → p e ≡ false) → (d < n → p d ≡ true) → first p n ≡ d
  first-stop n d l b h = from-stop 0 n d (omega arith) (omega arith) (λ e k. b e) (λ k. h (omega arith))

  -- d is the first below n that passes
  pub record Least (n d : ℕ) : Type 0 where
    pub below : d < n
    pub before : (e : ℕ) → e < d → p e ≡ false
    pub here : p d ≡ true

  pub data Sought (n : ℕ) : Type 0 where
    found : (d : ℕ) → Least n d → Sought n
    missing : ((e : ℕ) → e < n → p e ≡ false) → Sought n

  pub seek : (n : ℕ) → Sought n
  seek zero = missing (λ e h. absurd (let z : ⊥ = omega arith in z))
  seek (suc n) = more (seek n)
    where
      last : ((e : ℕ) → e < n → p e ≡ false) → (q : Bool) → p n ≡ q → Sought (suc n)
      last b true h = found n (record { below = omega arith; before = b; here = h })
      last b false h = missing (λ e l. at e l (dec_lt e n))
        where
          at : (e : ℕ) → e < suc n → Dec (e < n) → p e ≡ false
          at e l (yes k) = b e k
          at e l (no k) = let s : e ≡ n = omega arith in ap p s ∙ h

      more : Sought n → Sought (suc n)
      more (found d l) = found d (record { below = omega (arith, l.below); before = l.before; here = l.here })
      more (missing b) = last b (p n) refl

  pub first-least : (n e : ℕ) → e < n → p e ≡ true → Least n (first p n)
  first-least n e h t = go (seek n)
    where
      go : Sought n → Least n (first p n)
      go (found d l) = rw (first-stop n d (omega (arith, l.below)) l.before (λ k. l.here)) l
      go (missing b) = absurd (let z : ◌≡◌ {A = ℕ} 0 1 = cc (b e h) in let y : ⊥ = omega arith in y)
