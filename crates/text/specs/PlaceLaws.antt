-- Laws of the element at a position of a list, `get_elem? l i`.
-- Assumes nothing.
use Rattle.std.specs.Prelude.{◌≡◌, refl, List, [], ◌∷◌, ◌++◌, ℕ, zero, suc, ◌<◌, length, take, drop}
use Rattle.std.proofs.Common.{ap, le_of_suc-le-suc, not-suc-le-zero, arith}
use Rattle.std.proofs.Math.Option.{some}
use Rattle.std.proofs.Math.ListN.{get_elem?}

module _ {A : Type 0} where
  pub at_some : (l : List A) (i : ℕ) → i < length l → (a : A) × (get_elem? l i ≡ some a)
  at_some [] i h = absurd (not-suc-le-zero h)
  at_some (x ∷ l) zero h = (x, refl)
  at_some (x ∷ l) (suc i) h = at_some l i (le_of_suc-le-suc h)

  pub at_lt : (l : List A) (i : ℕ) (a : A) → get_elem? l i ≡ some a → i < length l
  at_lt [] i a e = let z : ◌≡◌ {A = ℕ} 0 1 = cc in omega arith
  at_lt (x ∷ l) zero a e = omega arith
  at_lt (x ∷ l) (suc i) a e = let r = at_lt l i a e in omega arith

  pub take-suc-at : (l : List A) (i : ℕ) (a : A) → get_elem? l i ≡ some a → take (suc i) l ≡ take i l ++ (a ∷ [])
  take-suc-at [] i a e = cc
  take-suc-at (x ∷ l) zero a e = cc
  take-suc-at (x ∷ l) (suc i) a e = ap {B = List A} (λ r. x ∷ r) (take-suc-at l i a e)

  pub drop-place : (s : List A) (p : ℕ) (y : A) → get_elem? s p ≡ some y → drop p s ≡ y ∷ drop (suc p) s
  drop-place [] p y e = cc
  drop-place (x ∷ s) zero y e = cc
  drop-place (x ∷ s) (suc p) y e = drop-place s p y e
