-- Keys that begin with a text and one byte stand between that byte and the next one.
-- Assumes nothing.
use Rattle.std.specs.Prelude.{◌≡◌, ◌&&◌, ℕ, ◌+◌, eqb}
use Rattle.std.proofs.Common.{sym, ◌∙◌, arith}
use Rattle.std.proofs.Math.Bool.{true}
use mathlib.Core.List.{List, [], ◌∷◌, ◌++◌}
use Prim.Native.Nat.{Ordering}
use borrow.Author.Tests.{eq-eqb, eqb-true}
use Rattle.text.specs.Part.{starts_with}
use Rattle.text.specs.PartLaws.{and_left, and_right}
use Rattle.text.specs.Order.{cmp}
use Rattle.text.specs.OrderLaws.{Tri, below, equal, above, tri, cmp-cons-lt, cmp-cons_gt, cmp-cons-eq, cmp-nil, cmp-nil-cons, cmp-cons-nil}

nil-least : (k : List ℕ) → cmp [] k ≡ Ordering.gt → ⊥
nil-least [] e = let a = cmp-nil in let z : ◌≡◌ {A = ℕ} 0 1 = cc in omega arith
nil-least (y ∷ k) e = let a = cmp-nil-cons y k in let z : ◌≡◌ {A = ℕ} 0 1 = cc in omega arith

module _ (c d : ℕ) (e : d ≡ c + 1) where
  -- what begins with the byte comes before the next one
  pub stem-before : (w k : List ℕ) → starts_with (w ++ (c ∷ [])) k ≡ true → cmp (w ++ (d ∷ [])) k ≡ Ordering.gt
  unfolding starts_with
  stem-before [] [] s = cc
  stem-before [] (y ∷ k) s = cmp-cons_gt d y [] k (omega (arith, eqb-true y c (and_left (eqb y c) true s)))
  stem-before (x ∷ w) [] s = cc
  stem-before (x ∷ w) (y ∷ k) s = cmp-cons-eq x y (w ++ (d ∷ [])) k (sym (eqb-true y x (and_left (eqb y x) (starts_with (w ++ (c ∷ [])) k) s))) ∙ stem-before w k (and_right (eqb y x) (starts_with (w ++ (c ∷ [])) k) s)

  -- and so does nothing else that does not come before it
  one_byte : (y : ℕ) (k : List ℕ) → Tri c y → Tri d y → (cmp (c ∷ []) (y ∷ k) ≡ Ordering.gt → ⊥) → cmp (d ∷ []) (y ∷ k) ≡ Ordering.gt → y ≡ c
  one_byte y k (below p) (below q) h g = let a = cmp-cons-lt d y [] k q in let z : ◌≡◌ {A = ℕ} 0 1 = cc in absurd (omega arith)
  one_byte y k (below p) (equal q) h g = absurd (nil-least k (sym (cmp-cons-eq d y [] k q) ∙ g))
  one_byte y k (below p) (above q) h g = absurd (let z : ⊥ = omega arith in z)
  one_byte y k (equal p) t h g = sym p
  one_byte y k (above p) t h g = absurd (h (cmp-cons_gt c y [] k p))

  pub stem-between : (w k : List ℕ) → (cmp (w ++ (c ∷ [])) k ≡ Ordering.gt → ⊥) → cmp (w ++ (d ∷ [])) k ≡ Ordering.gt → starts_with (w ++ (c ∷ [])) k ≡ true
  unfolding starts_with
  stem-between [] [] h g = absurd (h (cmp-cons-nil c []))
  stem-between [] (y ∷ k) h g = rw (eq-eqb y c (one_byte y k (tri c y) (tri d y) h g))
  stem-between (x ∷ w) [] h g = absurd (h (cmp-cons-nil x (w ++ (c ∷ []))))
  stem-between (x ∷ w) (y ∷ k) h g = go (tri x y) (stem-between w k)
    where
      go : Tri x y → ((cmp (w ++ (c ∷ [])) k ≡ Ordering.gt → ⊥) → cmp (w ++ (d ∷ [])) k ≡ Ordering.gt → starts_with (w ++ (c ∷ [])) k ≡ true) → (eqb y x && starts_with (w ++ (c ∷ [])) k) ≡ true
      go (below p) ih = let a = cmp-cons-lt x y (w ++ (d ∷ [])) k p in cc
      go (above p) ih = absurd (h (cmp-cons_gt x y (w ++ (c ∷ [])) k p))
      go (equal p) ih = rw (eq-eqb y x (sym p)) (ih (λ z. h (cmp-cons-eq x y (w ++ (c ∷ [])) k p ∙ z)) (sym (cmp-cons-eq x y (w ++ (d ∷ [])) k p) ∙ g))
