-- Keys that begin with one text stand together in key order.
-- Assumes nothing.
use Rattle.std.specs.Prelude.{◌≡◌, refl, true, false, ◌&&◌, List, [], ◌∷◌, ◌++◌, ℕ, eqb}
use Rattle.std.proofs.Common.{sym, ◌∙◌, arith, eq-eqb, ne_eqb, eqb-true}
use Rattle.std.proofs.Math.Bool.{and-false}
use Prim.Native.Nat.{Ordering}
use Rattle.text.specs.Part.{starts_with}
use Rattle.text.specs.PartLaws.{and_left, and_right}
use Rattle.text.specs.Order.{cmp, Before}
use Rattle.text.specs.OrderLaws.{Tri, below, equal, above, tri, cmp-cons-lt, cmp-cons_gt, cmp-cons-eq, cmp-nil, cmp-nil-cons, cmp-cons-nil}

-- a text begins what it is continued to
pub starts-own : (w s : List ℕ) → starts_with w (w ++ s) ≡ true
unfolding starts_with
starts-own [] s = refl
starts-own (x ∷ w) s = rw (eq-eqb x x refl) (starts-own w s)

-- what comes before a text does not begin with it
pub starts-below : (w k : List ℕ) → cmp w k ≡ Ordering.gt → starts_with w k ≡ false
unfolding starts_with
starts-below [] [] e = let z = cmp-nil in cc
starts-below [] (y ∷ k) e = let z = cmp-nil-cons y k in cc
starts-below (x ∷ w) [] e = refl
starts-below (x ∷ w) (y ∷ k) e = go (tri x y) (starts-below w k)
  where
    go : Tri x y → (cmp w k ≡ Ordering.gt → starts_with w k ≡ false) → (eqb y x && starts_with w k) ≡ false
    go (below p) ih = let z = cmp-cons-lt x y w k p in cc
    go (equal p) ih = rw (ih (sym (cmp-cons-eq x y w k p) ∙ e)) (and-false (eqb y x))
    go (above p) ih = rw (ne_eqb y x (λ q. omega arith))

-- where a later key begins with a text, so does each before it that does not come before that text
pub starts-between : (w a b : List ℕ) → (cmp w a ≡ Ordering.gt → ⊥) → Before a b → starts_with w b ≡ true → starts_with w a ≡ true
unfolding starts_with
starts-between [] a b h o e = refl
starts-between (x ∷ w) [] b h o e = absurd (h (cmp-cons-nil x w))
starts-between (x ∷ w) (y ∷ a) [] h o e = cc
starts-between (x ∷ w) (y ∷ a) (z ∷ b) h o e = go (tri x y) (tri y z) (starts-between w a b)
  where
    zx : z ≡ x
    zx = eqb-true z x (and_left (eqb z x) (starts_with w b) e)

    go : Tri x y → Tri y z → ((cmp w a ≡ Ordering.gt → ⊥) → Before a b → starts_with w b ≡ true → starts_with w a ≡ true) → (eqb y x && starts_with w a) ≡ true
    go (above p) t ih = absurd (h (cmp-cons_gt x y w a p))
    go (below p) (above q) ih = let g = cmp-cons_gt y z a b q in cc
    go (equal p) (above q) ih = let g = cmp-cons_gt y z a b q in cc
    go (below p) (below q) ih = absurd (let n : ⊥ = omega (arith, zx) in n)
    go (below p) (equal q) ih = absurd (let n : ⊥ = omega (arith, zx) in n)
    go (equal p) (below q) ih = absurd (let n : ⊥ = omega (arith, zx) in n)
    go (equal p) (equal q) ih = rw (eq-eqb y x (sym p)) (ih (λ g. h (cmp-cons-eq x y w a p ∙ g)) (sym (cmp-cons-eq y z a b q) ∙ o) (and_right (eqb z x) (starts_with w b) e))
