-- Laws of `Order`.
-- Assumes nothing.
use Rattle.std.specs.Prelude.{◌≡◌, refl, List, [], ◌∷◌, ◌++◌, length}
use Rattle.std.proofs.Common.{sym, ◌∙◌, not-suc-le-zero, le_of_suc-le-suc, arith}
use Prim.Native.Nat.{ℕ, zero, suc, ◌<◌, compare, Ordering}
use Rattle.std.proofs.Math.Decide.{dec_lt}
use Rattle.text.specs.Order.{by, then, cmp, Before}

pub compare-lt : (x y : ℕ) → x < y → compare x y ≡ Ordering.lt
compare-lt zero zero h = absurd (not-suc-le-zero h)
compare-lt zero (suc y) h = Prim.Native.Nat.compare.zero-suc y
compare-lt (suc x) zero h = absurd (not-suc-le-zero h)
compare-lt (suc x) (suc y) h = Prim.Native.Nat.compare.suc-suc x y ∙ compare-lt x y (le_of_suc-le-suc h)

pub compare_gt : (x y : ℕ) → y < x → compare x y ≡ Ordering.gt
compare_gt zero zero h = absurd (not-suc-le-zero h)
compare_gt zero (suc y) h = absurd (not-suc-le-zero h)
compare_gt (suc x) zero h = Prim.Native.Nat.compare.suc-zero x
compare_gt (suc x) (suc y) h = Prim.Native.Nat.compare.suc-suc x y ∙ compare_gt x y (le_of_suc-le-suc h)

pub compare_same : (x : ℕ) → compare x x ≡ Ordering.eq
compare_same zero = Prim.Native.Nat.compare.zero-zero
compare_same (suc x) = Prim.Native.Nat.compare.suc-suc x x ∙ compare_same x

-- one of the three holds
pub data Tri (x y : ℕ) : Type 0 where
  below : x < y → Tri x y
  equal : x ≡ y → Tri x y
  above : y < x → Tri x y

pub tri : (x y : ℕ) → Tri x y
tri x y = go (dec_lt x y) (dec_lt y x)
  where
    go : Dec (x < y) → Dec (y < x) → Tri x y
    go (yes p) q = below p
    go (no p) (yes q) = above q
    go (no p) (no q) = equal (omega arith)

pub then_assoc : (o p q : Ordering) → then (then o p) q ≡ then o (then p q)
then_assoc Ordering.lt p q = refl
then_assoc Ordering.eq p q = refl
then_assoc Ordering.gt p q = refl

pub cmp_self : (a : List ℕ) → cmp a a ≡ Ordering.eq
unfolding cmp
cmp_self [] = refl
cmp_self (x ∷ a) = rw (compare_same x) (cmp_self a)

-- texts whose first parts have one length: these decide, and else the rest
pub cmp-append : (a b c d : List ℕ) → length a ≡ length b → cmp (a ++ c) (b ++ d) ≡ then (cmp a b) (cmp c d)
unfolding cmp
cmp-append [] [] c d h = refl
cmp-append [] (y ∷ b) c d h = absurd (omega arith)
cmp-append (x ∷ a) [] c d h = absurd (omega arith)
cmp-append (x ∷ a) (y ∷ b) c d h = rw (cmp-append a b c d (omega arith)) (sym (then_assoc (compare x y) (cmp a b) (cmp c d)))

pub cmp-eq : (a b : List ℕ) → cmp a b ≡ Ordering.eq → a ≡ b
unfolding cmp
cmp-eq [] [] e = refl
cmp-eq [] (y ∷ b) e = cc
cmp-eq (x ∷ a) [] e = cc
cmp-eq (x ∷ a) (y ∷ b) e = go (tri x y) (cmp-eq a b)
  where
    go : Tri x y → (cmp a b ≡ Ordering.eq → a ≡ b) → (x ∷ a) ≡ (y ∷ b)
    go (below p) ih = let q = rw (compare-lt x y p) at e in cc
    go (above p) ih = let q = rw (compare_gt x y p) at e in cc
    go (equal p) ih =
        let c : compare x y ≡ Ordering.eq = rw p (compare_same y) in
        let q = ih (rw c at e) in
        cc

pub cmp_flip : (a b : List ℕ) → cmp b a ≡ by (cmp a b) Ordering.gt Ordering.eq Ordering.lt
unfolding cmp
cmp_flip [] [] = refl
cmp_flip [] (y ∷ b) = refl
cmp_flip (x ∷ a) [] = refl
cmp_flip (x ∷ a) (y ∷ b) = go (tri x y) (cmp_flip a b)
  where
    go : Tri x y → cmp b a ≡ by (cmp a b) Ordering.gt Ordering.eq Ordering.lt → cmp (y ∷ b) (x ∷ a) ≡ by (cmp (x ∷ a) (y ∷ b)) Ordering.gt Ordering.eq Ordering.lt
    go (below p) ih = rw (compare-lt x y p, compare_gt y x p)
    go (above p) ih = rw (compare_gt x y p, compare-lt y x p)
    go (equal p) ih = rw (p, compare_same y) ih

pub before_trans : (a b c : List ℕ) → Before a b → Before b c → Before a c
unfolding cmp
before_trans [] [] c p q = q
before_trans [] (y ∷ b) [] p q = cc
before_trans [] (y ∷ b) (z ∷ c) p q = refl
before_trans (x ∷ a) [] c p q = cc
before_trans (x ∷ a) (y ∷ b) [] p q = cc
before_trans (x ∷ a) (y ∷ b) (z ∷ c) p q = go (tri x y) (tri y z) (before_trans a b c)
  where
    go : Tri x y → Tri y z → (Before a b → Before b c → Before a c) → by (compare x z) Ordering.lt (cmp a c) Ordering.gt ≡ Ordering.lt
    go (below i) (below j) ih = rw (compare-lt x z (omega arith))
    go (below i) (equal j) ih = rw (compare-lt x z (omega arith))
    go (below i) (above j) ih = let r = rw (compare_gt y z j) at q in cc
    go (equal i) (below j) ih = rw (compare-lt x z (omega arith))
    go (equal i) (equal j) ih =
        let ij : compare x y ≡ Ordering.eq = rw i (compare_same y) in
        let jk : compare y z ≡ Ordering.eq = rw j (compare_same z) in
        let ik : compare x z ≡ Ordering.eq = rw (i, j) (compare_same z) in
        rw ik (ih (rw ij at p) (rw jk at q))
    go (equal i) (above j) ih = let r = rw (compare_gt y z j) at q in cc
    go (above i) (below j) ih = let r = rw (compare_gt x y i) at p in cc
    go (above i) (equal j) ih = let r = rw (compare_gt x y i) at p in cc
    go (above i) (above j) ih = let r = rw (compare_gt x y i) at p in cc

pub before-not-same : (a b : List ℕ) → Before a b → a ≡ b → ⊥
before-not-same a b p e =
    let r : cmp b b ≡ Ordering.lt = rw e at p in
    let z : ◌≡◌ {A = ℕ} 0 1 = cc (cmp_self b) in
    omega arith

pub flip_gt : (a b : List ℕ) → cmp a b ≡ Ordering.gt → Before b a
flip_gt a b e = cmp_flip a b ∙ rw e

-- what two texts are to each other
pub data Keys (a b : List ℕ) : Type 0 where
  key-lt : cmp a b ≡ Ordering.lt → Keys a b
  key-eq : cmp a b ≡ Ordering.eq → Keys a b
  key_gt : cmp a b ≡ Ordering.gt → Keys a b

pub keys : (a b : List ℕ) → Keys a b
keys a b = go (cmp a b) refl
  where
    go : (o : Ordering) → cmp a b ≡ o → Keys a b
    go Ordering.lt e = key-lt e
    go Ordering.eq e = key-eq e
    go Ordering.gt e = key_gt e

-- the order of two texts by their first bytes
pub cmp-cons-lt : (x y : ℕ) (a b : List ℕ) → x < y → cmp (x ∷ a) (y ∷ b) ≡ Ordering.lt
unfolding cmp
cmp-cons-lt x y a b h = rw (compare-lt x y h)

pub cmp-cons_gt : (x y : ℕ) (a b : List ℕ) → y < x → cmp (x ∷ a) (y ∷ b) ≡ Ordering.gt
unfolding cmp
cmp-cons_gt x y a b h = rw (compare_gt x y h)

pub cmp-cons-eq : (x y : ℕ) (a b : List ℕ) → x ≡ y → cmp (x ∷ a) (y ∷ b) ≡ cmp a b
unfolding cmp
cmp-cons-eq x y a b h = rw (h, compare_same y)

pub cmp-nil : cmp [] [] ≡ Ordering.eq
unfolding cmp
cmp-nil = refl

pub cmp-nil-cons : (y : ℕ) (b : List ℕ) → cmp [] (y ∷ b) ≡ Ordering.lt
unfolding cmp
cmp-nil-cons y b = refl

pub cmp-cons-nil : (x : ℕ) (a : List ℕ) → cmp (x ∷ a) [] ≡ Ordering.gt
unfolding cmp
cmp-cons-nil x a = refl
