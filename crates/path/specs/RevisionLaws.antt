-- Laws of the order of revisions.
-- Assumes nothing.
use Rattle.std.specs.Prelude.{◌≡◌, refl, Bool, true, false, ◌&&◌, ◌||◌, ◌⊎◌, ℕ, ◌<◌, ◌≤◌, ltb, eqb}
use Rattle.std.proofs.Common.{sym, inl, inr, ⊎_elim, arith, lt-ltb, le-ltb, eq-eqb, ne_eqb, ltb-true, ltb-false, eqb-true}
use Rattle.std.proofs.lemmas.Bool.{eqb-false}
use Rattle.path.specs.declared.Revision.{Revision}
use Rattle.path.specs.Revision.{below}

-- ---- what it says of the counts
pub below-is : (p q : Revision) → below p q ≡ true → (p.number.0 < q.number.0) ⊎ ((p.number.0 ≡ q.number.0) × (p.height.0 < q.height.0))
below-is p q h = go (ltb p.number.0 q.number.0) refl (eqb p.number.0 q.number.0) refl h
  where
    go : (a : Bool) → ltb p.number.0 q.number.0 ≡ a → (b : Bool) → eqb p.number.0 q.number.0 ≡ b
        → (a || (b && ltb p.height.0 q.height.0)) ≡ true → (p.number.0 < q.number.0) ⊎ ((p.number.0 ≡ q.number.0) × (p.height.0 < q.height.0))
    go true x b y k = inl (ltb-true _ _ x)
    go false x true y k = inr (eqb-true _ _ y, ltb-true _ _ k)
    go false x false y k = let z : ◌≡◌ {A = ℕ} 0 1 = cc in absurd (omega arith)

pub is_below : (p q : Revision) → (p.number.0 < q.number.0) ⊎ ((p.number.0 ≡ q.number.0) × (p.height.0 < q.height.0)) → below p q ≡ true
is_below p q (inl h) = rw (lt-ltb p.number.0 q.number.0 h)
is_below p q (inr h) = rw (le-ltb p.number.0 q.number.0 (omega (arith, h.0)), eq-eqb p.number.0 q.number.0 h.0) (lt-ltb p.height.0 q.height.0 h.1)

below-no : (p q : Revision) → below p q ≡ false → (q.number.0 < p.number.0) ⊎ ((q.number.0 ≡ p.number.0) × (q.height.0 ≤ p.height.0))
below-no p q h = go (ltb p.number.0 q.number.0) refl (eqb p.number.0 q.number.0) refl h
  where
    go : (a : Bool) → ltb p.number.0 q.number.0 ≡ a → (b : Bool) → eqb p.number.0 q.number.0 ≡ b
        → (a || (b && ltb p.height.0 q.height.0)) ≡ false → (q.number.0 < p.number.0) ⊎ ((q.number.0 ≡ p.number.0) × (q.height.0 ≤ p.height.0))
    go true x b y k = let z : ◌≡◌ {A = ℕ} 0 1 = cc in absurd (omega arith)
    go false x true y k = inr (sym (eqb-true _ _ y), ltb-false _ _ k)
    go false x false y k = inl (omega (arith, ltb-false p.number.0 q.number.0 x, eqb-false p.number.0 q.number.0 y))

-- the ways out of a comparison
pub not-below : (p q : Revision) → q.number.0 < p.number.0 → below p q ≡ false
not-below p q h = rw (le-ltb p.number.0 q.number.0 (omega arith), ne_eqb p.number.0 q.number.0 (λ e. omega arith))

pub below-height : (p q : Revision) → p.number.0 ≡ q.number.0 → below p q ≡ ltb p.height.0 q.height.0
below-height p q e = rw (le-ltb p.number.0 q.number.0 (omega arith), eq-eqb p.number.0 q.number.0 e)

-- ---- it is an order
pub below_trans : (p q r : Revision) → below p q ≡ true → below q r ≡ true → below p r ≡ true
below_trans p q r h k = is_below p r (⊎_elim (λ a. ⊎_elim (λ b. inl (omega arith)) (λ b. inl (omega arith)) (below-is q r k)) (λ a. ⊎_elim (λ b. inl (omega arith)) (λ b. inr (omega arith, omega arith)) (below-is q r k)) (below-is p q h))

-- what is below q is below r, where r is not below q
pub below_through : (p q r : Revision) → below p q ≡ true → below r q ≡ false → below p r ≡ true
below_through p q r h k = is_below p r (⊎_elim (λ a. ⊎_elim (λ b. inl (omega arith)) (λ b. inl (omega arith)) (below-no r q k)) (λ a. ⊎_elim (λ b. inl (omega arith)) (λ b. inr (omega arith, omega arith)) (below-no r q k)) (below-is p q h))

-- it has no two ways
pub below-not-above : (p q : Revision) → below p q ≡ true → below q p ≡ false
below-not-above p q h = go (below q p) refl
  where
    go : (b : Bool) → below q p ≡ b → b ≡ false
    go false e = refl
    go true e = absurd (⊎_elim (λ x. ⊎_elim (λ y. omega arith) (λ y. omega arith) (below-is q p e)) (λ x. ⊎_elim (λ y. omega arith) (λ y. omega arith) (below-is q p e)) (below-is p q h))

pub below_self : (p : Revision) → below p p ≡ false
below_self p = go (below p p) refl
  where
    go : (b : Bool) → below p p ≡ b → b ≡ false
    go false e = refl
    go true e = absurd (⊎_elim (λ x. omega arith) (λ x. omega arith) (below-is p p e))
