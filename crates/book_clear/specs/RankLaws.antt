-- Of different revisions as many have fewer than m above them as m says, or all where there are no more than m.
-- Assumes nothing.
use Rattle.std.specs.Prelude.{◌≡◌, refl, Bool, true, false, cond, List, [], ◌∷◌, ◌⊎◌, ℕ, suc, ◌+◌, ◌-◌, ◌<◌, ◌≤◌, ltb, length}
use Rattle.std.proofs.Common.{sym, ap, ◌∙◌, inl, inr, ⊎_elim, arith, lt-ltb, le-ltb, le-leb}
use Rattle.std.proofs.Math.Option.{some}
use Rattle.std.proofs.Math.Decide.{dec_lt}
use Rattle.std.proofs.Math.ListN.{get_elem?}
use Rattle.std.proofs.lemmas.Bool.{lt-leb}
use Rattle.path.specs.declared.Revision.{Revision}
use Rattle.path.specs.Revision.{revision, below}
use Rattle.path.specs.RevisionLaws.{is_below, below_through, below-not-above, below_self}
use Rattle.runs.specs.Total.{total}
use Rattle.book_clear.specs.Clear.{least}
use Rattle.book_clear.specs.LeftLaws.{total-same, total_up, total-above}

pub clash : {A : Type 0} (v : Bool) → v ≡ true → v ≡ false → A
clash v e f = let z : ◌≡◌ {A = ℕ} 0 1 = ap (λ (b : Bool). cond b 0 1) (sym e ∙ f) in absurd (omega arith)

-- ---- the lesser of two numbers
pub least_first : (a b : ℕ) → a ≤ b → least a b ≡ a
least_first a b h = rw (le-leb a b h)

pub least-second : (a b : ℕ) → b ≤ a → least a b ≡ b
least-second a b h = go (dec_lt b a)
  where
    go : Dec (b < a) → least a b ≡ b
    go (yes l) = rw (lt-leb a b l)
    go (no l) = let e : a ≡ b = omega arith in rw (le-leb a b (omega arith)) e

same-lt : (x m y n : ℕ) → (x < m → y < n) → (y < n → x < m) → ltb x m ≡ ltb y n
same-lt x m y n f g = go (dec_lt x m)
  where
    none : Dec (y < n) → (x < m → ⊥) → n ≤ y
    none (yes h) l = absurd (l (g h))
    none (no h) l = omega arith

    go : Dec (x < m) → ltb x m ≡ ltb y n
    go (yes l) = lt-ltb x m l ∙ sym (lt-ltb y n (f l))
    go (no l) = le-ltb x m (omega arith) ∙ sym (le-ltb y n (none (dec_lt y n) l))

-- ---- the order of revisions
-- what is above q is above p, where q is not below p
pub above_too : (p q r : Revision) → below q r ≡ true → below q p ≡ false → below p r ≡ true
above_too p q r h n = go (below p r) refl
  where
    go : (v : Bool) → below p r ≡ v → v ≡ true
    go true e = refl
    go false e = clash (below q p) (below_through q r p h e) n

pub one_of_three : (p q : Revision) → (p ≡ q) ⊎ ((below p q ≡ true) ⊎ (below q p ≡ true))
one_of_three p q = go (dec_lt p.number.0 q.number.0) (dec_lt q.number.0 p.number.0) (dec_lt p.height.0 q.height.0) (dec_lt q.height.0 p.height.0)
  where
    go : Dec (p.number.0 < q.number.0) → Dec (q.number.0 < p.number.0) → Dec (p.height.0 < q.height.0) → Dec (q.height.0 < p.height.0) → (p ≡ q) ⊎ ((below p q ≡ true) ⊎ (below q p ≡ true))
    go (yes l) b c d = inr (inl (is_below p q (inl l)))
    go (no k) (yes l) c d = inr (inr (is_below q p (inl l)))
    go (no k) (no l) (yes c) d = inr (inl (is_below p q (inr (omega arith, c))))
    go (no k) (no l) (no c) (yes d) = inr (inr (is_below q p (inr (omega arith, d))))
    go (no k) (no l) (no c) (no d) =
        let e : p.number.0 ≡ q.number.0 = omega arith in
        let f : p.height.0 ≡ q.height.0 = omega arith in
        inl (λ i. revision (e i) (f i))

-- ---- a list of revisions
abbrev pub tally : (Revision → Bool) → List Revision → ℕ
tally f l = total (λ p. cond (f p) 1 0) l

abbrev pub rank : Revision → List Revision → ℕ
rank p l = tally (below p) l

abbrev pub NotIn : Revision → List Revision → Type 0
NotIn p l = (i : ℕ) → get_elem? l i ≡ some p → ⊥

abbrev pub Distinct : List Revision → Type 0
Distinct [] = Unit {0}
Distinct (p ∷ l) = NotIn p l × Distinct l

one-zero : (v u : Bool) → (v ≡ true → u ≡ true) → cond v 1 0 ≤ cond u 1 0
one-zero true u h = rw (h refl) (omega arith)
one-zero false true h = omega arith
one-zero false false h = omega arith

tally-most : (f : Revision → Bool) (l : List Revision) → tally f l ≤ length l
tally-most f [] = omega arith
tally-most f (p ∷ l) = go (f p) (tally-most f l)
  where
    go : (v : Bool) → tally f l ≤ length l → cond v 1 0 + tally f l ≤ suc (length l)
    go true ih = omega arith
    go false ih = omega arith

-- a higher one has no more above it, and one of the list fewer
pub rank_down : (p q : Revision) (l : List Revision) → below q p ≡ false → rank q l ≤ rank p l
rank_down p q l n = total_up (λ r. cond (below q r) 1 0) (λ r. cond (below p r) 1 0) l (λ i r e. one-zero (below q r) (below p r) (λ h. above_too p q r h n))

rank_less : (p q : Revision) (l : List Revision) → below p q ≡ true → (i : ℕ) → get_elem? l i ≡ some q → rank q l + 1 ≤ rank p l
rank_less p q l h i e =
    total-above (λ r. cond (below q r) 1 0) (λ r. cond (below p r) 1 0) l
    (λ r. one-zero (below q r) (below p r) (λ g. above_too p q r g (below-not-above p q h))) i q e (rw (below_self q, h) (omega arith))

-- ---- how many have fewer than m above them
module _ (a : Revision) (l : List Revision) (fresh : NotIn a l) where
  abbrev g : ℕ
  g = rank a l

  -- where another element stands to the first one
  side : (i : ℕ) (p : Revision) → get_elem? l i ≡ some p → ((rank p (a ∷ l) ≡ rank p l) × (rank p l + 1 ≤ g)) ⊎ ((rank p (a ∷ l) ≡ suc (rank p l)) × (g ≤ rank p l))
  side i p e = ⊎_elim (λ q. absurd (fresh i (e ∙ ap some q))) (λ o. ⊎_elim low high o) (one_of_three p a)
    where
      low : below p a ≡ true → ((rank p (a ∷ l) ≡ rank p l) × (rank p l + 1 ≤ g)) ⊎ ((rank p (a ∷ l) ≡ suc (rank p l)) × (g ≤ rank p l))
      low h = inr (rw h (omega arith), rank_down p a l (below-not-above p a h))

      high : below a p ≡ true → ((rank p (a ∷ l) ≡ rank p l) × (rank p l + 1 ≤ g)) ⊎ ((rank p (a ∷ l) ≡ suc (rank p l)) × (g ≤ rank p l))
      high h = inl (rw (below-not-above a p h) (omega arith), rank_less a p l h i e)

  own : rank a (a ∷ l) ≡ g
  own = rw (below_self a) (omega arith)

  test_many : (m : ℕ) → g < m → (i : ℕ) (p : Revision) → get_elem? l i ≡ some p → ltb (rank p (a ∷ l)) m ≡ ltb (rank p l) (m - 1)
  test_many m h i p e = same-lt (rank p (a ∷ l)) m (rank p l) (m - 1)
      (λ k. ⊎_elim (λ s. omega (arith, s.0, s.1)) (λ s. omega (arith, s.0, s.1)) (side i p e))
      (λ k. ⊎_elim (λ s. omega (arith, s.0, s.1)) (λ s. omega (arith, s.0, s.1)) (side i p e))

  test-few : (m : ℕ) → m ≤ g → (i : ℕ) (p : Revision) → get_elem? l i ≡ some p → ltb (rank p (a ∷ l)) m ≡ ltb (rank p l) m
  test-few m h i p e = same-lt (rank p (a ∷ l)) m (rank p l) m
      (λ k. ⊎_elim (λ s. omega (arith, s.0, s.1)) (λ s. omega (arith, s.0, s.1)) (side i p e))
      (λ k. ⊎_elim (λ s. omega (arith, s.0, s.1)) (λ s. omega (arith, s.0, s.1)) (side i p e))

  many : (m : ℕ) → g < m → ((n : ℕ) → tally (λ p. ltb (rank p l) n) l ≡ least n (length l)) → tally (λ p. ltb (rank p (a ∷ l)) m) (a ∷ l) ≡ least m (suc (length l))
  many m h ih =
      let one : ◌≡◌ {A = ℕ} (cond (ltb (rank a (a ∷ l)) m) 1 0) 1 = rw (own, lt-ltb g m h) in
      let rest : tally (λ p. ltb (rank p (a ∷ l)) m) l ≡ tally (λ p. ltb (rank p l) (m - 1)) l =
      total-same (λ p. cond (ltb (rank p (a ∷ l)) m) 1 0) (λ p. cond (ltb (rank p l) (m - 1)) 1 0) l
      (λ i p e. ap (λ (v : Bool). cond v 1 0) (test_many m h i p e)) in
      go (dec_lt (length l) (m - 1)) one (rest ∙ ih (m - 1))
    where
      go : Dec (length l < m - 1) → ◌≡◌ {A = ℕ} (cond (ltb (rank a (a ∷ l)) m) 1 0) 1 → tally (λ p. ltb (rank p (a ∷ l)) m) l ≡ least (m - 1) (length l) → tally (λ p. ltb (rank p (a ∷ l)) m) (a ∷ l) ≡ least m (suc (length l))
      go (yes k) one e = omega (arith, one, e, least-second (m - 1) (length l) (omega arith), least-second m (suc (length l)) (omega arith))
      go (no k) one e = omega (arith, one, e, least_first (m - 1) (length l) (omega arith), least_first m (suc (length l)) (omega arith))

  few : (m : ℕ) → m ≤ g → ((n : ℕ) → tally (λ p. ltb (rank p l) n) l ≡ least n (length l)) → tally (λ p. ltb (rank p (a ∷ l)) m) (a ∷ l) ≡ least m (suc (length l))
  few m h ih =
      let nil : ◌≡◌ {A = ℕ} (cond (ltb (rank a (a ∷ l)) m) 1 0) 0 = rw (own, le-ltb g m h) in
      let rest : tally (λ p. ltb (rank p (a ∷ l)) m) l ≡ tally (λ p. ltb (rank p l) m) l =
      total-same (λ p. cond (ltb (rank p (a ∷ l)) m) 1 0) (λ p. cond (ltb (rank p l) m) 1 0) l
      (λ i p e. ap (λ (v : Bool). cond v 1 0) (test-few m h i p e)) in
      let t : g ≤ length l = tally-most (below a) l in
      omega (arith, nil, rest, ih m, least_first m (length l) (omega arith), least_first m (suc (length l)) (omega arith))

pub ranked : (l : List Revision) → Distinct l → (m : ℕ) → tally (λ p. ltb (rank p l) m) l ≡ least m (length l)
ranked [] d m = sym (least-second m 0 (omega arith))
ranked (a ∷ l) d m = go (dec_lt (rank a l) m) (ranked l d.1)
  where
    go : Dec (rank a l < m) → ((n : ℕ) → tally (λ p. ltb (rank p l) n) l ≡ least n (length l)) → tally (λ p. ltb (rank p (a ∷ l)) m) (a ∷ l) ≡ least m (suc (length l))
    go (yes h) ih = many a l d.0 m h ih
    go (no h) ih = few a l d.0 m (omega arith) ih
