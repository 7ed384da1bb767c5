-- A rearranged list has no greater sum over its elements.
-- Assumes nothing.
use Rattle.std.specs.Prelude.{◌≡◌, refl, ◌⊎◌, List, [], ◌∷◌, ℕ, zero, suc, pred, ◌+◌, ◌<◌, ◌≤◌, length}
use Rattle.std.proofs.Common.{sym, ap, ◌∙◌, inl, inr, not-suc-le-zero, le_of_suc-le-suc, arith}
use Rattle.std.proofs.Math.Option.{some}
use Rattle.std.proofs.Math.Decide.{dec_lt}
use Rattle.std.proofs.Math.ListN.{get_elem?}
use Rattle.runs.specs.Rearranged.{Rearranged}
use Rattle.runs.specs.Total.{total}

shift : ℕ → ℕ → ℕ
shift i m = elim (dec_lt m i) [ yes _ ↦ m | no _ ↦ pred m ]

shift-cases : (i m : ℕ) → ((m < i) × (shift i m ≡ m)) ⊎ ((i ≤ m) × (shift i m ≡ pred m))
unfolding shift
shift-cases i m = go (dec_lt m i)
  where
    go : (d : Dec (m < i)) → ((m < i) × ((elim d as (λ _. ℕ) [ yes _ ↦ m | no _ ↦ pred m ]) ≡ m)) ⊎ ((i ≤ m) × ((elim d as (λ _. ℕ) [ yes _ ↦ m | no _ ↦ pred m ]) ≡ pred m))
    go (yes b) = inl (b, refl)
    go (no b) = inr (omega arith, refl)

module _ {A : Type 0} where
  abbrev remove : ℕ → List A → List A
  remove i [] = []
  remove zero (x ∷ l) = l
  remove (suc i) (x ∷ l) = x ∷ remove i l

  total-remove : (w : A → ℕ) (l : List A) (i : ℕ) (a : A) → get_elem? l i ≡ some a → total w l ≡ w a + total w (remove i l)
  total-remove w [] i a e = let z : ◌≡◌ {A = ℕ} 0 1 = cc in omega arith
  total-remove w (x ∷ l) zero a e = let k : x ≡ a = cc in rw k
  total-remove w (x ∷ l) (suc i) a e = omega (arith, total-remove w l i a e)

  length-remove : (l : List A) (i : ℕ) → i < length l → suc (length (remove i l)) ≡ length l
  length-remove [] i h = absurd (not-suc-le-zero h)
  length-remove (x ∷ l) zero h = refl
  length-remove (x ∷ l) (suc i) h = ap suc (length-remove l i (le_of_suc-le-suc h))

  remove-lt : (l : List A) (i m : ℕ) → m < i → get_elem? (remove i l) m ≡ get_elem? l m
  remove-lt [] i m h = refl
  remove-lt (x ∷ l) zero m h = absurd (not-suc-le-zero h)
  remove-lt (x ∷ l) (suc i) zero h = refl
  remove-lt (x ∷ l) (suc i) (suc m) h = remove-lt l i m (le_of_suc-le-suc h)

  remove_ge : (l : List A) (i m : ℕ) → i ≤ m → get_elem? (remove i l) m ≡ get_elem? l (suc m)
  remove_ge [] i m h = refl
  remove_ge (x ∷ l) zero m h = refl
  remove_ge (x ∷ l) (suc i) zero h = absurd (not-suc-le-zero h)
  remove_ge (x ∷ l) (suc i) (suc m) h = remove_ge l i m (le_of_suc-le-suc h)

  -- the elements of ds stand at different places of cs
  total_into : (w : A → ℕ) (ds cs : List A) (f : ℕ → ℕ)
      → ((j : ℕ) → j < length ds → f j < length cs)
      → ((i j : ℕ) → i < j → j < length ds → f i ≡ f j → ⊥)
      → ((j : ℕ) → j < length ds → get_elem? cs (f j) ≡ get_elem? ds j)
      → total w ds ≤ total w cs
  total_into w [] cs f lt inj eq = omega arith
  total_into w (d ∷ ds) cs f lt inj eq =
      let r = total_into w ds (remove i cs) (λ j. shift i (f (suc j))) lt' inj' eq' in
      omega (arith, total-remove w cs i d (eq 0 (omega arith)))
    where
      i : ℕ
      i = f 0

      apart : (j : ℕ) → j < length ds → f (suc j) ≡ i → ⊥
      apart j h e = inj 0 (suc j) (omega arith) (omega arith) (sym e)

      lt' : (j : ℕ) → j < length ds → shift i (f (suc j)) < length (remove i cs)
      lt' j h = go (shift-cases i (f (suc j)))
        where
          l : suc (length (remove i cs)) ≡ length cs
          l = length-remove cs i (lt 0 (omega arith))

          b : f (suc j) < length cs
          b = lt (suc j) (omega arith)

          go : ((f (suc j) < i) × (shift i (f (suc j)) ≡ f (suc j))) ⊎ ((i ≤ f (suc j)) × (shift i (f (suc j)) ≡ pred (f (suc j)))) → shift i (f (suc j)) < length (remove i cs)
          go (inl p) = omega (arith, l, p.0, p.1, lt 0 (omega arith))
          go (inr p) = let ne : f (suc j) ≡ i → ⊥ = apart j h in omega (arith, l, b, p.0, p.1, ne)

      inj' : (a b : ℕ) → a < b → b < length ds → shift i (f (suc a)) ≡ shift i (f (suc b)) → ⊥
      inj' a b h l e = go (shift-cases i (f (suc a))) (shift-cases i (f (suc b)))
        where
          na : f (suc a) ≡ i → ⊥
          na = apart a (omega arith)

          nb : f (suc b) ≡ i → ⊥
          nb = apart b l

          nab : f (suc a) ≡ f (suc b) → ⊥
          nab = inj (suc a) (suc b) (omega arith) (omega arith)

          go : ((f (suc a) < i) × (shift i (f (suc a)) ≡ f (suc a))) ⊎ ((i ≤ f (suc a)) × (shift i (f (suc a)) ≡ pred (f (suc a))))
              → ((f (suc b) < i) × (shift i (f (suc b)) ≡ f (suc b))) ⊎ ((i ≤ f (suc b)) × (shift i (f (suc b)) ≡ pred (f (suc b)))) → ⊥
          go (inl p) (inl q) = omega (arith, p, q, na, nb, nab)
          go (inl p) (inr q) = omega (arith, p, q, na, nb, nab)
          go (inr p) (inl q) = omega (arith, p, q, na, nb, nab)
          go (inr p) (inr q) = omega (arith, p, q, na, nb, nab)

      eq' : (j : ℕ) → j < length ds → get_elem? (remove i cs) (shift i (f (suc j))) ≡ get_elem? ds j
      eq' j h = go (shift-cases i (f (suc j)))
        where
          g : get_elem? cs (f (suc j)) ≡ get_elem? ds j
          g = eq (suc j) (omega arith)

          go : ((f (suc j) < i) × (shift i (f (suc j)) ≡ f (suc j))) ⊎ ((i ≤ f (suc j)) × (shift i (f (suc j)) ≡ pred (f (suc j)))) → get_elem? (remove i cs) (shift i (f (suc j))) ≡ get_elem? ds j
          go (inl p) = rw p.1 (remove-lt cs i (f (suc j)) p.0 ∙ g)
          go (inr p) =
              let ne : f (suc j) ≡ i → ⊥ = apart j h in
              let e : suc (pred (f (suc j))) ≡ f (suc j) = omega (arith, p, ne) in
              rw p.1 (remove_ge cs i (pred (f (suc j))) (omega (arith, p, ne)) ∙ ap (λ (n : ℕ). get_elem? cs n) e ∙ g)

  pub total_rearranged : (w : A → ℕ) {Same : A → A → Type 0} (cs ds : List A) → Rearranged Same cs ds → total w ds ≤ total w cs
  total_rearranged w cs ds R = total_into w ds cs R.from R.from_lt inj eq
    where
      inj : (i j : ℕ) → i < j → j < length ds → R.from i ≡ R.from j → ⊥
      inj i j h l e = omega (arith, ap R.to e, R.to_from i (omega arith), R.to_from j l)

      eq : (j : ℕ) → j < length ds → get_elem? cs (R.from j) ≡ get_elem? ds j
      eq j l = let e = R.same_call (R.from j) (R.from_lt j l) in sym (rw (R.to_from j l) at e)
