-- A component R-h is cut at its first dash: a number text has no dash, so the second number fails where another follows.
-- Assumes nothing.
use Rattle.std.specs.Prelude.{ℕ, suc, ◌+◌, ◌-◌, ◌^◌, ◌≤◌, ◌<◌, ◌≡◌, Bool, cond, ◌&&◌, List, [], ◌∷◌, eqb, ltb, get_or, take, drop, Some, None, Ok, Err, not, Option, position, unwrap_or}
use Rattle.std.proofs.Math.Path.{refl}
use Rattle.std.proofs.Common.{sym, ap, ◌∙◌, suc-add}
use Rattle.std.proofs.Math.Bool.{true, false, and-false}
use native.Mathlib.Omega.{arith}
use Rattle.std.proofs.Math.Dec.{leb}
use Rattle.std.proofs.Math.ListN.{length}
use borrow.Author.Tests.{ltb-false, ne_eqb, eqb-true, leb-true, leb-false}
use Rattle.std.specs.List.{position_or_len}
use Rattle.text.specs.Number.{Numeral, numeral_of, digits_at, digits_from, is_digit, with_digit}
use Rattle.text.specs.PartLaws.{and_left, part-rest}
use Rattle.text.specs.declared.NumberFault.TheVariants.{NotADigit, TooLarge}
use Rattle.identifiers.specs.Check.{is_value}
use Rattle.path.specs.Text.{cut_at, cut_step}
use Rattle.path.specs.Kinds.{pair}
use Rattle.path.specs.Read.{is_number, are_pair, fits}
use Rattle.read_pieces.specs.Pieces.{first_dash, revision_in}

-- ---- the first dash as the code finds it
pub dash-within : (s : List ℕ) → first_dash s ≤ length s
unfolding first_dash
dash-within [] = omega arith
dash-within (b ∷ s) = go (eqb b 45) (dash-within s)
  where
    go : (v : Bool) → first_dash s ≤ length s → cond v 0 (suc (first_dash s)) ≤ suc (length s)
    go true h = omega arith
    go false h = omega arith

position-dash : (s : List ℕ) → first_dash s ≡ position_or_len (λ b. eqb b 45) s
unfolding first_dash
position-dash [] = refl
position-dash (b ∷ s) = go (eqb b 45) (position-dash s)
  where
    go : (v : Bool) → first_dash s ≡ position_or_len (λ b. eqb b 45) s → cond v 0 (suc (first_dash s)) ≡ cond (not v) (1 + position_or_len (λ b. eqb b 45) s) 0
    go true h = refl
    go false h = omega arith

pub dash-found : (s : List ℕ) (r : Option ℕ) → r ≡ position (λ b. eqb b 45) s → unwrap_or r (length s) ≡ first_dash s
dash-found s r e = rw (e, ← position-dash s) (go (ltb (first_dash s) (length s)) refl)
  where
    go : (v : Bool) → ltb (first_dash s) (length s) ≡ v → unwrap_or (cond v (Some (first_dash s)) None) (length s) ≡ first_dash s
    go true h = refl
    go false h = omega (arith, dash-within s, ltb-false (first_dash s) (length s) h)

-- ---- the cut at dashes, by the first
pub cut-here : (s : List ℕ) → length s ≤ first_dash s → cut_at 45 s ≡ s ∷ []
unfolding cut_at first_dash
cut-here [] h = refl
cut-here (b ∷ s) h = go (eqb b 45) h (cut-here s)
  where
    go : (v : Bool) → suc (length s) ≤ cond v 0 (suc (first_dash s)) → (length s ≤ first_dash s → cut_at 45 s ≡ s ∷ []) → cut_step v b (cut_at 45 s) ≡ (b ∷ s) ∷ []
    go true k ih = absurd (omega arith)
    go false k ih = rw (ih (omega arith))

pub cut-there : (s : List ℕ) → first_dash s < length s → cut_at 45 s ≡ take (first_dash s) s ∷ cut_at 45 (drop (first_dash s + 1) s)
unfolding cut_at first_dash
cut-there [] h = absurd (omega arith)
cut-there (b ∷ s) h = go (eqb b 45) h (cut-there s)
  where
    go : (v : Bool) → cond v 0 (suc (first_dash s)) < suc (length s) → (first_dash s < length s → cut_at 45 s ≡ take (first_dash s) s ∷ cut_at 45 (drop (first_dash s + 1) s))
        → cut_step v b (cut_at 45 s) ≡ take (cond v 0 (suc (first_dash s))) (b ∷ s) ∷ cut_at 45 (drop (cond v 0 (suc (first_dash s)) + 1) (b ∷ s))
    go true k ih = refl
    go false k ih = rw (ih (omega arith), suc-add)

-- ---- a number text has no dash
digits-plain : (s : List ℕ) (v i : ℕ) → is_value (digits_from v i s) ≡ true → length s ≤ first_dash s
unfolding digits_from first_dash
digits-plain [] v i h = omega arith
digits-plain (b ∷ s) v i h = go (is_digit b) refl (ltb (with_digit v b) (2 ^ 64)) h (digits-plain s (with_digit v b) (i + 1))
  where
    go : (p : Bool) → is_digit b ≡ p → (q : Bool) → is_value (cond p (cond q (digits_from (with_digit v b) (i + 1) s) (Err (TooLarge i))) (Err (NotADigit i))) ≡ true
        → (is_value (digits_from (with_digit v b) (i + 1) s) ≡ true → length s ≤ first_dash s) → suc (length s) ≤ cond (eqb b 45) 0 (suc (first_dash s))
    go true e true k ih =
        let low = leb-true 48 b (and_left (leb 48 b) (leb b 57) e) in
        rw (ne_eqb b 45 (λ x. omega arith)) (omega (arith, ih k))
    go true e false k ih = let z : ◌≡◌ {A = ℕ} 0 1 = cc in absurd (omega arith)
    go false e q k ih = let z : ◌≡◌ {A = ℕ} 0 1 = cc in absurd (omega arith)

digits_at-plain : (s : List ℕ) (i : ℕ) → is_value (digits_at i s) ≡ true → length s ≤ first_dash s
unfolding digits_at
digits_at-plain [] i h = let z : ◌≡◌ {A = ℕ} 0 1 = cc in absurd (omega arith)
digits_at-plain (b ∷ s) i h = digits-plain (b ∷ s) 0 i h

number-plain : (s : List ℕ) → is_number s ≡ true → length s ≤ first_dash s
unfolding numeral_of first_dash
number-plain [] h = omega arith
number-plain (b ∷ s) h = go (eqb b 43) refl h
  where
    go : (v : Bool) → eqb b 43 ≡ v → is_value (cond v (digits_at 1 s) (digits_at 0 (b ∷ s))) ≡ true → suc (length s) ≤ first_dash (b ∷ s)
    go true e k = let f = eqb-true b 43 e in rw (ne_eqb b 45 (λ x. omega arith)) (omega (arith, digits_at-plain s 1 k))
    go false e k = digits_at-plain (b ∷ s) 0 k

-- ---- R-h by its first dash
three : (r x y : List ℕ) → are_pair (r ∷ (x ∷ cut_at 45 y)) ≡ false
unfolding cut_at
three r x [] = refl
three r x (b ∷ y) = go (eqb b 45) (cut_at 45 y)
  where
    go : (v : Bool) (cs : List (List ℕ)) → are_pair (r ∷ (x ∷ cut_step v b cs)) ≡ false
    go true cs = refl
    go false [] = refl
    go false (c ∷ cs) = refl

-- no dash
pub pair-none : (s : List ℕ) → length s ≤ first_dash s → fits pair s ≡ false
unfolding fits
pair-none s h = rw (cut-here s h)

module _ (s : List ℕ) (l : first_dash s < length s) where
  abbrev pub before : List ℕ
  before = take (first_dash s) s

  abbrev pub after : List ℕ
  after = drop (first_dash s + 1) s

  pub pair-by : fits pair s ≡ (is_number before && is_number after)
  unfolding fits
  pair-by = rw (cut-there s l) (go (leb (length after) (first_dash after)) refl)
    where
      go : (v : Bool) → leb (length after) (first_dash after) ≡ v → are_pair (before ∷ cut_at 45 after) ≡ (is_number before && is_number after)
      go true e = rw (cut-here after (leb-true _ _ e))
      go false e = rw (cut-there after (leb-false _ _ e), three before) (sym (ap (λ (b : Bool). is_number before && b) (plain (is_number after) refl (leb-false (length after) (first_dash after) e)) ∙ and-false (is_number before)))
        where
          plain : (b : Bool) → is_number after ≡ b → first_dash after < length after → is_number after ≡ false
          plain true h k = absurd (omega (arith, number-plain after h))
          plain false h k = h

  pub pair-before : get_or (cut_at 45 s) 0 [] ≡ before
  pair-before = rw (cut-there s l)

  pub pair-after : is_number after ≡ true → get_or (cut_at 45 s) 1 [] ≡ after
  pair-after h = rw (cut-there s l, cut-here after (number-plain after h))

-- ---- the reader's answers: its first dash is at d, and x and y are the readings of the parts before and after it
module _ (s : List ℕ) (d : ℕ) (e : d ≡ first_dash s) where
  pub revision-none : d ≡ length s → None ≡ revision_in s
  unfolding revision_in
  revision-none h = let l : length s ≤ first_dash s = omega arith in rw (pair-none s l)

  module _ (h : d ≡ length s → ⊥) where
    pub dash-inside : d < length s
    dash-inside = omega (arith, dash-within s)

    inside : first_dash s < length s
    inside = omega (arith, dash-inside)

    module _ (x : Numeral) (f : x ≡ numeral_of (take d s)) where
      first : numeral_of (before s inside) ≡ x
      first = rw (← e) (sym f)

      pub revision-no_number : is_value x ≡ false → None ≡ revision_in s
      unfolding revision_in
      revision-no_number k = rw (pair-by s inside, first, k)

      module _ (y : Numeral) (g : y ≡ numeral_of (take (length s - (d + 1)) (drop (d + 1) s))) where
        second : numeral_of (after s inside) ≡ y
        second = rw (← e) (sym (g ∙ rw part-rest))

        pub revision-no-height : is_value y ≡ false → None ≡ revision_in s
        unfolding revision_in
        revision-no-height k = rw (pair-by s inside, second, k, and-false)

        pub revision-some : (m n : ℕ) → x ≡ Ok m → y ≡ Ok n → Some (record { number = record { 0 = m }; height = record { 0 = n } }) ≡ revision_in s
        unfolding revision_in
        revision-some m n k l =
            let p : numeral_of (before s inside) ≡ Ok m = first ∙ k in
            let q : numeral_of (after s inside) ≡ Ok n = second ∙ l in
            rw (pair-by s inside, pair-before s inside, pair-after s inside (rw q), p, q)
