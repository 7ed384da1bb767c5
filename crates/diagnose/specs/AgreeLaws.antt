-- How far two texts agree, one byte at a time.
-- Assumes nothing.
use Rattle.std.specs.Prelude.{ℕ, zero, suc, ◌+◌, ◌-◌, ◌≤◌, ◌<◌, ◌≡◌, refl, Bool, true, false, cond, eqb, leb, min, length, drop, get_or}
use Rattle.std.specs.Char.{LowercasesTo}
use Rattle.std.specs.Int.{IsOutOfRange}
use Rattle.std.proofs.Math.Decide.{dec_lt}
use Rattle.std.proofs.Common.{ap, ◌∙◌, inl, inr, arith, add-one}
use Rattle.std.proofs.Math.Bool.{and-false}
use mathlib.Core.List.{List, [], ◌∷◌, reverse, reverse_aux}
use Rattle.std.proofs.Math.ListN.{drop_of_length-le}
use Rattle.std.proofs.lemmas.List.{length-reverse}
use Rattle.std.proofs.Math.Seq.{drop-cons}
use borrow.Author.Tests.{eq-eqb, ne_eqb, lt-leb, le-leb}
use Rattle.diagnose.specs.Diagnosis.{cased, agree, until, alike_but}

-- ---- from place i on
module _ (fold : Bool) (a b : List ℕ) (i : ℕ) where
  agree-end : length a ≤ i → agree fold (drop i a) (drop i b) ≡ 0
  unfolding agree
  agree-end h = rw (drop_of_length-le a h)

  agree-short : i < length a → length b ≤ i → agree fold (drop i a) (drop i b) ≡ 0
  unfolding agree
  agree-short h k = rw (drop-cons a i 0 h, drop_of_length-le b k)

  -- past the end of one of them
  pub agree-past : min (length a) (length b) ≤ i → agree fold (drop i a) (drop i b) ≡ 0
  agree-past h = go (dec_lt i (length a))
    where
      go : Dec (i < length a) → agree fold (drop i a) (drop i b) ≡ 0
      go (yes p) = agree-short p (omega (arith, p, h))
      go (no p) = agree-end (omega (arith, p))

  module _ (h : i < length a) (k : i < length b) where
    pub agree-other : (cased fold (get_or a i 0) ≡ cased fold (get_or b i 0) → ⊥) → agree fold (drop i a) (drop i b) ≡ 0
    unfolding agree
    agree-other e = rw (drop-cons a i 0 h, drop-cons b i 0 k, ne_eqb (cased fold (get_or a i 0)) (cased fold (get_or b i 0)) e)

    pub agree-more : cased fold (get_or a i 0) ≡ cased fold (get_or b i 0) → agree fold (drop i a) (drop i b) ≡ suc (agree fold (drop (i + 1) a) (drop (i + 1) b))
    unfolding agree
    agree-more e = rw (drop-cons a i 0 h, drop-cons b i 0 k, eq-eqb (cased fold (get_or a i 0)) (cased fold (get_or b i 0)) e, add-one)

-- no more than either has
pub agree-first : (fold : Bool) (a b : List ℕ) → agree fold a b ≤ length a
unfolding agree
agree-first fold [] b = omega arith
agree-first fold (x ∷ a) [] = omega arith
agree-first fold (x ∷ a) (y ∷ b) = go (eqb (cased fold x) (cased fold y)) (agree-first fold a b)
  where
    go : (v : Bool) → agree fold a b ≤ length a → cond v (suc (agree fold a b)) 0 ≤ suc (length a)
    go true h = omega arith
    go false h = omega arith

pub agree-second : (fold : Bool) (a b : List ℕ) → agree fold a b ≤ length b
unfolding agree
agree-second fold [] b = omega arith
agree-second fold (x ∷ a) [] = omega arith
agree-second fold (x ∷ a) (y ∷ b) = go (eqb (cased fold x) (cased fold y)) (agree-second fold a b)
  where
    go : (v : Bool) → agree fold a b ≤ length b → cond v (suc (agree fold a b)) 0 ≤ suc (length b)
    go true h = omega arith
    go false h = omega arith

-- ---- from the back
aux_late : (l r : List ℕ) (i : ℕ) → get_or (reverse_aux l r) (length l + i) 0 ≡ get_or r i 0
aux_late [] r i = let e : 0 + i ≡ i = omega arith in rw e
aux_late (x ∷ l) r i = let e : suc (length l) + i ≡ length l + suc i = omega arith in rw e (aux_late l (x ∷ r) (suc i))

aux_early : (l r : List ℕ) (i : ℕ) → i < length l → get_or (reverse_aux l r) i 0 ≡ get_or l (length l - 1 - i) 0
aux_early [] r i h = absurd (omega arith)
aux_early (x ∷ l) r i h = go (length l - i) refl (aux_early l (x ∷ r) i)
  where
    go : (d : ℕ) → length l - i ≡ d → (i < length l → get_or (reverse_aux l (x ∷ r)) i 0 ≡ get_or l (length l - 1 - i) 0) → get_or (reverse_aux l (x ∷ r)) i 0 ≡ get_or (x ∷ l) (suc (length l) - 1 - i) 0
    go zero e ih =
        let f : i ≡ length l + 0 = omega arith in
        let g : suc (length l) - 1 - i ≡ 0 = omega arith in
        rw g (ap (λ (j : ℕ). get_or (reverse_aux l (x ∷ r)) j 0) f ∙ aux_late l (x ∷ r) 0)
    go (suc d) e ih =
        let g : suc (length l) - 1 - i ≡ suc (length l - 1 - i) = omega arith in
        rw g (ih (omega arith))

pub back_at : (l : List ℕ) (i : ℕ) → i < length l → get_or (reverse l) i 0 ≡ get_or l (length l - 1 - i) 0
back_at l i h = aux_early l [] i h

pub back-length : (l : List ℕ) → length (reverse l) ≡ length l
back-length l = length-reverse l

-- ---- bytes that pass a test
module _ (f : ℕ → Bool) (s : List ℕ) (i : ℕ) where
  pub until_end : length s ≤ i → until f (drop i s) ≡ 0
  unfolding until
  until_end h = rw (drop_of_length-le s h)

  pub until_stop : i < length s → f (get_or s i 0) ≡ false → until f (drop i s) ≡ 0
  unfolding until
  until_stop h e = rw (drop-cons s i 0 h, e)

  pub until-more : i < length s → f (get_or s i 0) ≡ true → until f (drop i s) ≡ suc (until f (drop (i + 1) s))
  unfolding until
  until-more h e = rw (drop-cons s i 0 h, e, add-one)

pub until-within : (f : ℕ → Bool) (s : List ℕ) → until f s ≤ length s
unfolding until
until-within f [] = omega arith
until-within f (b ∷ s) = go (f b) (until-within f s)
  where
    go : (v : Bool) → until f s ≤ length s → cond v (suc (until f s)) 0 ≤ suc (length s)
    go true h = omega arith
    go false h = omega arith

-- ---- a byte without its letter case
pub cased-low : (b r : ℕ) → LowercasesTo b r → r ≡ cased true b
cased-low b r (inl x) = x.1 ∙ rw (le-leb 65 b x.0.0, le-leb b 90 x.0.1)
cased-low b r (inr x) = x.1 ∙ go x.0
  where
    go : IsOutOfRange 65 90 b → b ≡ cased true b
    go (inl l) = rw (lt-leb 65 b l)
    go (inr l) = rw (lt-leb b 90 l, and-false (leb 65 b))

-- ---- the same text but for letter case
module _ (w c : List ℕ) where
  pub unlike-length : (length c ≡ length w → ⊥) → false ≡ alike_but w c
  unlike-length h = rw (ne_eqb (length c) (length w) h)

  pub like-length : length c ≡ length w → alike_but w c ≡ eqb (agree true w c) (length w)
  like-length h = rw (eq-eqb (length c) (length w) h)
