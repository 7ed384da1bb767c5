-- How a reader learns what a text fits: by a word, by an identifier, by a number, by two neighbours.
-- Assumes nothing.
use Rattle.std.specs.Prelude.{ℕ, ◌+◌, ◌≡◌, refl, Bool, true, false, cond, not, ◌&&◌, List, [], ◌∷◌, Option, Some, None, is_some, Ok}
use Rattle.std.proofs.Math.Path.{sym}
use Rattle.std.proofs.Common.{◌∙◌, arith, eq-eqb, ne_eqb}
use Rattle.std.proofs.lemmas.Bool.{not-true, not-false}
use Rattle.std.proofs.lemmas.Option.{none-some, cond_some}
use Rattle.text.specs.Number.{Numeral, numeral_of}
use Rattle.text.specs.Part.{same}
use Rattle.text.specs.PartLaws.{and_left, and_right}
use Rattle.identifiers.specs.Check.{is_value}
use Rattle.path.specs.Text.{component}
use Rattle.path.specs.Kinds.{Part, word, name, count}
use Rattle.path.specs.declared.name.Name.{Name}
use Rattle.path.specs.Read.{name_fault, number_in, fits, fit_from}

-- ---- what the code's tests tell. A word is asked for by `is_word`, whose answer is r
module _ (w c : List ℕ) (r : Bool) (e : r ≡ same c w) where
  pub word_if : (v : Bool) → r ≡ v → fits (word w) c ≡ v
  unfolding fits
  word_if v h = sym e ∙ h

  pub word-unless : (v : Bool) → not r ≡ not v → fits (word w) c ≡ v
  word-unless true h = word_if true (not-false r h)
  word-unless false h = word_if false (not-true r h)

-- an identifier by its check, whose answer is f
module _ (n : Name) (c d : List ℕ) (f : ℕ) (e : f ≡ name_fault n d) (g : d ≡ c) where
  pub name-no : (f ≡ 0 → ⊥) → fits (name n) c ≡ false
  unfolding fits
  name-no h = rw (← g, ← e) (ne_eqb f 0 h)

  pub name_yes : f ≡ 0 → fits (name n) c ≡ true
  unfolding fits
  name_yes h = rw (← g, ← e) (eq-eqb f 0 h)

-- a number by its reading x
module _ (c d : List ℕ) (x : Numeral) (e : x ≡ numeral_of d) (g : d ≡ c) where
  pub number-no : is_value x ≡ false → fits count c ≡ false
  unfolding fits
  number-no h = rw (← g, ← e) h

  pub number_yes : (n : ℕ) → x ≡ Ok n → (fits count c ≡ true) × (n ≡ number_in c)
  unfolding fits
  number_yes n h = let i : numeral_of c ≡ Ok n = rw (← g, ← e) h in (rw i, rw i)

-- ---- a run of parts from component k on, and x what holds after it
abbrev pub fit_then : ℕ → List Part → List ℕ → Bool → Bool
fit_then k [] t x = x
fit_then k (p ∷ ps) t x = fits p (component t k) && fit_then (k + 1) ps t x

-- a run that does not fit, and one that does
abbrev pub Fails : ℕ → List Part → List ℕ → Type 0
Fails k ps t = (x : Bool) → fit_then k ps t x ≡ false

abbrev pub Fits : ℕ → List Part → List ℕ → Type 0
Fits k ps t = (x : Bool) → fit_then k ps t x ≡ x

run-no : (k : ℕ) (ps : List Part) (t : List ℕ) → fit_from k ps t ≡ false → Fails k ps t
run-no k [] t h x = let z : ◌≡◌ {A = ℕ} 0 1 = cc in absurd (omega arith)
run-no k (p ∷ ps) t h x = go (fits p (component t k)) h (λ g. run-no (k + 1) ps t g x)
  where
    go : (v : Bool) → (v && fit_from (k + 1) ps t) ≡ false → (fit_from (k + 1) ps t ≡ false → fit_then (k + 1) ps t x ≡ false) → (v && fit_then (k + 1) ps t x) ≡ false
    go true g ih = ih g
    go false g ih = refl

run_yes : (k : ℕ) (ps : List Part) (t : List ℕ) → fit_from k ps t ≡ true → Fits k ps t
run_yes k [] t h x = refl
run_yes k (p ∷ ps) t h x = rw (and_left (fits p (component t k)) (fit_from (k + 1) ps t) h) (run_yes (k + 1) ps t (and_right (fits p (component t k)) (fit_from (k + 1) ps t) h) x)

-- what the answer of a run's reader tells: a is what the run carries
module _ {A : Type 0} (k : ℕ) (ps : List Part) (t : List ℕ) (a : A) where
  pub no_run : None ≡ cond (fit_from k ps t) (Some a) None → Fails k ps t
  no_run h = run-no k ps t (go (fit_from k ps t) h)
    where
      go : (v : Bool) → None ≡ cond v (Some a) None → v ≡ false
      go true e = absurd (none-some a e)
      go false e = refl

  pub is-run : (b : A) → Some b ≡ cond (fit_from k ps t) (Some a) None → Fits k ps t × (b ≡ a)
  is-run b h =
      let e = cond_some (fit_from k ps t) a b (sym h) in
      (run_yes k ps t e.0, sym e.1)

  -- the same of an answer of which only this is asked, whether it is there
  fitting : (v : Bool) → is_some (cond v (Some a) None) ≡ v
  fitting true = refl
  fitting false = refl

  pub lacks_run : (r : Option A) → r ≡ cond (fit_from k ps t) (Some a) None → is_some r ≡ false → Fails k ps t
  lacks_run r h e = run-no k ps t (sym (fitting (fit_from k ps t)) ∙ (rw (← h) e))

  pub has_run : (r : Option A) → r ≡ cond (fit_from k ps t) (Some a) None → is_some r ≡ true → Fits k ps t
  has_run r h e = run_yes k ps t (sym (fitting (fit_from k ps t)) ∙ (rw (← h) e))
