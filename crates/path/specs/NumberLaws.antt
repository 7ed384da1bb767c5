-- Laws of `Number`: the reader's answer is the first fault exactly where the number alone is wrong. What the reader computes is `Faulty`; that
-- its place marks what to mend, and that it is `NumberWrong`, said of the text, is in NumberLaws and WrongLaws of proofs/.
-- Assumes nothing.
use Rattle.std.specs.Prelude.{ℕ, ◌≡◌, refl, Bool, true, false, cond, List, [], ◌∷◌, ◌++◌, get_or}
use Rattle.std.proofs.Common.{sym, ap, ◌∙◌}
use Rattle.text.specs.PartLaws.{and_right}
use Rattle.path.specs.declared.Refusal.{Refusal}
use Rattle.path.specs.declared.Refusal.TheVariants.{NotAPath}
use Rattle.path.specs.Kinds.{Kind, kinds}
use Rattle.path.specs.Read.{suits_kind, faults_from, kind_faults, faults_as, why_not}
use Rattle.path.specs.Reads.{Has, here, later}
use Rattle.path.specs.ReadLaws.{clash_all, apart_all, kinds-apart, suits-clash}

-- some kind of the table fits the text in every part but its numbers, and w is the first fault of these
pub record Faulty (t : List ℕ) (w : Refusal) : Type 0 where
  pub kind : Kind
  pub listed : Has kinds kind
  pub suiting : suits_kind kind t ≡ true
  pub others : List Refusal
  pub first : faults_from 0 kind.parts t ≡ w ∷ others

-- ---- the first fault of a list of kinds is that of the kind that suits
abbrev First : List Kind → List ℕ → Refusal → Type 0
First es t w = (e : Kind) × Has es e × (suits_kind e t ≡ true) × (others : List Refusal) × (faults_from 0 e.parts t ≡ w ∷ others)

first-wrong : (es : List Kind) (t : List ℕ) (w : Refusal) → (w ≡ NotAPath → ⊥) → get_or (faults_as es t) 0 NotAPath ≡ w → First es t w
unfolding faults_as kind_faults
first-wrong [] t w n h = absurd (n (sym h))
first-wrong (e ∷ es) t w n h = go (suits_kind e t) refl (faults_from 0 e.parts t) refl h (λ k. first-wrong es t w n k)
  where
    more : First es t w → First (e ∷ es) t w
    more x = (x.0, later x.1, x.2, x.3, x.4)

    go : (v : Bool) → suits_kind e t ≡ v → (fs : List Refusal) → faults_from 0 e.parts t ≡ fs → get_or (cond v fs [] ++ faults_as es t) 0 NotAPath ≡ w
        → (get_or (faults_as es t) 0 NotAPath ≡ w → First es t w) → First (e ∷ es) t w
    go false s fs f k ih = more (ih k)
    go true s [] f k ih = more (ih k)
    go true s (x ∷ fs) f k ih = (e, here, s, fs, f ∙ ap (λ (y : Refusal). y ∷ fs) k)

wrong_first : {es : List Kind} {e : Kind} (t : List ℕ) (w : Refusal) (others : List Refusal) → Has es e → apart_all es ≡ true → suits_kind e t ≡ true → faults_from 0 e.parts t ≡ w ∷ others
    → get_or (faults_as es t) 0 NotAPath ≡ w
unfolding faults_as kind_faults
wrong_first t w others here a s f = rw (s, f)
wrong_first t w others (later {e} {x} {es} m) a s f = go (suits_kind x t) refl (wrong_first t w others m (and_right (clash_all x es) (apart_all es) a) s f)
  where
    go : (v : Bool) → suits_kind x t ≡ v → get_or (faults_as es t) 0 NotAPath ≡ w → get_or (cond v (faults_from 0 x.parts t) [] ++ faults_as es t) 0 NotAPath ≡ w
    go true g ih = absurd (suits-clash x t m a g s)
    go false g ih = ih

-- ---- so that there is a first fault exactly where the reader says so
module _ (t : List ℕ) (w : Refusal) where
  pub faulty-why : Faulty t w → why_not t ≡ w
  unfolding why_not
  faulty-why x = wrong_first t w x.others x.listed kinds-apart x.suiting x.first

  pub why_faulty : (w ≡ NotAPath → ⊥) → why_not t ≡ w → Faulty t w
  unfolding why_not
  why_faulty n h = let x = first-wrong kinds t w n h in record { kind = x.0; listed = x.1; suiting = x.2; others = x.3; first = x.4 }
