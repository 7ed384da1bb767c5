-- Laws of `Number`, behind those of `specs/NumberLaws`: a text that fits a kind has no bad number, and the place of a first fault marks what
-- to mend. They stand here, since they rest on the definitions that an edit of must-fail/ turns.
-- Assumes nothing.
use Rattle.std.specs.Prelude.{ℕ, ◌+◌, ◌≤◌, ◌≡◌, refl, true, List, [], ◌∷◌, ◌++◌, eqb, length, drop, Option, Some, None, Ok, Err}
use Rattle.std.proofs.Common.{sym, ap, subst, ◌∙◌, append_assoc, arith, length-append, length-drop, take-append-drop, take_at, drop_at, drop-drop}
use Rattle.std.proofs.Math.Nat.{add-sub_cancel_left}
use Rattle.text.specs.Fault.{has_place, numeral_fault, numeral_place}
use Rattle.text.specs.FaultLaws.{number-mends}
use Rattle.text.specs.Number.{Numeral, numeral_of}
use Rattle.text.specs.PartLaws.{and_left, and_right}
use Rattle.text.specs.declared.NumberFault.TheVariants.{NoDigits, NotADigit, TooLarge}
use Rattle.identifiers.specs.Check.{is_value}
use Rattle.path.specs.declared.Path.{Path}
use Rattle.path.specs.declared.Refusal.{Refusal}
use Rattle.path.specs.declared.Refusal.TheVariants.{NoDigits as WithoutDigits, NotADigit as WithoutDigit, TooLarge as AboveAll}
use Rattle.path.specs.Text.{cut_at, join_by, component, place_at}
use Rattle.path.specs.TextLaws.{place-within, part-component, join-cut}
use Rattle.path.specs.Kinds.{Part, word, name, count, pair, Kind, kinds}
use Rattle.path.specs.Read.{fits, is_number, component_count, are_pair, all_from, suits, fits_kind, suits_kind, read_first, numeral_faults, pair_faults, part_faults, faults_from, refusal_of, place_of}
use Rattle.path.specs.ReadLaws.{kinds-apart, suits-same, is-reads}
use Rattle.path.specs.Number.{Marks}
use Rattle.path.specs.NumberLaws.{Faulty}

-- ---- a text that fits a kind has no bad number
value_none : (i : ℕ) (x : Numeral) → is_value x ≡ true → numeral_faults i x ≡ []
value_none i (Ok v) h = refl
value_none i (Err fault) h = let z : ◌≡◌ {A = ℕ} 0 1 = cc in absurd (omega arith)

pair-none : (i : ℕ) (cs : List (List ℕ)) → are_pair cs ≡ true → pair_faults i cs ≡ []
pair-none i [] h = refl
pair-none i (r ∷ []) h = refl
pair-none i (r ∷ (k ∷ [])) h = rw (value_none i (numeral_of r) (and_left _ _ h)) (value_none (i + length r + 1) (numeral_of k) (and_right (is_number r) _ h))
pair-none i (r ∷ (k ∷ (x ∷ xs))) h = refl

pub part_none : (p : Part) (i : ℕ) (c : List ℕ) → fits p c ≡ true → part_faults p i c ≡ []
unfolding fits part_faults
part_none (word w) i c h = refl
part_none (name n) i c h = refl
part_none count i c h = value_none i (numeral_of c) h
part_none pair i c h = pair-none i (cut_at 45 c) h

pub parts_none : (k : ℕ) (ps : List Part) (t : List ℕ) → all_from fits k ps t ≡ true → faults_from k ps t ≡ []
parts_none k [] t h = refl
parts_none k (p ∷ ps) t h = rw (part_none p (place_at t k).start (component t k) (and_left _ _ h)) (parts_none (k + 1) ps t (and_right (fits p (component t k)) _ h))

pub part-suits : (p : Part) (c : List ℕ) → fits p c ≡ true → suits p c ≡ true
unfolding suits
part-suits (word w) c h = h
part-suits (name n) c h = h
part-suits count c h = refl
part-suits pair c h = refl

pub parts_suit : (k : ℕ) (ps : List Part) (t : List ℕ) → all_from fits k ps t ≡ true → all_from suits k ps t ≡ true
parts_suit k [] t h = refl
parts_suit k (p ∷ ps) t h = rw (part-suits p (component t k) (and_left _ _ h)) (parts_suit (k + 1) ps t (and_right (fits p (component t k)) _ h))

fits-suits : (e : Kind) (t : List ℕ) → fits_kind e t ≡ true → (suits_kind e t ≡ true) × (faults_from 0 e.parts t ≡ [])
unfolding fits_kind suits_kind
fits-suits e t h = let f = and_right (eqb (component_count t) (length e.parts)) (all_from fits 0 e.parts t) h in (rw (and_left (eqb (component_count t) (length e.parts)) (all_from fits 0 e.parts t) h) (parts_suit 0 e.parts t f), parts_none 0 e.parts t f)

-- ---- and a text with a first fault fits no kind
module _ (t : List ℕ) (w : Refusal) where
  pub faulty-unread : Faulty t w → read_first kinds t ≡ None
  faulty-unread x = go (read_first kinds t) refl
    where
      go : (a : Option Path) → read_first kinds t ≡ a → a ≡ None
      go None h = refl
      go (Some p) h =
          let r = is-reads t p h in
          let k = fits-suits r.kind t r.fitting in
          let e = suits-same t x.listed r.listed kinds-apart x.suiting k.0 in
          let z : w ∷ x.others ≡ [] = sym x.first ∙ ap (λ (y : Kind). faults_from 0 y.parts t) e ∙ k.1 in
          let y : ◌≡◌ {A = ℕ} 0 1 = cc in absurd (omega arith)

-- ---- where the number text of a fault stands
-- the text c stands in t from i on
abbrev Stands : List ℕ → ℕ → List ℕ → Type 0
Stands t i c = (i ≤ length t) × (rest : List ℕ) × (drop i t ≡ c ++ rest)

stands-inside : (t : List ℕ) (i : ℕ) (c : List ℕ) → Stands t i c → i + length c ≤ length t
stands-inside t i c s = omega (arith, s.0, length-drop i t, ap length s.2, length-append c s.1)

-- the parts of a text that stands in t stand in t
stands-first : (t : List ℕ) (i : ℕ) (a b : List ℕ) → Stands t i (a ++ b) → Stands t i a
stands-first t i a b s = (s.0, b ++ s.1, s.2 ∙ append_assoc a b s.1)

stands-second : (t : List ℕ) (i : ℕ) (a b : List ℕ) → Stands t i (a ++ b) → Stands t (i + length a) b
stands-second t i a b s =
    let h = stands-inside t i a (stands-first t i a b s) in
    (h, s.1, sym (drop-drop (length a) i t) ∙ ap (drop (length a)) (s.2 ∙ append_assoc a b s.1) ∙ drop_at a (b ++ s.1) (length a) refl)

component-stands : (t : List ℕ) (k : ℕ) → Stands t (place_at t k).start (component t k)
component-stands t k =
    let u = drop (place_at t k).start t in
    let n = (place_at t k).len in
    (omega (arith, place-within t k), drop n u, rw (← part-component t k) (sym (take-append-drop n u)))

marks : (t : List ℕ) (i : ℕ) (c : List ℕ) (w : Refusal) → Stands t i c → refusal_of w ≡ numeral_fault (numeral_of c) → place_of w ≡ i + numeral_place (numeral_of c) → (numeral_fault (numeral_of c) ≡ 0 → ⊥) → has_place (refusal_of w) ≡ true → Marks t w
marks t i c w s r p f h =
    record {
      placed = h;
      number = record { start = i; len = length c };
      inside = stands-inside t i c s;
      from = omega (arith, p);
      mends = rw (s.2, take_at c s.1 (length c) refl, r, p, add-sub_cancel_left) (number-mends c f);
    }

numeral-marks : (t : List ℕ) (i : ℕ) (c : List ℕ) (w : Refusal) (others : List Refusal) → Stands t i c → numeral_faults i (numeral_of c) ≡ w ∷ others → Marks t w
numeral-marks t i c w others s h = go (numeral_of c) refl h
  where
    go : (x : Numeral) → numeral_of c ≡ x → numeral_faults i x ≡ w ∷ others → Marks t w
    go (Ok v) e k = let z : ◌≡◌ {A = ℕ} 0 1 = cc in absurd (omega arith)
    go (Err (NoDigits j)) e k = let z : WithoutDigits (i + j) ≡ w = cc in subst (Marks t) z (marks t i c (WithoutDigits (i + j)) s (rw e) (rw e) (rw e (λ f. omega arith)) refl)
    go (Err (NotADigit j)) e k = let z : WithoutDigit (i + j) ≡ w = cc in subst (Marks t) z (marks t i c (WithoutDigit (i + j)) s (rw e) (rw e) (rw e (λ f. omega arith)) refl)
    go (Err (TooLarge j)) e k = let z : AboveAll (i + j) ≡ w = cc in subst (Marks t) z (marks t i c (AboveAll (i + j)) s (rw e) (rw e) (rw e (λ f. omega arith)) refl)

-- the first of two lists of faults
either-marks : (t : List ℕ) (fs gs : List Refusal) (w : Refusal) (others : List Refusal) → fs ++ gs ≡ w ∷ others
    → ((rest : List Refusal) → fs ≡ w ∷ rest → Marks t w) → ((rest : List Refusal) → gs ≡ w ∷ rest → Marks t w) → Marks t w
either-marks t [] gs w others h f g = g others h
either-marks t (x ∷ fs) gs w others h f g = let z : x ≡ w = cc in f fs (ap (λ (y : Refusal). y ∷ fs) z)

pair-marks : (t : List ℕ) (i : ℕ) (cs : List (List ℕ)) (w : Refusal) (others : List Refusal) → Stands t i (join_by 45 cs) → pair_faults i cs ≡ w ∷ others → Marks t w
unfolding join_by
pair-marks t i [] w others s h = let z : ◌≡◌ {A = ℕ} 0 1 = cc in absurd (omega arith)
pair-marks t i (r ∷ []) w others s h = let z : ◌≡◌ {A = ℕ} 0 1 = cc in absurd (omega arith)
pair-marks t i (r ∷ (k ∷ [])) w others s h =
    either-marks t _ _ w others h
    (λ rest e. numeral-marks t i r w rest (stands-first t i r (45 ∷ k) s) e)
    (λ rest e. numeral-marks t (i + length r + 1) k w rest (stands-second t (i + length r) (45 ∷ []) k (stands-second t i r (45 ∷ k) s)) e)
pair-marks t i (r ∷ (k ∷ (x ∷ xs))) w others s h = let z : ◌≡◌ {A = ℕ} 0 1 = cc in absurd (omega arith)

part-marks : (t : List ℕ) (p : Part) (i : ℕ) (c : List ℕ) (w : Refusal) (others : List Refusal) → Stands t i c → part_faults p i c ≡ w ∷ others → Marks t w
unfolding part_faults
part-marks t (word v) i c w others s h = let z : ◌≡◌ {A = ℕ} 0 1 = cc in absurd (omega arith)
part-marks t (name n) i c w others s h = let z : ◌≡◌ {A = ℕ} 0 1 = cc in absurd (omega arith)
part-marks t count i c w others s h = numeral-marks t i c w others s h
part-marks t pair i c w others s h = pair-marks t i (cut_at 45 c) w others (rw (join-cut 45 c) s) h

parts-mark : (t : List ℕ) (k : ℕ) (ps : List Part) (w : Refusal) (others : List Refusal) → faults_from k ps t ≡ w ∷ others → Marks t w
parts-mark t k [] w others h = let z : ◌≡◌ {A = ℕ} 0 1 = cc in absurd (omega arith)
parts-mark t k (p ∷ ps) w others h =
    either-marks t _ _ w others h
    (λ rest e. part-marks t p (place_at t k).start (component t k) w rest (component-stands t k) e)
    (λ rest e. parts-mark t (k + 1) ps w rest e)

pub faulty-marks : (t : List ℕ) (w : Refusal) → Faulty t w → Marks t w
faulty-marks t w x = parts-mark t 0 x.kind.parts w x.others x.first
