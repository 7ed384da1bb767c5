-- What the reader computes of a bad number (`Faulty`) is what `NumberWrong` says of the text: one component is no number, and every other is
-- what its part asks for. It rests on one test over the table: no kind has two numbers' parts.
-- Assumes nothing.
use Rattle.std.specs.Prelude.{ℕ, zero, suc, ◌+◌, ◌<◌, ◌≡◌, refl, Bool, true, false, cond, ◌&&◌, List, [], ◌∷◌, ◌++◌, map, eqb, length, get_or, None, Ok, Err}
use Rattle.std.proofs.Common.{sym, ap, ◌∙◌, append-nil, arith}
use Rattle.std.proofs.Math.Path.{subst}
use borrow.Author.Tests.{eqb-true, eq-eqb}
use Rattle.text.specs.declared.Fault.{Fault}
use Rattle.text.specs.declared.NumberFault.TheVariants.{NoDigits, NotADigit, TooLarge}
use Rattle.text.specs.Fault.{has_place, numeral_fault, IsNumber}
use Rattle.text.specs.Number.{Numeral, numeral_of}
use Rattle.text.specs.PartLaws.{and_left, and_right}
use Rattle.path.specs.declared.Refusal.{Refusal}
use Rattle.path.specs.declared.Refusal.TheVariants.{TooLong, NotAscii, NotAPath, NoDigits as WithoutDigits, NotADigit as WithoutDigit, TooLarge as AboveAll}
use Rattle.path.specs.Text.{cut_at, component, place_at}
use Rattle.path.specs.Kinds.{Part, word, name, count, pair, Kind, kinds}
use Rattle.path.specs.Read.{fits, component_count, all_from, suits, suits_kind, numeral_faults, pair_faults, part_faults, faults_from, why_not, read_first, refusal_of, place_of, as_fault}
use Rattle.path.specs.Reads.{Has}
use Rattle.path.specs.ReadLaws.{has_both}
use Rattle.path.specs.Number.{Wrong, BadNumber, whole, before_dash, behind_dash, NumberWrong, Marks}
use Rattle.path.specs.NumberLaws.{Faulty, faulty-why, why_faulty}
use Rattle.path.proofs.NumberLaws.{part_none, parts_none, part-suits, parts_suit, faulty-unread, faulty-marks}

-- ---- no kind has two parts that are numbers
abbrev fixed : Part → Bool
fixed (word w) = true
fixed (name n) = true
fixed count = false
fixed pair = false

abbrev all_fixed : List Part → Bool
all_fixed [] = true
all_fixed (p ∷ ps) = fixed p && all_fixed ps

abbrev one_number : List Part → Bool
one_number [] = true
one_number (p ∷ ps) = cond (fixed p) (one_number ps) (all_fixed ps)

one-all : map (λ e. one_number e.parts) kinds ≡ map (λ e. true) kinds
unfolding kinds
one-all = refl

one_number_lem : {e : Kind} → Has kinds e → one_number e.parts ≡ true
one_number_lem m = has_both (λ e. one_number e.parts) (λ e. true) m one-all

-- ---- a refusal with a place is told by its fault
abbrev pub as_refusal : Fault → Refusal
as_refusal f = cond (eqb f.refusal 17) (WithoutDigits f.place) (cond (eqb f.refusal 18) (WithoutDigit f.place) (AboveAll f.place))

pub back-fault : (w : Refusal) → has_place (refusal_of w) ≡ true → as_refusal (as_fault w) ≡ w
back-fault TooLong h = let z : ◌≡◌ {A = ℕ} 0 1 = cc in absurd (omega (arith, z))
back-fault NotAscii h = let z : ◌≡◌ {A = ℕ} 0 1 = cc in absurd (omega (arith, z))
back-fault NotAPath h = let z : ◌≡◌ {A = ℕ} 0 1 = cc in absurd (omega (arith, z))
back-fault (WithoutDigits i) h = refl
back-fault (WithoutDigit i) h = refl
back-fault (AboveAll i) h = refl

same-fault : (w v : Refusal) → has_place (refusal_of w) ≡ true → has_place (refusal_of v) ≡ true → refusal_of w ≡ refusal_of v → place_of w ≡ place_of v → w ≡ v
same-fault w v h k r p =
    let e : as_fault w ≡ as_fault v = cc in
    sym (back-fault w h) ∙ ap as_refusal e ∙ back-fault v k

-- ---- one number text
value-clash : (s : List ℕ) (x : Numeral) → numeral_of s ≡ x → (numeral_fault x ≡ 0 → ⊥) → IsNumber s → ⊥
value-clash s x e f v = f (ap numeral_fault (sym e ∙ v.1))

numeral-wrong : (s : List ℕ) (i : ℕ) (w : Refusal) (others : List Refusal) → numeral_faults i (numeral_of s) ≡ w ∷ others → Wrong s i w
numeral-wrong s i w others h = go (numeral_of s) refl h
  where
    go : (x : Numeral) → numeral_of s ≡ x → numeral_faults i x ≡ w ∷ others → Wrong s i w
    go (Ok v) e k = let z : ◌≡◌ {A = ℕ} 0 1 = cc in absurd (omega arith)
    go (Err (NoDigits j)) e k = let z : WithoutDigits (i + j) ≡ w = cc in record { no_number = value-clash s (Err (NoDigits j)) e (λ f. omega arith); number = rw (← z, e); place = rw (← z, e) }
    go (Err (NotADigit j)) e k = let z : WithoutDigit (i + j) ≡ w = cc in record { no_number = value-clash s (Err (NotADigit j)) e (λ f. omega arith); number = rw (← z, e); place = rw (← z, e) }
    go (Err (TooLarge j)) e k = let z : AboveAll (i + j) ≡ w = cc in record { no_number = value-clash s (Err (TooLarge j)) e (λ f. omega arith); number = rw (← z, e); place = rw (← z, e) }

wrong_numeral : (s : List ℕ) (i : ℕ) (w : Refusal) → Wrong s i w → numeral_faults i (numeral_of s) ≡ w ∷ []
wrong_numeral s i w x = go (numeral_of s) refl
  where
    go : (y : Numeral) → numeral_of s ≡ y → numeral_faults i y ≡ w ∷ []
    go (Ok v) e = absurd (x.no_number (v, e))
    go (Err (NoDigits j)) e = ap (λ (v : Refusal). v ∷ []) (same-fault (WithoutDigits (i + j)) w refl (rw (x.number, e)) (sym (x.number ∙ rw e)) (sym (x.place ∙ rw e)))
    go (Err (NotADigit j)) e = ap (λ (v : Refusal). v ∷ []) (same-fault (WithoutDigit (i + j)) w refl (rw (x.number, e)) (sym (x.number ∙ rw e)) (sym (x.place ∙ rw e)))
    go (Err (TooLarge j)) e = ap (λ (v : Refusal). v ∷ []) (same-fault (AboveAll (i + j)) w refl (rw (x.number, e)) (sym (x.number ∙ rw e)) (sym (x.place ∙ rw e)))

-- ---- one component
-- R's fault comes before that of h
pair-wrong : (c : List ℕ) (i : ℕ) (cs : List (List ℕ)) (w : Refusal) (others : List Refusal) → cut_at 45 c ≡ cs → pair_faults i cs ≡ w ∷ others → BadNumber pair c i w
pair-wrong c i [] w others e h = let z : ◌≡◌ {A = ℕ} 0 1 = cc in absurd (omega arith)
pair-wrong c i (r ∷ []) w others e h = let z : ◌≡◌ {A = ℕ} 0 1 = cc in absurd (omega arith)
pair-wrong c i (r ∷ (k ∷ [])) w others e h = go (numeral_of r) refl h
  where
    go : (x : Numeral) → numeral_of r ≡ x → numeral_faults i x ++ numeral_faults (i + length r + 1) (numeral_of k) ≡ w ∷ others → BadNumber pair c i w
    go (Ok v) d q = behind_dash e (v, d) (numeral-wrong k (i + length r + 1) w others q)
    go (Err (NoDigits j)) d q = let z : WithoutDigits (i + j) ≡ w = cc in before_dash e (numeral-wrong r i w [] (rw (d, z)))
    go (Err (NotADigit j)) d q = let z : WithoutDigit (i + j) ≡ w = cc in before_dash e (numeral-wrong r i w [] (rw (d, z)))
    go (Err (TooLarge j)) d q = let z : AboveAll (i + j) ≡ w = cc in before_dash e (numeral-wrong r i w [] (rw (d, z)))
pair-wrong c i (r ∷ (k ∷ (x ∷ xs))) w others e h = let z : ◌≡◌ {A = ℕ} 0 1 = cc in absurd (omega arith)

-- a bad number is the first fault of its component
bad_faults : (p : Part) (c : List ℕ) (i : ℕ) (w : Refusal) → BadNumber p c i w → (rest : List Refusal) × (part_faults p i c ≡ w ∷ rest)
unfolding part_faults
bad_faults (word _) c i w x = elim x [ ]
bad_faults (name _) c i w x = elim x [ ]
bad_faults count c i w (whole x) = ([], wrong_numeral c i w x)
bad_faults pair c i w (before_dash {r = r} {h = h} e x) = (numeral_faults (i + length r + 1) (numeral_of h), rw (e, wrong_numeral r i w x))
bad_faults pair c i w (behind_dash {r = r} {h = h} e n x) = ([], rw (e, n.1, wrong_numeral h (i + length r + 1) w x))

bad-suits : (p : Part) (c : List ℕ) (i : ℕ) (w : Refusal) → BadNumber p c i w → suits p c ≡ true
unfolding suits
bad-suits (word _) c i w x = elim x [ ]
bad-suits (name _) c i w x = elim x [ ]
bad-suits count c i w (whole x) = refl
bad-suits pair c i w (before_dash e x) = refl
bad-suits pair c i w (behind_dash e n x) = refl

-- ---- the components from the k-th on
abbrev Bad : ℕ → List Part → List ℕ → Refusal → ℕ → Type 0
Bad k ps t w j = (m : ℕ) → m ≡ k + j → BadNumber (get_or ps j count) (component t m) (place_at t m).start w

abbrev Others : ℕ → List Part → List ℕ → ℕ → Type 0
Others k ps t j = (i m : ℕ) → m ≡ k + i → i < length ps → (i ≡ j → ⊥) → fits (get_or ps i count) (component t m) ≡ true

abbrev All : ℕ → List Part → List ℕ → Type 0
All k ps t = (i m : ℕ) → m ≡ k + i → i < length ps → fits (get_or ps i count) (component t m) ≡ true

all_fit : (k : ℕ) (ps : List Part) (t : List ℕ) → All k ps t → all_from fits k ps t ≡ true
all_fit k [] t h = refl
all_fit k (p ∷ ps) t h = rw (h 0 k (omega arith) (omega arith)) (all_fit (k + 1) ps t (λ i m e l. h (suc i) m (omega (arith, e)) (omega (arith, l))))

fit_all : (k : ℕ) (ps : List Part) (t : List ℕ) → all_from fits k ps t ≡ true → All k ps t
fit_all k [] t h i m e l = absurd (omega (arith, l))
fit_all k (p ∷ ps) t h zero m e l = subst (λ (n : ℕ). fits p (component t n) ≡ true) (omega (arith, e)) (and_left (fits p (component t k)) _ h)
fit_all k (p ∷ ps) t h (suc i) m e l = fit_all (k + 1) ps t (and_right (fits p (component t k)) _ h) i m (omega (arith, e)) (omega (arith, l))

-- parts that are no numbers fit where they suit
fixed-fits : (p : Part) (c : List ℕ) → fixed p ≡ true → suits p c ≡ true → fits p c ≡ true
unfolding suits
fixed-fits (word w) c f h = h
fixed-fits (name n) c f h = h
fixed-fits count c f h = let z : ◌≡◌ {A = ℕ} 0 1 = cc in absurd (omega arith)
fixed-fits pair c f h = let z : ◌≡◌ {A = ℕ} 0 1 = cc in absurd (omega arith)

fixed-all : (k : ℕ) (ps : List Part) (t : List ℕ) → all_fixed ps ≡ true → all_from suits k ps t ≡ true → all_from fits k ps t ≡ true
fixed-all k [] t f h = refl
fixed-all k (p ∷ ps) t f h = rw (fixed-fits p (component t k) (and_left (fixed p) _ f) (and_left (suits p (component t k)) _ h)) (fixed-all (k + 1) ps t (and_right (fixed p) _ f) (and_right (suits p (component t k)) _ h))

pub record FoundAt (k : ℕ) (ps : List Part) (t : List ℕ) (w : Refusal) : Type 0 where
  pub at : ℕ
  pub inside : at < length ps
  pub bad : Bad k ps t w at
  pub others : Others k ps t at

-- the bad number stands behind a part that fits
module _ (k : ℕ) (p : Part) (ps : List Part) (t : List ℕ) (w : Refusal) where
  behind : fits p (component t k) ≡ true → FoundAt (k + 1) ps t w → FoundAt k (p ∷ ps) t w
  behind f y = record { at = suc y.at; inside = omega (arith, y.inside); bad = λ m d. y.bad m (omega (arith, d)); others = one }
    where
      one : (i m : ℕ) → m ≡ k + i → i < suc (length ps) → (i ≡ suc y.at → ⊥) → fits (get_or (p ∷ ps) i count) (component t m) ≡ true
      one zero m d l n = subst (λ (u : ℕ). fits p (component t u) ≡ true) (omega (arith, d)) f
      one (suc i) m d l n = y.others i m (omega (arith, d)) (omega (arith, l)) (λ z. n (ap suc z))

  -- or it is the part's own
  own : all_from fits (k + 1) ps t ≡ true → BadNumber p (component t k) (place_at t k).start w → FoundAt k (p ∷ ps) t w
  own f b = record { at = 0; inside = omega arith; bad = λ m d. subst (λ (u : ℕ). BadNumber p (component t u) (place_at t u).start w) (omega (arith, d)) b; others = one }
    where
      one : (i m : ℕ) → m ≡ k + i → i < suc (length ps) → (i ≡ 0 → ⊥) → fits (get_or (p ∷ ps) i count) (component t m) ≡ true
      one zero m d l n = absurd (n refl)
      one (suc i) m d l n = fit_all (k + 1) ps t f i m (omega (arith, d)) (omega (arith, l))

found : (k : ℕ) (ps : List Part) (t : List ℕ) (w : Refusal) (rest : List Refusal) → one_number ps ≡ true → all_from suits k ps t ≡ true → faults_from k ps t ≡ w ∷ rest → FoundAt k ps t w
unfolding part_faults
found k [] t w rest o s f = let z : ◌≡◌ {A = ℕ} 0 1 = cc in absurd (omega arith)
found k (word v ∷ ps) t w rest o s f = behind k (word v) ps t w (fixed-fits (word v) (component t k) refl (and_left _ _ s)) (found (k + 1) ps t w rest o (and_right (suits (word v) (component t k)) _ s) f)
found k (name n ∷ ps) t w rest o s f = behind k (name n) ps t w (fixed-fits (name n) (component t k) refl (and_left _ _ s)) (found (k + 1) ps t w rest o (and_right (suits (name n) (component t k)) _ s) f)
found k (count ∷ ps) t w rest o s f =
    let a = fixed-all (k + 1) ps t o (and_right (suits count (component t k)) _ s) in
    own k count ps t w a (whole (numeral-wrong (component t k) (place_at t k).start w rest (rw (parts_none (k + 1) ps t a, append-nil) at f)))
found k (pair ∷ ps) t w rest o s f =
    let a = fixed-all (k + 1) ps t o (and_right (suits pair (component t k)) _ s) in
    own k pair ps t w a (pair-wrong (component t k) (place_at t k).start (cut_at 45 (component t k)) w rest refl (rw (parts_none (k + 1) ps t a, append-nil) at f))

-- the other way: the faults of the text begin with it
lost : (k : ℕ) (ps : List Part) (t : List ℕ) (w : Refusal) (j : ℕ) → j < length ps → Bad k ps t w j → Others k ps t j → (all_from suits k ps t ≡ true) × ((rest : List Refusal) × (faults_from k ps t ≡ w ∷ rest))
lost k [] t w j l b o = absurd (omega (arith, l))
lost k (p ∷ ps) t w zero l b o =
    let c = b k (omega arith) in
    let f = bad_faults p (component t k) (place_at t k).start w c in
    let a = all_fit (k + 1) ps t (λ i m d h. o (suc i) m (omega (arith, d)) (omega (arith, h)) (λ z. omega (arith, z))) in
    (rw (bad-suits p (component t k) (place_at t k).start w c) (parts_suit (k + 1) ps t a), (f.0 ++ faults_from (k + 1) ps t, rw f.1))
lost k (p ∷ ps) t w (suc j) l b o =
    let f = o 0 k (omega arith) (omega arith) (λ z. omega (arith, z)) in
    let r = lost (k + 1) ps t w j (omega (arith, l)) (λ m d. b m (omega (arith, d))) (λ i m d h n. o (suc i) m (omega (arith, d)) (omega (arith, h)) (λ z. n (omega (arith, z)))) in
    (rw (part-suits p (component t k) f) r.0, (r.1.0, rw (part_none p (place_at t k).start (component t k) f) r.1.1))

-- ---- what is computed is what is said
module _ (t : List ℕ) (w : Refusal) where
  pub faulty-wrong : Faulty t w → NumberWrong fits t w
  unfolding suits_kind
  faulty-wrong x =
      let y = found 0 x.kind.parts t w x.others (one_number_lem x.listed) (and_right (eqb (component_count t) (length x.kind.parts)) _ x.suiting) x.first in
      record {
        kind = x.kind;
        listed = x.listed;
        as_many = eqb-true (component_count t) (length x.kind.parts) (and_left _ (all_from suits 0 x.kind.parts t) x.suiting);
        at = y.at;
        inside = y.inside;
        bad = y.bad y.at (omega arith);
        others = λ k l n. y.others k k (omega arith) l n;
      }

  pub wrong_faulty : NumberWrong fits t w → Faulty t w
  unfolding suits_kind
  wrong_faulty x =
      let y = lost 0 x.kind.parts t w x.at x.inside (λ m d. subst (λ (u : ℕ). BadNumber (get_or x.kind.parts x.at count) (component t u) (place_at t u).start w) (omega (arith, d)) x.bad) (λ i m d l n. subst (λ (u : ℕ). fits (get_or x.kind.parts i count) (component t u) ≡ true) (omega (arith, d)) (x.others i l n)) in
      record { kind = x.kind; listed = x.listed; suiting = rw (eq-eqb _ _ x.as_many) y.0; others = y.1.0; first = y.1.1 }

  -- so the reader says it exactly where it holds, and the place marks what to mend
  pub wrong-why : NumberWrong fits t w → why_not t ≡ w
  wrong-why x = faulty-why t w (wrong_faulty x)

  pub why-wrong : (w ≡ NotAPath → ⊥) → why_not t ≡ w → NumberWrong fits t w
  why-wrong n h = faulty-wrong (why_faulty t w n h)

  pub wrong-unread : NumberWrong fits t w → read_first kinds t ≡ None
  wrong-unread x = faulty-unread t w (wrong_faulty x)

  pub wrong-marks : NumberWrong fits t w → Marks t w
  wrong-marks x = faulty-marks t w (wrong_faulty x)
