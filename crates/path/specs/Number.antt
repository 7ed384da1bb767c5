-- A text whose number alone is wrong: that one component of a kind is no number where every other is what its part asks for, and what the
-- place of the fault tells.
-- Assumes nothing.
use Rattle.std.specs.Prelude.{ℕ, ◌+◌, ◌-◌, ◌≤◌, ◌<◌, ◌≡◌, Bool, true, List, [], ◌∷◌, length, get_or}
use Rattle.text.specs.Fault.{has_place, numeral_fault, numeral_place, IsNumber, Mends}
use Rattle.text.specs.Number.{numeral_of}
use Rattle.path.specs.declared.Place.{Place}
use Rattle.path.specs.declared.Refusal.{Refusal}
use Rattle.path.specs.Text.{cut_at, components, component, place_at, part_of}
use Rattle.path.specs.Kinds.{Part, count, pair, Kind, kinds}
use Rattle.path.specs.Read.{refusal_of, place_of}
use Rattle.path.specs.Reads.{Has}

-- s, whose first byte stands at i, is no number text, and w is its fault: the number of it, and i and its own place
pub record Wrong (s : List ℕ) (i : ℕ) (w : Refusal) : Type 0 where
  pub no_number : IsNumber s → ⊥
  pub number : refusal_of w ≡ numeral_fault (numeral_of s)
  pub place : place_of w ≡ i + numeral_place (numeral_of s)

-- the component c, whose first byte stands at i, has a bad number, and w is its fault: S or n is the whole component; in R-h, with exactly
-- one dash, R comes first, and h only where R is a number text
pub data BadNumber : Part → List ℕ → ℕ → Refusal → Type 0 where
  whole : {c : List ℕ} {i : ℕ} {w : Refusal} → Wrong c i w → BadNumber count c i w
  before_dash : {c r h : List ℕ} {i : ℕ} {w : Refusal} → cut_at 45 c ≡ r ∷ (h ∷ []) → Wrong r i w → BadNumber pair c i w
  behind_dash : {c r h : List ℕ} {i : ℕ} {w : Refusal} → cut_at 45 c ≡ r ∷ (h ∷ []) → IsNumber r → Wrong h (i + length r + 1) w → BadNumber pair c i w

-- the part of a kind at k, counted from 0
abbrev pub part_at : Kind → ℕ → Part
part_at e k = get_or e.parts k count

-- some kind of the table has as many parts as the text has components, one of these has a bad number, whose fault is w, and every other is
-- what its part asks for, by the test `good`
pub record NumberWrong (good : Part → List ℕ → Bool) (t : List ℕ) (w : Refusal) : Type 0 where
  pub kind : Kind
  pub listed : Has kinds kind
  pub as_many : length (components t) ≡ length kind.parts
  pub at : ℕ
  pub inside : at < length kind.parts
  pub bad : BadNumber (part_at kind at) (component t at) (place_at t at).start w
  pub others : (k : ℕ) → k < length kind.parts → (k ≡ at → ⊥) → good (part_at kind k) (component t k) ≡ true

-- what w tells: it is 17, 18 or 19, and its place lies in a number text of t, or at its end, and says what to mend there
pub record Marks (t : List ℕ) (w : Refusal) : Type 0 where
  pub placed : has_place (refusal_of w) ≡ true
  pub number : Place
  pub inside : number.start + number.len ≤ length t
  pub from : number.start ≤ place_of w
  pub mends : Mends (part_of t number) (refusal_of w) (place_of w - number.start)
