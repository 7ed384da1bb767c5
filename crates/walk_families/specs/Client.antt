-- What the walk of a client's path finds, step by step.
-- Assumes nothing.
use Rattle.std.specs.Prelude.{ℕ, ◌≡◌, List, [], ◌∷◌, Bool, true, drop, Option, Some, None}
use Rattle.text.specs.Bytes.{bytes}
use Rattle.path.specs.declared.Place.{Place}
use Rattle.path.specs.declared.name.Name.TheVariants.{Client}
use Rattle.path.specs.declared.PathView.{PathView}
use Rattle.path.specs.Text.{nowhere}
use Rattle.path.specs.Kinds.{Part, word, pair, Carried, carried, set_name}
use Rattle.path.specs.View.{seen}
use Rattle.walk_scan.specs.Tail.{Tail, none, some, tail_of, after_of}

-- the parts of kinds 6 and 7 after R-h, and those of 4 and 8 after the client
abbrev pub time_parts : List Part
time_parts = word (bytes "processedTime") ∷ []

abbrev pub height_parts : List Part
height_parts = word (bytes "processedHeight") ∷ []

abbrev pub state_parts : List Part
state_parts = word (bytes "clientState") ∷ []

abbrev pub link_parts : List Part
link_parts = word (bytes "connections") ∷ []

-- a tail that carries nothing
abbrev pub ended : Tail
ended = some (carried nowhere nowhere 0 0) true

-- one word more after the client
pub data WordKind (t : List ℕ) (e : ℕ) : Option ℕ → Type 0 where
  state : after_of state_parts e (drop e t) ≡ ended → WordKind t e (Some 4)
  links : after_of link_parts e (drop e t) ≡ ended → WordKind t e (Some 8)
  neither : after_of state_parts e (drop e t) ≡ none → after_of link_parts e (drop e t) ≡ none → WordKind t e None

-- what follows R-h
pub data UpdateKind (t : List ℕ) (q : ℕ) : Option ℕ → Type 0 where
  over : after_of [] q (drop q t) ≡ ended → UpdateKind t q (Some 5)
  time : after_of time_parts q (drop q t) ≡ ended → UpdateKind t q (Some 6)
  height : after_of height_parts q (drop q t) ≡ ended → UpdateKind t q (Some 7)
  other : after_of [] q (drop q t) ≡ none → after_of time_parts q (drop q t) ≡ none → after_of height_parts q (drop q t) ≡ none → UpdateKind t q None

-- R-h and what follows it, after a client of n bytes
abbrev pub owned : ℕ → ℕ → Carried Place → Bool → PathView
owned k n v x = seen k x (set_name Client (record { start = 8; len = n }) v)

pub data Consensus (t : List ℕ) (at n : ℕ) : Option PathView → Type 0 where
  unread : tail_of (pair ∷ []) at (drop at t) ≡ none → tail_of (pair ∷ time_parts) at (drop at t) ≡ none → tail_of (pair ∷ height_parts) at (drop at t) ≡ none → Consensus t at n None
  five : (v : Carried Place) (x : Bool) → tail_of (pair ∷ []) at (drop at t) ≡ some v x → Consensus t at n (Some (owned 5 n v x))
  six : (v : Carried Place) (x : Bool) → tail_of (pair ∷ time_parts) at (drop at t) ≡ some v x → Consensus t at n (Some (owned 6 n v x))
  seven : (v : Carried Place) (x : Bool) → tail_of (pair ∷ height_parts) at (drop at t) ≡ some v x → Consensus t at n (Some (owned 7 n v x))
