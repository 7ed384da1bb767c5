-- What the first bytes of a text say of the kinds 11 to 17.
-- Assumes nothing.
use Rattle.std.specs.Prelude.{ℕ, ◌≤◌, ◌≡◌, List, [], ◌∷◌, false, length, drop, Option}
use Rattle.text.specs.Bytes.{bytes}
use Rattle.text.specs.Part.{starts_with}
use Rattle.path.specs.declared.PathView.{PathView}
use Rattle.path.specs.Read.{read_first}
use Rattle.walk_scan.specs.Tail.{tail_of}
use Rattle.walk_families.specs.Flat.{walked, flat, listed, ends_of}
use Rattle.walk.specs.declared.opening.Opening.{Opening}

-- a text that starts with none of hs
abbrev pub NoneOf : List (List ℕ) → List ℕ → Type 0
NoneOf [] t = Unit {0}
NoneOf (h ∷ hs) t = (starts_with h t ≡ false) × NoneOf hs t

-- how kinds 11 to 17 begin
abbrev pub openings : List (List ℕ)
openings = bytes "channelEnds/ports/" ∷ bytes "nextSequenceSend/ports/" ∷ bytes "nextSequenceRecv/ports/" ∷ bytes "nextSequenceAck/ports/" ∷ bytes "commitments/ports/" ∷ bytes "acks/ports/" ∷ bytes "receipts/ports/" ∷ []

-- the opening of r stands there, and what follows it decides what the text is
pub record Opens (t : List ℕ) (r : Opening) : Type 0 where
  pub within : r.at ≤ length t
  pub decides : (w : Option PathView) → w ≡ walked r.kind (tail_of (ends_of r.kind) r.at (drop r.at t)) → w ≡ flat t (read_first listed t)
