-- What the walk of an upgrade path finds after n.
-- Assumes nothing.
use Rattle.std.specs.Prelude.{ℕ, ◌≡◌, List, [], ◌∷◌, drop, Option, Some, None}
use Rattle.text.specs.Bytes.{bytes}
use Rattle.path.specs.Kinds.{Part, word}
use Rattle.walk_scan.specs.Tail.{none, after_of}
use Rattle.walk_families.specs.Client.{ended}

abbrev pub client_parts : List Part
client_parts = word (bytes "upgradedClient") ∷ []

abbrev pub cons_parts : List Part
cons_parts = word (bytes "upgradedConsState") ∷ []

-- the word after n
pub data UpgradeKind (t : List ℕ) (q : ℕ) : Option ℕ → Type 0 where
  client : after_of client_parts q (drop q t) ≡ ended → UpgradeKind t q (Some 18)
  cons : after_of cons_parts q (drop q t) ≡ ended → UpgradeKind t q (Some 19)
  neither : after_of client_parts q (drop q t) ≡ none → after_of cons_parts q (drop q t) ≡ none → UpgradeKind t q None
