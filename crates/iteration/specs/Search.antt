-- What the functions below the scans are for: one step of the check of a block, and the place that the search finds.
-- Assumes nothing.
use Rattle.std.specs.Prelude.{◌≡◌, Bool, true, false, cond, not, List, ℕ, ◌*◌, ◌/◌, ◌<◌, ◌≤◌, length}
use Rattle.std.proofs.Math.Option.{Option, none, some}
use Rattle.path.specs.declared.Revision.{Revision}
use Rattle.path.specs.Revision.{below}
use Rattle.iteration.specs.Key.{revision_at}
use Rattle.iteration.specs.Block.{follows}

-- there is a key, and it is above the last one
abbrev pub rises : Option Revision → Option Revision → Bool
rises last none = false
rises last (some q) = follows last q

-- the key number j of a block
abbrev pub key_no : List ℕ → ℕ → Revision
key_no s j = revision_at (38 * j) s

-- a key that is below the pair, or, where `equal` says so, below it or equal to it
abbrev pub passed : Bool → Revision → Revision → Bool
passed equal pair key = cond equal (not (below pair key)) (below key pair)

-- the keys before place p pass the test, and those from p on do not
pub record Placed (test : Revision → Bool) (s : List ℕ) (p : ℕ) : Type 0 where
  pub within : p ≤ length s / 38
  pub before : (j : ℕ) → j < p → test (key_no s j) ≡ true
  pub rest : (j : ℕ) → p ≤ j → j < length s / 38 → test (key_no s j) ≡ false
