-- Iteration keys: what is written, and what is read.
-- Assumes nothing.
use Rattle.std.specs.Prelude.{ℕ, ◌+◌, cond, ◌&&◌, List, ◌++◌, eqb, length, Result, Ok, Err}
use Rattle.std.specs.Prelude as std
use Rattle.std.proofs.Math.Option.{Option, none, some}
use Rattle.text.specs.Bytes.{bytes}
use Rattle.text.specs.Number.{big_endian, big_at}
use Rattle.text.specs.Part.{starts_with}
use Rattle.path.specs.declared.Pair.{Pair}
use Rattle.path.specs.declared.Revision.{Revision}
use Rattle.path.specs.Pair.{pair}
use Rattle.path.specs.Revision.{revision}

-- 22 bytes, then revision number and height, 8 bytes each, high byte first
unfoldable pub iteration_key : ℕ → ℕ → List ℕ
iteration_key n h = bytes "iterateConsensusStates" ++ (big_endian 8 n ++ big_endian 8 h)

-- what stands behind the word in the key at place `at`
abbrev pub revision_at : ℕ → List ℕ → Revision
revision_at at s = revision (big_at (at + 22) 8 s) (big_at (at + 30) 8 s)

-- a text of 38 bytes that begins with the word is a key
unfoldable pub key_revision : List ℕ → Option Revision
key_revision k = cond (eqb (length k) 38 && starts_with (bytes "iterateConsensusStates") k) (some (revision_at 0 k)) none

-- an answer of the code as one of these
abbrev pub revision_of : std.Option Revision → Option Revision
revision_of std.None = none
revision_of (std.Some p) = some p

-- the revision, or this refusal where there is none
abbrev pub answered : ℕ → Option Revision → Result Revision ℕ
answered n none = Err n
answered n (some p) = Ok p

-- an answer's number, and its two values
abbrev pub pair_of : Result Revision ℕ → Pair
pair_of (Ok p) = pair 0 p.number.0 p.height.0
pair_of (Err n) = pair n 0 0
