-- The texts that are rendered besides whole paths: parents, leaves and the paths of packets. Each is a list of parts, as a kind is.
-- Assumes nothing.
use Rattle.std.specs.Prelude.{ℕ, List, [], ◌∷◌}
use Rattle.text.specs.Bytes.{bytes}
use Rattle.text.specs.Put.{Wanted, accepted}
use Rattle.path.specs.Kinds.{Part, word, pair, Carried, client_parts, channel_parts}
use Rattle.path.specs.Read.{names_fault, render}

-- a text of these parts: its identifiers are checked
unfoldable pub text_of : List Part → Carried (List ℕ) → Wanted
text_of ps v = accepted (names_fault ps v) (render ps v)

-- clients/C/consensusStates
abbrev pub consensus_parent : List Part
consensus_parent = client_parts (word (bytes "consensusStates") ∷ [])

-- consensusStates/R-h, and what stands below it
abbrev pub consensus_leaf : List Part → List Part
consensus_leaf rest = word (bytes "consensusStates") ∷ pair ∷ rest

-- commitments/ports/P/channels/H/sequences, and the same for acks and receipts
abbrev pub packets_path : List ℕ → List Part
packets_path first = channel_parts first (word (bytes "sequences") ∷ [])
