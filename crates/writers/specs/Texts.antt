-- The texts that the writers write, in the order of the writing. That they are those of the table of kinds is in `TextLaws`.
-- Assumes nothing.
use Rattle.std.specs.Prelude.{ℕ, List, [], ◌∷◌, ◌++◌}
use Rattle.text.specs.Bytes.{bytes}
use Rattle.text.specs.Number.{decimal}

-- ---- some of the components
-- clients/C, and what stands after it
abbrev pub client_text : List ℕ → List ℕ → List ℕ
client_text client rest = bytes "clients/" ++ (client ++ rest)

-- R-h, and what stands after it
abbrev pub revision : ℕ → ℕ → List ℕ → List ℕ
revision number height rest = decimal number ++ (bytes "-" ++ (decimal height ++ rest))

-- clients/C/consensusStates/R-h, and what stands after it
abbrev pub consensus_text : List ℕ → ℕ → ℕ → List ℕ → List ℕ
consensus_text client number height rest = client_text client (bytes "/consensusStates/") ++ revision number height rest

-- W/ports/P/channels/H, where W/ports/ is given
abbrev pub ends_text : List ℕ → List ℕ → List ℕ → List ℕ
ends_text first port channel = (first ++ port) ++ (bytes "/channels/" ++ channel)

-- the same with /sequences/S
abbrev pub packet_text : List ℕ → List ℕ → List ℕ → ℕ → List ℕ
packet_text first port channel sequence = ends_text first port channel ++ (bytes "/sequences/" ++ decimal sequence)

-- U/n, and what stands after it
abbrev pub upgrade_text : List ℕ → ℕ → List ℕ → List ℕ
upgrade_text upgrade height rest = (upgrade ++ bytes "/") ++ (decimal height ++ rest)

-- ---- the nineteen kinds
-- kinds 1 to 3
abbrev pub sequence_texts : List (List ℕ)
sequence_texts = bytes "nextClientSequence" ∷ bytes "nextConnectionSequence" ∷ bytes "nextChannelSequence" ∷ []

-- kinds 4 to 8
abbrev pub client_texts : List ℕ → ℕ → ℕ → List (List ℕ)
client_texts client number height =
    client_text client (bytes "/clientState")
    ∷ consensus_text client number height []
    ∷ consensus_text client number height (bytes "/processedTime")
    ∷ consensus_text client number height (bytes "/processedHeight")
    ∷ client_text client (bytes "/connections")
    ∷ []

-- kinds 9 to 14
abbrev pub channel_texts : List ℕ → List ℕ → List (List ℕ)
channel_texts first channel =
    (bytes "connections/" ++ first)
    ∷ (bytes "ports/" ++ first)
    ∷ ends_text (bytes "channelEnds/ports/") first channel
    ∷ ends_text (bytes "nextSequenceSend/ports/") first channel
    ∷ ends_text (bytes "nextSequenceRecv/ports/") first channel
    ∷ ends_text (bytes "nextSequenceAck/ports/") first channel
    ∷ []

-- kinds 15 to 17
abbrev pub packet_texts : List ℕ → List ℕ → ℕ → List (List ℕ)
packet_texts port channel sequence =
    packet_text (bytes "commitments/ports/") port channel sequence
    ∷ packet_text (bytes "acks/ports/") port channel sequence
    ∷ packet_text (bytes "receipts/ports/") port channel sequence
    ∷ []

-- kinds 18 and 19
abbrev pub upgrade_texts : List ℕ → ℕ → List (List ℕ)
upgrade_texts upgrade height = upgrade_text upgrade height (bytes "/upgradedClient") ∷ upgrade_text upgrade height (bytes "/upgradedConsState") ∷ []

-- ---- the texts that are no whole path
-- clients/C/consensusStates
abbrev pub parent_text : List ℕ → List ℕ
parent_text client = client_text client (bytes "/consensusStates")

-- consensusStates/R-h, and what stands after it
abbrev pub leaf_text : ℕ → ℕ → List ℕ → List ℕ
leaf_text number height rest = bytes "consensusStates/" ++ revision number height rest

-- W/ports/P/channels/H/sequences, where W/ports/ is given
abbrev pub packets_text : List ℕ → List ℕ → List ℕ → List ℕ
packets_text first port channel = ends_text first port channel ++ bytes "/sequences"
