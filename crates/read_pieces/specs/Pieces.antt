-- What the readers of some of the components answer: what the parts from component k on carry, where these fit.
-- Assumes nothing.
use Rattle.std.specs.Prelude.{ℕ, suc, ◌+◌, cond, List, [], ◌∷◌, ◌++◌, eqb, get_or, Option, Some, None}
use Rattle.text.specs.Bytes.{bytes}
use Rattle.path.specs.declared.RevisionNumber.{RevisionNumber}
use Rattle.path.specs.declared.RevisionHeight.{RevisionHeight}
use Rattle.path.specs.declared.Revision.{Revision}
use Rattle.path.specs.declared.Place.{Place}
use Rattle.path.specs.declared.Sequence.{Sequence}
use Rattle.path.specs.declared.ConsensusPlaces.{ConsensusPlaces}
use Rattle.path.specs.declared.ChannelPlaces.{ChannelPlaces}
use Rattle.path.specs.declared.PacketPlaces.{PacketPlaces}
use Rattle.path.specs.Text.{cut_at, component, place_at}
use Rattle.path.specs.Kinds.{Part, word, name, count, pair}
use Rattle.path.specs.declared.name.Name.{Name}
use Rattle.path.specs.declared.name.Name.TheVariants.{Client as client, Port as port, Channel as channel}
use Rattle.path.specs.Read.{number_in, fits, fit_from}

-- ---- the parts
abbrev pub place_parts : List ℕ → Name → List Part
place_parts w n = word w ∷ name n ∷ []

abbrev pub sequence_parts : List Part
sequence_parts = word (bytes "sequences") ∷ count ∷ []

abbrev pub revision_parts : List Part
revision_parts = word (bytes "consensusStates") ∷ pair ∷ []

abbrev pub consensus_parts : List Part
consensus_parts = place_parts (bytes "clients") client ++ revision_parts

abbrev pub ends_parts : List Part
ends_parts = place_parts (bytes "ports") port ++ place_parts (bytes "channels") channel

abbrev pub packet_parts : List Part
packet_parts = ends_parts ++ sequence_parts

-- ---- what they carry
-- S or n, in the component c
abbrev pub sequence_in : List ℕ → Sequence
sequence_in c = record { 0 = number_in c }

abbrev pub height_in : List ℕ → RevisionHeight
height_in c = record { 0 = number_in c }

-- R and h, in the component R-h
abbrev pub first_of : List ℕ → RevisionNumber
first_of c = record { 0 = number_in (get_or (cut_at 45 c) 0 []) }

abbrev pub second_of : List ℕ → RevisionHeight
second_of c = record { 0 = number_in (get_or (cut_at 45 c) 1 []) }

abbrev pub revision_of : List ℕ → Revision
revision_of c = record { number = first_of c; height = second_of c }

abbrev pub consensus_of : List ℕ → ConsensusPlaces
consensus_of t = record { client = place_at t 1; number = first_of (component t 3); height = second_of (component t 3) }

abbrev pub ends_of : List ℕ → ChannelPlaces
ends_of t = record { port = place_at t 2; channel = place_at t 4 }

abbrev pub packet_places_of : List ℕ → PacketPlaces
packet_places_of t = record { port = place_at t 2; channel = place_at t 4; sequence = sequence_in (component t 6) }

-- ---- the answers
-- the word w at component k and an identifier after it: where the identifier stands
unfoldable pub place_after : List ℕ → Name → List ℕ → ℕ → Option Place
place_after w n t k = cond (fit_from k (place_parts w n) t) (Some (place_at t (k + 1))) None

-- `sequences` at component k and a number after it
unfoldable pub sequence_after : List ℕ → ℕ → Option Sequence
sequence_after t k = cond (fit_from k sequence_parts t) (Some (sequence_in (component t (k + 1)))) None

-- a number at component k
unfoldable pub height_at : List ℕ → ℕ → Option RevisionHeight
height_at t k = cond (fit_from k (count ∷ []) t) (Some (height_in (component t k))) None

-- R-h
unfoldable pub revision_in : List ℕ → Option Revision
revision_in c = cond (fits pair c) (Some (revision_of c)) None

-- `consensusStates` at component k and R-h after it
unfoldable pub revision_after : List ℕ → ℕ → Option Revision
revision_after t k = cond (fit_from k revision_parts t) (Some (revision_of (component t (k + 1)))) None

-- `clients/C/consensusStates/R-h` at the start
unfoldable pub consensus_in : List ℕ → Option ConsensusPlaces
consensus_in t = cond (fit_from 0 consensus_parts t) (Some (consensus_of t)) None

-- `ports/P/channels/H` after the first component
unfoldable pub ends_in : List ℕ → Option ChannelPlaces
ends_in t = cond (fit_from 1 ends_parts t) (Some (ends_of t)) None

-- `ports/P/channels/H/sequences/S` after the first component
unfoldable pub packet_in : List ℕ → Option PacketPlaces
packet_in t = cond (fit_from 1 packet_parts t) (Some (packet_places_of t)) None

-- where the first dash stands: the length where there is none
unfoldable pub first_dash : List ℕ → ℕ
first_dash [] = 0
first_dash (b ∷ s) = let more = suc (first_dash s) in cond (eqb b 45) 0 more
