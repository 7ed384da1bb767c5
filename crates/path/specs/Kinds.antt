-- The nineteen kinds of path, as one table: what each component of each kind is. Reading and rendering both go by it.
-- Assumes nothing.
use Rattle.std.specs.Prelude.{ℕ, List, [], ◌∷◌}
use Rattle.text.specs.Bytes.{bytes}
use Rattle.path.specs.declared.Place.{Place}
use Rattle.path.specs.declared.name.Name.{Name}
use Rattle.path.specs.declared.name.Name.TheVariants.{Client as client, Connection as connection, Port as port, Channel as channel, Upgrade as upgrade}
use Rattle.path.specs.declared.Path.{Path}
use Rattle.path.specs.declared.Path.TheVariants.{NextClientSequence, NextConnectionSequence, NextChannelSequence, ClientState, ClientConsensusState, ClientUpdateTime, ClientUpdateHeight, ClientConnection, Connection, Ports, ChannelEnd, SeqSend, SeqRecv, SeqAck, Commitment, Ack, Receipt, UpgradeClientState, UpgradeConsensusState}

-- what one component of a path is: a fixed word, an identifier, a number (S or n), or two with a dash between (R-h)
pub data Part : Type 0 where
  word : List ℕ → Part
  name : Name → Part
  count : Part
  pair : Part

-- what a path carries besides its kind: two identifiers, as places or as texts, and two numbers. What a kind lacks is empty or 0
pub record Carried (A : Type 0) : Type 0 where
  pub first : A
  pub second : A
  pub a : ℕ
  pub b : ℕ

abbrev pub carried : {A : Type 0} → A → A → ℕ → ℕ → Carried A
carried first second a b = record { first = first; second = second; a = a; b = b }

-- which of the two identifiers of a path it is: a channel is the second, and all others are the first
pub data Which : Type 0 where
  the_first the_second : Which

abbrev pub which_of : Name → Which
which_of client = the_first
which_of connection = the_first
which_of port = the_first
which_of channel = the_second
which_of upgrade = the_first

abbrev pub taken : {A : Type 0} → Which → Carried A → A
taken the_first v = v.first
taken the_second v = v.second

abbrev pub placed : {A : Type 0} → Which → A → Carried A → Carried A
placed the_first x v = carried x v.second v.a v.b
placed the_second x v = carried v.first x v.a v.b

-- an identifier of what a path carries, and that with another in its place
abbrev pub name_in : {A : Type 0} → Name → Carried A → A
name_in n v = taken (which_of n) v

abbrev pub set_name : {A : Type 0} → Name → A → Carried A → Carried A
set_name n x v = placed (which_of n) x v

-- a kind: its components, and the typed path that carries these places and numbers
pub record Kind : Type 0 where
  pub parts : List Part
  pub make : Carried Place → Path

abbrev pub client_parts : List Part → List Part
client_parts rest = word (bytes "clients") ∷ name client ∷ rest

abbrev consensus_parts : List Part → List Part
consensus_parts rest = client_parts (word (bytes "consensusStates") ∷ pair ∷ rest)

abbrev pub channel_parts : List ℕ → List Part → List Part
channel_parts first rest = word first ∷ word (bytes "ports") ∷ name port ∷ word (bytes "channels") ∷ name channel ∷ rest

abbrev packet_parts : List ℕ → List Part
packet_parts first = channel_parts first (word (bytes "sequences") ∷ count ∷ [])

abbrev pub kind1 : Kind
kind1 = record { parts = word (bytes "nextClientSequence") ∷ []; make = λ v. NextClientSequence (record {}) }

abbrev pub kind2 : Kind
kind2 = record { parts = word (bytes "nextConnectionSequence") ∷ []; make = λ v. NextConnectionSequence (record {}) }

abbrev pub kind3 : Kind
kind3 = record { parts = word (bytes "nextChannelSequence") ∷ []; make = λ v. NextChannelSequence (record {}) }

abbrev pub kind4 : Kind
kind4 = record { parts = client_parts (word (bytes "clientState") ∷ []); make = λ v. ClientState (record { client = v.first }) }

abbrev pub kind5 : Kind
kind5 = record { parts = consensus_parts []; make = λ v. ClientConsensusState (record { client = v.first; number = record { 0 = v.a }; height = record { 0 = v.b } }) }

abbrev pub kind6 : Kind
kind6 = record { parts = consensus_parts (word (bytes "processedTime") ∷ []); make = λ v. ClientUpdateTime (record { client = v.first; number = record { 0 = v.a }; height = record { 0 = v.b } }) }

abbrev pub kind7 : Kind
kind7 = record { parts = consensus_parts (word (bytes "processedHeight") ∷ []); make = λ v. ClientUpdateHeight (record { client = v.first; number = record { 0 = v.a }; height = record { 0 = v.b } }) }

abbrev pub kind8 : Kind
kind8 = record { parts = client_parts (word (bytes "connections") ∷ []); make = λ v. ClientConnection (record { client = v.first }) }

abbrev pub kind9 : Kind
kind9 = record { parts = word (bytes "connections") ∷ name connection ∷ []; make = λ v. Connection (record { connection = v.first }) }

abbrev pub kind10 : Kind
kind10 = record { parts = word (bytes "ports") ∷ name port ∷ []; make = λ v. Ports (record { port = v.first }) }

abbrev pub kind11 : Kind
kind11 = record { parts = channel_parts (bytes "channelEnds") []; make = λ v. ChannelEnd (record { port = v.first; channel = v.second }) }

abbrev pub kind12 : Kind
kind12 = record { parts = channel_parts (bytes "nextSequenceSend") []; make = λ v. SeqSend (record { port = v.first; channel = v.second }) }

abbrev pub kind13 : Kind
kind13 = record { parts = channel_parts (bytes "nextSequenceRecv") []; make = λ v. SeqRecv (record { port = v.first; channel = v.second }) }

abbrev pub kind14 : Kind
kind14 = record { parts = channel_parts (bytes "nextSequenceAck") []; make = λ v. SeqAck (record { port = v.first; channel = v.second }) }

abbrev pub kind15 : Kind
kind15 = record { parts = packet_parts (bytes "commitments"); make = λ v. Commitment (record { port = v.first; channel = v.second; sequence = record { 0 = v.a } }) }

abbrev pub kind16 : Kind
kind16 = record { parts = packet_parts (bytes "acks"); make = λ v. Ack (record { port = v.first; channel = v.second; sequence = record { 0 = v.a } }) }

abbrev pub kind17 : Kind
kind17 = record { parts = packet_parts (bytes "receipts"); make = λ v. Receipt (record { port = v.first; channel = v.second; sequence = record { 0 = v.a } }) }

abbrev pub kind18 : Kind
kind18 = record { parts = name upgrade ∷ count ∷ word (bytes "upgradedClient") ∷ []; make = λ v. UpgradeClientState (record { upgrade = v.first; height = record { 0 = v.a } }) }

abbrev pub kind19 : Kind
kind19 = record { parts = name upgrade ∷ count ∷ word (bytes "upgradedConsState") ∷ []; make = λ v. UpgradeConsensusState (record { upgrade = v.first; height = record { 0 = v.a } }) }

-- in the order of the enum: kind 1 stands first
unfoldable pub kinds : List Kind
kinds = kind1 ∷ kind2 ∷ kind3 ∷ kind4 ∷ kind5 ∷ kind6 ∷ kind7 ∷ kind8 ∷ kind9 ∷ kind10 ∷ kind11 ∷ kind12 ∷ kind13 ∷ kind14 ∷ kind15 ∷ kind16 ∷ kind17 ∷ kind18 ∷ kind19 ∷ []
