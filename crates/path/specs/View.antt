-- This paper's number and values for each case of the typed path and of the reader's answer.
-- Assumes nothing.
use Rattle.std.specs.Prelude.{ℕ, Bool, cond, not, ◌&&◌, ◌||◌, List, eqb, leb, Result, Ok, Err}
use Rattle.std.specs.Borrow.{Bor}
use Rattle.text.specs.Refusal.{bad_kind}
use Rattle.text.specs.Stands.{Stands}
use Rattle.path.specs.declared.Place.{Place}
use Rattle.path.specs.declared.provable.Flag.{Flag}
use Rattle.path.specs.declared.Path.{Path}
use Rattle.path.specs.declared.PathView.{PathView}
use Rattle.path.specs.declared.Refusal.{Refusal}
use Rattle.path.specs.declared.Path.TheVariants.{NextClientSequence, NextConnectionSequence, NextChannelSequence, ClientState, ClientConsensusState, ClientUpdateTime, ClientUpdateHeight, ClientConnection, Connection, Ports, ChannelEnd, SeqSend, SeqRecv, SeqAck, Commitment, Ack, Receipt, UpgradeClientState, UpgradeConsensusState}
use Rattle.path.specs.Reading.{Reading}
use Rattle.path.specs.Kinds.{Carried, carried}
use Rattle.path.specs.Text.{nowhere, shown_of, shown_start}

-- the number of a kind
abbrev pub kind_of : Path → ℕ
kind_of (NextClientSequence x) = 1
kind_of (NextConnectionSequence x) = 2
kind_of (NextChannelSequence x) = 3
kind_of (ClientState x) = 4
kind_of (ClientConsensusState x) = 5
kind_of (ClientUpdateTime x) = 6
kind_of (ClientUpdateHeight x) = 7
kind_of (ClientConnection x) = 8
kind_of (Connection x) = 9
kind_of (Ports x) = 10
kind_of (ChannelEnd x) = 11
kind_of (SeqSend x) = 12
kind_of (SeqRecv x) = 13
kind_of (SeqAck x) = 14
kind_of (Commitment x) = 15
kind_of (Ack x) = 16
kind_of (Receipt x) = 17
kind_of (UpgradeClientState x) = 18
kind_of (UpgradeConsensusState x) = 19

-- its places and numbers; S and n stand in the first number
abbrev pub carried_of : Path → Carried Place
carried_of (NextClientSequence x) = carried nowhere nowhere 0 0
carried_of (NextConnectionSequence x) = carried nowhere nowhere 0 0
carried_of (NextChannelSequence x) = carried nowhere nowhere 0 0
carried_of (ClientState x) = carried x.client nowhere 0 0
carried_of (ClientConsensusState x) = carried x.client nowhere x.number.0 x.height.0
carried_of (ClientUpdateTime x) = carried x.client nowhere x.number.0 x.height.0
carried_of (ClientUpdateHeight x) = carried x.client nowhere x.number.0 x.height.0
carried_of (ClientConnection x) = carried x.client nowhere 0 0
carried_of (Connection x) = carried x.connection nowhere 0 0
carried_of (Ports x) = carried x.port nowhere 0 0
carried_of (ChannelEnd x) = carried x.port x.channel 0 0
carried_of (SeqSend x) = carried x.port x.channel 0 0
carried_of (SeqRecv x) = carried x.port x.channel 0 0
carried_of (SeqAck x) = carried x.port x.channel 0 0
carried_of (Commitment x) = carried x.port x.channel x.sequence.0 0
carried_of (Ack x) = carried x.port x.channel x.sequence.0 0
carried_of (Receipt x) = carried x.port x.channel x.sequence.0 0
carried_of (UpgradeClientState x) = carried x.upgrade nowhere x.height.0 0
carried_of (UpgradeConsensusState x) = carried x.upgrade nowhere x.height.0 0

-- both, in one, with the mark of the text
abbrev pub seen : ℕ → Bool → Carried Place → PathView
seen k e v = record { kind = k; exact = e; first = v.first; second = v.second; a = v.a; b = v.b }

unfoldable pub view_of : Path → Bool → PathView
view_of p e = seen (kind_of p) e (carried_of p)

-- a reading, flat
unfoldable pub viewed_by : Reading → Result PathView Refusal
viewed_by (Ok r) = Ok (view_of r.path r.exact)
viewed_by (Err w) = Err w

-- all kinds but 8 and 10
abbrev pub provable : ℕ → Bool
provable k = not (eqb k 8 || eqb k 10)

-- the same for a kind's number: 14 where it is none
unfoldable pub provable_flag : ℕ → Flag
provable_flag k = cond (leb 1 k && leb k 19) (record { refusal = 0; value = cond (provable k) 1 0 }) (record { refusal = bad_kind; value = 0 })

-- the places of the identifiers of a reading: none on a refusal
abbrev pub first_place : Reading → Place
first_place (Ok r) = (carried_of r.path).first
first_place (Err w) = nowhere

abbrev pub second_place : Reading → Place
second_place (Ok r) = (carried_of r.path).second
second_place (Err w) = nowhere

-- r is the part of x at the place p, no copy: the empty part at the start of x where p does not lie in x
abbrev pub Shows : Bor (List ℕ) → Bor (List ℕ) → Place → Type 0
Shows r x p = Stands r x (shown_start x.now p) (shown_of x.now p)
