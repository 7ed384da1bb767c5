-- Texts on both sides of the line, with their outcomes: every case that document 01 marks as proved, and more of identifiers, in one table with
-- one proof, which antt computes.
-- Assumes nothing.
use Rattle.std.specs.Prelude.{ℕ, ◌≡◌, refl, Bool, true, false, List, [], ◌∷◌, ◌++◌, map, replicate, Err}
use Rattle.text.specs.Bytes.{bytes}
use Rattle.text.specs.Number.{numeral_of, digits_at, digits_from, decimal, digits, width, width_by}
use Rattle.text.specs.Part.{every, ascii, starts_with, same}
use Rattle.identifiers.specs.Check.{Rule, client, client_type, connection, port, channel, among, identifier_byte, chars_of, within, index_of, named_of, check_of, fault_of}
use Rattle.text.specs.Put.{answer}
use Rattle.text.specs.declared.Fault.{Fault}
use Rattle.text.specs.declared.Written.{Written}
use Rattle.path.specs.declared.Place.{Place}
use Rattle.path.specs.declared.ConsensusPlaces.{ConsensusPlaces}
use Rattle.path.specs.declared.Path.{Path}
use Rattle.path.specs.declared.Path.TheVariants.{NextClientSequence, NextConnectionSequence, NextChannelSequence, ClientState, ClientConsensusState, ClientUpdateTime, ClientUpdateHeight, Connection, Ports, UpgradeClientState, UpgradeConsensusState}
use Rattle.path.specs.declared.Refusal.TheVariants.{NotAPath, NoDigits, NotADigit, TooLarge}
use Rattle.path.specs.Reading.{Reading, Read}
use Rattle.path.specs.Text.{cut_at, join_by, places_from, shown_of}
use Rattle.path.specs.Kinds.{Carried, carried, kinds}
use Rattle.path.specs.declared.Pair.{Pair}
use Rattle.path.specs.Pair.{pair}
use Rattle.book_oldest.specs.Oldest.{state_of, own_state, oldest_state, oldest_in}
use Rattle.path.specs.Read.{name_fault, fits, fits_kind, suits, suits_kind, part_faults, kind_faults, faults_as, why_not, read_kind, read_first, read_path, show, render, parts_of, render_path, names_fault, render_of, key_of}
use Rattle.book_records.specs.declared.Manner.{Manner}
use Rattle.book_records.specs.declared.Manner.TheVariants.{Plain, Lenient}
use Rattle.book_records.specs.Act.{Rec, Meaning, refuses, removes, looks}
use Rattle.book_records.specs.Act as act
use Rattle.book_records.specs.Calls.{Call, write, remove, look, kind_in, is_retired, key_for, keyed, meaning, key_answer}
use Rattle.runs.specs.Without.{without}
use Rattle.book_clear.specs.declared.Count.{Count}
use Rattle.book_clear.specs.Clear.{role_of, own_role, states_that, goes_at, goes, count, clear_in}

-- what is asked: to read a text, to check an identifier, for the oldest state of an owner's client in a book with these keys, for the key of a text
-- in a call on a book, whether one text stands above another, to render by kind, identifiers and numbers into that much room, to clear out all but so
-- many states of an owner's client in a book with these keys, or what a call on a book means
pub data Question : Type 0 where
  reading : List ℕ → Question
  checking : Rule → List ℕ → Question
  seeking : ℕ → List ℕ → List (List ℕ) → Question
  keying : Manner → List ℕ → Question
  standing : List ℕ → List ℕ → Question
  rendering : ℕ → Carried (List ℕ) → ℕ → Question
  clearing : ℕ → List ℕ → ℕ → List (List ℕ) → Question
  asking : Call → Question

-- what is answered: a reading, a refusal and its place, a pair, whether it stands so, with the readings of both, a refusal and a length, a refusal
-- and a count, with the keys that are left, or a meaning
pub data Outcome : Type 0 where
  gives : Reading → Outcome
  says : Fault → Outcome
  finds : Pair → Outcome
  stands : Bool → Reading → Reading → Outcome
  writes : Written → Outcome
  leaves : Count → List (List ℕ) → Outcome
  means : Meaning → Outcome

abbrev pub answer_of : Question → Outcome
answer_of (reading t) = gives (read_path t)
answer_of (checking r s) = says (fault_of r s)
answer_of (seeking o c ks) = finds (oldest_in o c (map (λ k. (k, [])) ks))
answer_of (keying m t) = says (record { refusal = (key_answer (key_for m t)).refusal; place = 0 })
answer_of (standing t u) = stands (starts_with (t ++ bytes "/") u) (read_path t) (read_path u)
answer_of (rendering k v room) = writes (answer (render_of k v) room)
answer_of (clearing o c n ks) = leaves (clear_in o c n (map (λ k. (k, [])) ks)).0 (map (λ (r : Rec). r.0) (clear_in o c n (map (λ k. (k, [])) ks)).1)
answer_of (asking c) = means (meaning c)

pub record Case : Type 0 where
  pub question : Question
  pub outcome : Outcome

abbrev read : List ℕ → Reading → Case
read t r = record { question = reading t; outcome = gives r }

abbrev check : Rule → List ℕ → ℕ → Case
check r s n = record { question = checking r s; outcome = says (record { refusal = n; place = 0 }) }

-- the number alone is wrong, at a place
abbrev wrong : Rule → List ℕ → ℕ → ℕ → Case
wrong r s n p = record { question = checking r s; outcome = says (record { refusal = n; place = p }) }

abbrev seek : ℕ → List ℕ → List (List ℕ) → Pair → Case
seek o c ks p = record { question = seeking o c ks; outcome = finds p }

abbrev key : Manner → List ℕ → ℕ → Case
key m t n = record { question = keying m t; outcome = says (record { refusal = n; place = 0 }) }

-- the path p, of the text t, stands above q, of the text u, and both are exact
abbrev above : List ℕ → Path → List ℕ → Path → Case
above t p u q = record { question = standing t u; outcome = stands true (Read p true) (Read q true) }

-- a rendering with the number a: its refusal, and its length
abbrev shows : ℕ → List ℕ → List ℕ → ℕ → ℕ → ℕ → ℕ → Case
shows k one two a room n l = record { question = rendering k (carried one two a 0) room; outcome = writes (record { refusal = n; length = l }) }

-- a clearing that keeps so many states: its refusal, its count, and what is left
abbrev clears : ℕ → List ℕ → ℕ → List (List ℕ) → ℕ → ℕ → List (List ℕ) → Case
clears o c n ks r m ls = record { question = clearing o c n ks; outcome = leaves (count r m) ls }

-- owner 1's key of the client `07-tendermint-4` that goes on so behind `consensusStates/`
abbrev of4 : List ℕ → List ℕ
of4 rest = 1 ∷ (bytes "clients/07-tendermint-4/consensusStates/" ++ rest)

-- what a call of a book means
abbrev asks : Call → Meaning → Case
asks c m = record { question = asking c; outcome = means m }

abbrev at : ℕ → ℕ → Place
at s n = record { start = s; len = n }

-- what a consensus state of the client at 8, of 15 bytes, carries
abbrev state : ℕ → ℕ → ConsensusPlaces
state m h = record { client = at 8 15; number = record { 0 = m }; height = record { 0 = h } }

-- the upgrade paths of height 5 whose U is the first n bytes of the text
abbrev client5 : ℕ → Path
client5 n = UpgradeClientState (record { upgrade = at 0 n; height = record { 0 = 5 } })

abbrev state5 : ℕ → Path
state5 n = UpgradeConsensusState (record { upgrade = at 0 n; height = record { 0 = 5 } })

abbrev pub cases : List Case
cases =
    read (bytes "") (Err NotAPath)
    ∷ read (bytes "clients") (Err NotAPath)
    ∷ read (bytes "clients/clientid/clientState") (Err NotAPath)
    ∷ read (bytes "clients/clientidx/clientState") (Read (ClientState (record { client = at 8 9 })) true)
    ∷ read (bytes "clients/07-tendermint-4/consensusStates/007-+2") (Read (ClientConsensusState (record { client = at 8 15; number = record { 0 = 7 }; height = record { 0 = 2 } })) false)
    ∷ read (bytes "clients/07-tendermint-4/consensusStates/7--2") (Err NotAPath)
    ∷ read (bytes "ports/a") (Err NotAPath)
    ∷ read (bytes "ports/ab") (Read (Ports (record { port = at 6 2 })) true)
    ∷ read (bytes "ports/transfer/") (Err NotAPath)
    ∷ check channel (bytes "channel-01") 7
    ∷ check channel (bytes "channel-+01") 0
    ∷ wrong channel (bytes "channel-") 17 8
    ∷ read (bytes "/5/upgradedClient") (Read (UpgradeClientState (record { upgrade = at 0 0; height = record { 0 = 5 } })) true)
    ∷ read (bytes "clients/000000005/upgradedClient") (Read (UpgradeClientState (record { upgrade = at 0 7; height = record { 0 = 5 } })) false)
    ∷ check channel (bytes "channel-0") 0
    ∷ check channel (bytes "channel-00") 7
    ∷ wrong channel (bytes "channel-+") 17 9
    ∷ check channel (bytes "channel-18446744073709551615") 0
    ∷ wrong channel (bytes "channel-18446744073709551616") 19 27
    ∷ check channel (bytes "channel") 6
    ∷ check channel (bytes "channels-1") 7
    ∷ check connection (bytes "connection-+0") 0
    ∷ wrong connection (bytes "connection-++1") 18 12
    ∷ wrong connection (bytes "connection--1") 18 11
    ∷ check connection (bytes "connection") 7
    ∷ check connection (bytes "Connection-1") 7
    ∷ check client (bytes "clientid") 6
    ∷ check client (bytes "clientidx") 0
    ∷ check client (replicate 64 97) 0
    ∷ check client (replicate 65 97) 6
    ∷ check client (bytes "a b") 5
    ∷ check client (32 ∷ 200 ∷ []) 2
    ∷ check client_type (bytes "tender") 6
    ∷ check client_type (bytes "tenderm") 0
    ∷ check client_type (replicate 43 97) 0
    ∷ check client_type (replicate 44 97) 6
    ∷ check port (bytes "a") 6
    ∷ check port (bytes "ab") 0
    ∷ check port (bytes "a/b") 5
    ∷ check port (replicate 128 97) 0
    ∷ check port (replicate 129 97) 6
    -- the first of two bad numbers, counted from the start of the text; a second dash, and an index, are no bad number
    ∷ read (bytes "clients/07-tendermint-4/consensusStates/7-x") (Err (NotADigit 42))
    ∷ read (bytes "clients/07-tendermint-4/consensusStates/-x") (Err (NoDigits 40))
    ∷ read (bytes "clients/07-tendermint-4/consensusStates/7") (Err NotAPath)
    ∷ read (bytes "clients/07-tendermint-4/consensusStates/x-2/processedTime") (Err (NotADigit 40))
    ∷ read (bytes "clients/clientid/consensusStates/x-2") (Err NotAPath)
    ∷ read (bytes "acks/ports/ab/channels/channel-1/sequences/") (Err (NoDigits 43))
    ∷ read (bytes "acks/ports/ab/channels/channel-x/sequences/1") (Err NotAPath)
    ∷ read (bytes "connections/connection-x") (Err NotAPath)
    ∷ read (bytes "x/18446744073709551615/upgradedClient") (Read (UpgradeClientState (record { upgrade = at 0 1; height = record { 0 = 18446744073709551615 } })) true)
    ∷ read (bytes "x/18446744073709551616/upgradedClient") (Err (TooLarge 21))
    -- as text `10-2` comes before `7-2`, and `07-tendermint-4` begins `07-tendermint-40`
    ∷ seek 1 (bytes "07-tendermint-4") ((1 ∷ bytes "clients/07-tendermint-4/consensusStates/10-2") ∷ (1 ∷ bytes "clients/07-tendermint-4/consensusStates/7-2") ∷ []) (pair 0 7 2)
    ∷ seek 1 (bytes "07-tendermint-4") ((1 ∷ bytes "clients/07-tendermint-40/consensusStates/7-2") ∷ []) (pair 12 0 0)
    -- of that owner's records alone; 23 stands before the client's check
    ∷ seek 2 (bytes "07-tendermint-4") ((1 ∷ bytes "clients/07-tendermint-4/consensusStates/7-2") ∷ (2 ∷ bytes "clients/07-tendermint-4/consensusStates/10-2") ∷ []) (pair 0 10 2)
    ∷ seek 2 (bytes "07-tendermint-4") ((1 ∷ bytes "clients/07-tendermint-4/consensusStates/7-2") ∷ []) (pair 12 0 0)
    ∷ seek 3 (bytes "a b") [] (pair 23 0 0)
    ∷ seek 2 (bytes "a b") [] (pair 5 0 0)
    -- 20 stands after 3 and before 10, in plain calls only
    ∷ key Plain (bytes "clients/07-tendermint-4/consensusStates/007-2") 20
    ∷ key Lenient (bytes "clients/07-tendermint-4/consensusStates/007-2") 0
    ∷ key Plain (bytes "clients/07-tendermint-4/consensusStates/7-2") 0
    ∷ key Plain (bytes "clients/07-tendermint-4/consensusStates/007") 3
    ∷ key Plain (replicate 256 117 ++ bytes "/05/upgradedClient") 20
    ∷ key Lenient (replicate 256 117 ++ bytes "/05/upgradedClient") 10
    ∷ key Plain (replicate 256 117 ++ bytes "/5/upgradedClient") 10
    -- below a consensus state its processed time and height, and no other state that its text begins
    ∷ above (bytes "clients/07-tendermint-4/consensusStates/7-2") (ClientConsensusState (state 7 2)) (bytes "clients/07-tendermint-4/consensusStates/7-2/processedTime") (ClientUpdateTime (state 7 2))
    ∷ above (bytes "clients/07-tendermint-4/consensusStates/7-2") (ClientConsensusState (state 7 2)) (bytes "clients/07-tendermint-4/consensusStates/7-2/processedHeight") (ClientUpdateHeight (state 7 2))
    ∷ record { question = standing (bytes "clients/07-tendermint-4/consensusStates/7-2") (bytes "clients/07-tendermint-4/consensusStates/7-20"); outcome = stands false (Read (ClientConsensusState (state 7 2)) true) (Read (ClientConsensusState (state 7 20)) true) }
    -- the kinds that stand above an upgrade path, above one of each kind
    ∷ above (bytes "nextClientSequence") (NextClientSequence (record {})) (bytes "nextClientSequence/5/upgradedClient") (client5 18)
    ∷ above (bytes "nextClientSequence") (NextClientSequence (record {})) (bytes "nextClientSequence/5/upgradedConsState") (state5 18)
    ∷ above (bytes "nextConnectionSequence") (NextConnectionSequence (record {})) (bytes "nextConnectionSequence/5/upgradedClient") (client5 22)
    ∷ above (bytes "nextConnectionSequence") (NextConnectionSequence (record {})) (bytes "nextConnectionSequence/5/upgradedConsState") (state5 22)
    ∷ above (bytes "nextChannelSequence") (NextChannelSequence (record {})) (bytes "nextChannelSequence/5/upgradedClient") (client5 19)
    ∷ above (bytes "nextChannelSequence") (NextChannelSequence (record {})) (bytes "nextChannelSequence/5/upgradedConsState") (state5 19)
    ∷ above (bytes "ports/55") (Ports (record { port = at 6 2 })) (bytes "ports/55/upgradedClient") (UpgradeClientState (record { upgrade = at 0 5; height = record { 0 = 55 } }))
    ∷ above (bytes "ports/55") (Ports (record { port = at 6 2 })) (bytes "ports/55/upgradedConsState") (UpgradeConsensusState (record { upgrade = at 0 5; height = record { 0 = 55 } }))
    -- no others: a port of other spelling stands above a loose text, and one byte is no port
    ∷ record { question = standing (bytes "ports/055") (bytes "ports/055/upgradedClient"); outcome = stands true (Read (Ports (record { port = at 6 3 })) true) (Read (UpgradeClientState (record { upgrade = at 0 5; height = record { 0 = 55 } })) false) }
    ∷ record { question = standing (bytes "ports/5") (bytes "ports/5/upgradedClient"); outcome = stands true (Err NotAPath) (Read (UpgradeClientState (record { upgrade = at 0 5; height = record { 0 = 5 } })) true) }
    ∷ record { question = standing (bytes "connections/connection-3") (bytes "connections/connection-3/upgradedClient"); outcome = stands true (Read (Connection (record { connection = at 12 12 })) true) (Err (NotADigit 12)) }
    -- what comes between `ports/55` and what lies below it in key order, and the same of a counter
    ∷ read (bytes "ports/55+a") (Read (Ports (record { port = at 6 4 })) true)
    ∷ read (bytes "nextClientSequence./5/upgradedClient") (Read (client5 19) true)
    -- rendering: 14, first identifier, second identifier (for U: 2, 13), 1, 4
    ∷ shows 0 (bytes "/") (bytes "/") 5 0 14 0
    ∷ shows 20 (bytes "/") (bytes "/") 5 0 14 0
    ∷ shows 11 (bytes "a") (bytes "channel-01") 0 0 6 0
    ∷ shows 11 (bytes "ab") (bytes "channel-01") 0 0 7 0
    ∷ shows 18 (bytes "/") (bytes "") 5 64 13 0
    ∷ shows 19 (bytes "/") (bytes "") 5 64 13 0
    ∷ shows 18 (200 ∷ 47 ∷ []) (bytes "") 5 64 2 0
    ∷ shows 18 (replicate 4080 117) (bytes "") 5 0 1 0
    ∷ shows 18 (replicate 4079 117) (bytes "") 5 4096 0 4096
    ∷ shows 18 (replicate 4079 117) (bytes "") 5 4095 4 0
    ∷ shows 10 (bytes "ab") (bytes "/") 5 8 0 8
    -- of `10-2`, `7-2` and `9-100` the first and the last are kept; with `7-2` goes its time, and of the heights that have no state the one below
    -- every kept pair
    ∷ clears 1 (bytes "07-tendermint-4") 2 (of4 (bytes "10-2") ∷ of4 (bytes "7-2") ∷ of4 (bytes "7-2/processedTime") ∷ of4 (bytes "9-100") ∷ of4 (bytes "9-200/processedHeight") ∷ of4 (bytes "9-3/processedHeight") ∷ []) 0 3 (of4 (bytes "10-2") ∷ of4 (bytes "9-100") ∷ of4 (bytes "9-200/processedHeight") ∷ [])
    -- `7-2` stays alone, and goes where `10-2` was written before: a clearing does not move past a write on the same client
    ∷ clears 1 (bytes "07-tendermint-4") 1 (of4 (bytes "7-2") ∷ []) 0 0 (of4 (bytes "7-2") ∷ [])
    ∷ clears 1 (bytes "07-tendermint-4") 1 (of4 (bytes "10-2") ∷ of4 (bytes "7-2") ∷ []) 0 1 (of4 (bytes "10-2") ∷ [])
    -- with none to keep a state and its time go; without a state nothing goes, and another client's is none
    ∷ clears 1 (bytes "07-tendermint-4") 0 (of4 (bytes "7-2") ∷ of4 (bytes "7-2/processedTime") ∷ []) 0 2 []
    ∷ clears 1 (bytes "07-tendermint-4") 0 (of4 (bytes "7-2/processedTime") ∷ []) 0 0 (of4 (bytes "7-2/processedTime") ∷ [])
    ∷ clears 1 (bytes "07-tendermint-4") 0 ((1 ∷ bytes "clients/07-tendermint-40/consensusStates/7-2") ∷ []) 0 0 ((1 ∷ bytes "clients/07-tendermint-40/consensusStates/7-2") ∷ [])
    ∷ clears 2 (bytes "07-tendermint-4") 0 (of4 (bytes "7-2") ∷ []) 0 0 (of4 (bytes "7-2") ∷ [])
    -- 23 stands before the client's check
    ∷ clears 3 (bytes "a b") 0 [] 23 0 []
    ∷ clears 1 (bytes "a b") 0 [] 5 0 []
    -- kind 8 is retired: 25 before 6, in writes of both manners and after what is wrong with the text; removals and lookups are as they were,
    -- and so are writes of kinds 4 and 9
    ∷ asks (write Plain 1 (bytes "clients/07-tendermint-4/connections") []) (refuses 25)
    ∷ asks (write Plain 2 (bytes "clients/07-tendermint-4/connections") (replicate 64 7)) (refuses 25)
    ∷ asks (write Lenient 1 (bytes "clients/07-tendermint-4/connections") (replicate 65 7)) (refuses 25)
    ∷ asks (write Plain 3 (bytes "clients/07-tendermint-4/connections") []) (refuses 23)
    ∷ asks (write Plain 1 (bytes "clients/clientid/connections") []) (refuses 3)
    ∷ asks (remove Plain 1 (bytes "clients/07-tendermint-4/connections")) (removes (1 ∷ bytes "clients/07-tendermint-4/connections"))
    ∷ asks (look Plain 1 (bytes "clients/07-tendermint-4/connections") 64) (looks (1 ∷ bytes "clients/07-tendermint-4/connections"))
    ∷ asks (write Plain 1 (bytes "clients/07-tendermint-4/clientState") []) (refuses 6)
    ∷ asks (write Plain 2 (bytes "connections/connection-0") (replicate 64 7)) (act.writes (2 ∷ bytes "connections/connection-0") (replicate 64 7))
    ∷ []

pub cases_hold : map (λ c. answer_of c.question) cases ≡ map (λ c. c.outcome) cases
unfolding numeral_of digits_at digits_from decimal digits width width_by every ascii starts_with same among identifier_byte chars_of within index_of named_of check_of fault_of cut_at join_by places_from kinds name_fault fits fits_kind suits suits_kind part_faults kind_faults faults_as why_not read_kind read_first read_path show render parts_of render_path shown_of state_of own_state oldest_state oldest_in key_of key_for key_answer names_fault render_of answer without role_of own_role states_that goes_at goes clear_in kind_in is_retired keyed meaning
cases_hold = refl
