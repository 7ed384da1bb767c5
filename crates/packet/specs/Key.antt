-- Packet keys of IBC version 2: what is written, and what is read.
-- Assumes nothing.
use Rattle.std.specs.Prelude.{ℕ, ◌+◌, ◌-◌, cond, List, ◌∷◌, ◌++◌, eqb, ltb, length, take, get_or, Option, Some, None, Result, Ok, Err}
use Rattle.text.specs.Number.{big_endian, big_at}
use Rattle.text.specs.Put.{Wanted, refused, accepted}
use Rattle.text.specs.Refusal.{bad_v2_key}
use Rattle.identifiers.specs.Check.{check_of, client}
use Rattle.path.specs.declared.Place.{Place}
use Rattle.path.specs.Text.{nowhere}
use Rattle.packet.specs.declared.Packet.{Packet}
use Rattle.packet.specs.declared.PacketKey.{PacketKey}
use Rattle.packet.specs.declared.PacketKind.{PacketKind}
use Rattle.packet.specs.declared.PacketKind.TheVariants.{Commitment, Receipt, Acknowledgement}

-- the marker byte of each kind
abbrev pub marker_of : PacketKind → ℕ
marker_of Commitment = 1
marker_of Receipt = 2
marker_of Acknowledgement = 3

-- the kind whose marker it is
unfoldable pub kind_marked : ℕ → Option PacketKind
kind_marked m = cond (eqb m (marker_of Commitment)) (Some Commitment) (cond (eqb m (marker_of Receipt)) (Some Receipt) (cond (eqb m (marker_of Acknowledgement)) (Some Acknowledgement) None))

-- the client, the marker, and the sequence in 8 bytes, high byte first
unfoldable pub packet_key : PacketKind → List ℕ → ℕ → List ℕ
packet_key k c n = c ++ (marker_of k ∷ big_endian 8 n)

abbrev pub packet : PacketKind → ℕ → ℕ → PacketKey
packet k l n = record { kind = k; length = l; sequence = record { 0 = n } }

-- ---- reading: the last nine bytes are cut off first
abbrev pub cut_place : List ℕ → ℕ
cut_place key = length key - 9

-- what stands before them, and the first of them
abbrev pub client_in : List ℕ → List ℕ
client_in key = take (cut_place key) key

abbrev pub marker_in : List ℕ → ℕ
marker_in key = get_or key (cut_place key) 0

-- 24 where there is no such kind, then the client's checks
abbrev pub read_as : Option PacketKind → List ℕ → Result PacketKey ℕ
read_as None key = Err bad_v2_key
read_as (Some k) key = cond (eqb (check_of client (client_in key)) 0) (Ok (packet k (cut_place key) (big_at (cut_place key + 1) 8 key))) (Err (check_of client (client_in key)))

-- 24 where there are no nine bytes
unfoldable pub packet_in : List ℕ → Result PacketKey ℕ
packet_in key = cond (ltb (length key) 9) (Err bad_v2_key) (read_as (kind_marked (marker_in key)) key)

-- the client's place in the key
abbrev pub client_place : Result PacketKey ℕ → Place
client_place (Ok p) = record { start = 0; len = p.length }
client_place (Err n) = nowhere

-- an answer's number, and its values
abbrev pub packet_of : Result PacketKey ℕ → Packet
packet_of (Ok p) = record { refusal = 0; kind = marker_of p.kind; length = p.length; sequence = p.sequence.0 }
packet_of (Err n) = record { refusal = n; kind = 0; length = 0; sequence = 0 }

-- ---- writing: 24 where there is no such kind, then the client's checks
abbrev pub write_as : Option PacketKind → List ℕ → ℕ → Wanted
write_as None c n = refused bad_v2_key
write_as (Some k) c n = accepted (check_of client c) (packet_key k c n)

unfoldable pub packet_wanted : ℕ → List ℕ → ℕ → Wanted
packet_wanted m c n = write_as (kind_marked m) c n
