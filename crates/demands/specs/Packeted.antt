-- What is said of a call that reads or writes a packet key of IBC version 2: when it is refused, and what it says or writes.
-- Assumes nothing.
use Rattle.std.specs.Prelude.{ℕ, ◌+◌, ◌≤◌, ◌<◌, ◌^◌, ◌≡◌, ◌↔◌, List, length, take}
use Rattle.text.specs.Refusal.{no_room, bad_v2_key}
use Rattle.identifiers.specs.Check.{check_of, client}
use Rattle.packet.specs.declared.Packet.{Packet}
use Rattle.packet.specs.declared.PacketKind.{PacketKind}
use Rattle.packet.specs.Key.{marker_of, packet_key, client_in, marker_in}

-- a byte marks some kind
abbrev pub IsMarker : ℕ → Type 0
IsMarker m = (k : PacketKind) × (marker_of k ≡ m)

-- there are nine bytes at least, and the ninth from the end marks a kind
pub record Marked (key : List ℕ) : Type 0 where
  pub size : 9 ≤ length key
  pub marker : IsMarker (marker_in key)

-- the number n of a reading of key, each exactly when: 24 by the last nine bytes alone, and then what the client's checks give, 0 where it is done
pub record WhenV2Read (key : List ℕ) (n : ℕ) : Type 0 where
  pub bad_key : (n ≡ bad_v2_key) ↔ (Marked key → ⊥)
  pub by_client : (r : ℕ) → (r ≡ bad_v2_key → ⊥) → (n ≡ r) ↔ (Marked key × (check_of client (client_in key) ≡ r))

-- the number n of a writing of that kind and client into so much room, each exactly when
pub record WhenV2Written (m : ℕ) (c : List ℕ) (room n : ℕ) : Type 0 where
  pub bad_kind_when : (n ≡ bad_v2_key) ↔ (IsMarker m → ⊥)
  pub bad_client : (r : ℕ) → (r ≡ 0 → ⊥) → (r ≡ no_room → ⊥) → (r ≡ bad_v2_key → ⊥) → (n ≡ r) ↔ (IsMarker m × (check_of client c ≡ r))
  pub no_room_when : (n ≡ no_room) ↔ (IsMarker m × (check_of client c ≡ 0) × (room < length c + 9))
  pub done : (n ≡ 0) ↔ (IsMarker m × (check_of client c ≡ 0) × (length c + 9 ≤ room))

-- key is what is written of this kind, this client and this sequence
pub record IsPacket (key : List ℕ) (k : PacketKind) (c : List ℕ) (n : ℕ) : Type 0 where
  pub accepted : check_of client c ≡ 0
  pub counted : n < 2 ^ 64
  pub bytes : key ≡ packet_key k c n

-- the answer y to a reading of key says them
pub record Says (key : List ℕ) (y : Packet) (k : PacketKind) (c : List ℕ) (n : ℕ) : Type 0 where
  pub done : y.refusal ≡ 0
  pub kind : y.kind ≡ marker_of k
  pub client : take y.length key ≡ c
  pub sequence : y.sequence ≡ n
