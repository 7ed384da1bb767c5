-- Worked examples, which antt computes. Assumes nothing.
use mathlib.Core.Path.{◌≡◌, refl}
use mathlib.Core.List.{List, [], ◌∷◌, ◌++◌}
use Prim.Native.Nat.{ℕ}
use Rattle.std.specs.Prelude.{Ok, Err}
use native.Mathlib.Omega.{arith}
use lib.ListN.{drop}
use Rattle.text.specs.Bytes.{bytes}
use Rattle.text.specs.Number.{big_endian}
use Rattle.text.specs.Part.{every}
use Rattle.text.specs.Put.{refused, text}
use Rattle.identifiers.specs.Check.{among, identifier_byte, check_of, client}
use Rattle.identifiers.specs.CheckLaws.{accepted-by}
use Rattle.packet.specs.declared.PacketKind.TheVariants.{Commitment, Receipt}
use Rattle.packet.specs.Key.{kind_marked, packet_key, packet, packet_in, packet_wanted}
use Rattle.packet.specs.KeyLaws.{kind-marker, read-written}
use Rattle.packet.specs.WayLaws.{write-text}

good : check_of client (bytes "07-tendermint-4") ≡ 0
unfolding every identifier_byte among
good = accepted-by client (bytes "07-tendermint-4") refl (omega arith) (omega arith) refl

-- the receipt of packet 258 of a client
receipt : List ℕ
receipt = bytes "07-tendermint-4" ++ (2 ∷ 0 ∷ 0 ∷ 0 ∷ 0 ∷ 0 ∷ 0 ∷ 1 ∷ 2 ∷ [])

shape : packet_key Receipt (bytes "07-tendermint-4") 258 ≡ receipt
unfolding packet_key big_endian receipt
shape = refl

written : packet_wanted 2 (bytes "07-tendermint-4") 258 ≡ text receipt
written = rw (← shape) (write-text 2 (bytes "07-tendermint-4") 258 (kind_marked 2) refl Receipt (kind-marker Receipt) (check_of client (bytes "07-tendermint-4")) refl good)

read : packet_in receipt ≡ Ok (packet Receipt 15 258)
read = rw shape at (read-written Receipt (bytes "07-tendermint-4") 258 (omega arith) good)

-- the marker is the ninth byte from the end: the last byte of a sequence may look like another
inside : packet_in (bytes "07-tendermint-4" ++ (1 ∷ 0 ∷ 0 ∷ 0 ∷ 0 ∷ 0 ∷ 0 ∷ 0 ∷ 3 ∷ [])) ≡ Ok (packet Commitment 15 3)
unfolding packet_key big_endian
inside = read-written Commitment (bytes "07-tendermint-4") 3 (omega arith) good

-- eight bytes, and a marker that is none of the three
short : packet_in (drop 16 receipt) ≡ Err 24
unfolding packet_in receipt
short = refl

unmarked : packet_in (bytes "07-tendermint-4" ++ (4 ∷ 0 ∷ 0 ∷ 0 ∷ 0 ∷ 0 ∷ 0 ∷ 1 ∷ 2 ∷ [])) ≡ Err 24
unfolding packet_in kind_marked
unmarked = refl

-- the kind is judged before the client
no_kind : packet_wanted 4 [] 1 ≡ refused 24
unfolding packet_wanted kind_marked
no_kind = refl
