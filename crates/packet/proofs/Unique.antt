-- The contract of each public function, as the source has it, leaves one outcome: the result, which for a part of the caller's key is its bytes
-- and where it points, and the content of the buffer that is lent.
-- Assumes nothing.
use mathlib.Core.Path.{sym, ◌∙◌}
use Rattle.text.specs.Outcome.{One, OneWith, OnePart}
use Rattle.text.specs.OutcomeLaws.{agree, one-part as same-part}
use Rattle.packet.proofs.marker_of.Reads as marker-of
use Rattle.packet.proofs.kind_marked.Reads as kind-marked
use Rattle.packet.proofs.read_packet_key.Reads as read-packet-key
use Rattle.packet.proofs.client_identifier.Reads as client-identifier
use Rattle.packet.proofs.packet_of.Reads as packet-of
use Rattle.packet.proofs.write_packet_key.Reads as write-packet-key

pub one-marker_of : One marker-of.Post
one-marker_of κs a r₁ r₂ s₁ s₂ p q = p ∙ sym q

pub one-kind_marked : One kind-marked.Post
one-kind_marked κs a r₁ r₂ s₁ s₂ p q = p ∙ sym q

pub one-read_packet_key : One read-packet-key.Post
one-read_packet_key κs a r₁ r₂ s₁ s₂ p q = p ∙ sym q

pub one-client_identifier : OnePart client-identifier.Post
one-client_identifier κs a r₁ r₂ s₁ s₂ p q = same-part p q

pub one-packet_of : One packet-of.Post
one-packet_of κs a r₁ r₂ s₁ s₂ p q = p ∙ sym q

pub one-write_packet_key : OneWith write-packet-key.Post (λ κs s. s.1.1.1.0.now)
one-write_packet_key κs a r₁ r₂ s₁ s₂ p q = agree p q
