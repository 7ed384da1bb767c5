-- The contract of each public function, as the source has it, leaves one outcome.
-- Assumes nothing.
use mathlib.Core.Path.{sym, ◌∙◌}
use Rattle.text.specs.Outcome.{One}
use Rattle.walk_words.proofs.is_clients_open.Reads as is-clients-open
use Rattle.walk_words.proofs.is_client_state.Reads as is-client-state
use Rattle.walk_words.proofs.is_client_connections.Reads as is-client-connections
use Rattle.walk_words.proofs.is_consensus_states.Reads as is-consensus-states
use Rattle.walk_words.proofs.is_processed_time.Reads as is-processed-time
use Rattle.walk_words.proofs.is_processed_height.Reads as is-processed-height
use Rattle.walk_words.proofs.is_channels.Reads as is-channels
use Rattle.walk_words.proofs.is_sequences.Reads as is-sequences
use Rattle.walk_words.proofs.is_upgraded_client.Reads as is-upgraded-client
use Rattle.walk_words.proofs.is_upgraded_cons_state.Reads as is-upgraded-cons-state
use Rattle.walk_words.proofs.is_channel_ends.Reads as is-channel-ends
use Rattle.walk_words.proofs.is_commitments.Reads as is-commitments
use Rattle.walk_words.proofs.is_acks.Reads as is-acks
use Rattle.walk_words.proofs.is_receipts.Reads as is-receipts
use Rattle.walk_words.proofs.is_next_sequence_send.Reads as is-next-sequence-send
use Rattle.walk_words.proofs.is_next_sequence_recv.Reads as is-next-sequence-recv
use Rattle.walk_words.proofs.is_next_sequence_ack.Reads as is-next-sequence-ack
use Rattle.walk_words.proofs.is_connections.Reads as is-connections
use Rattle.walk_words.proofs.is_next_client_sequence.Reads as is-next-client-sequence
use Rattle.walk_words.proofs.is_next_connection_sequence.Reads as is-next-connection-sequence
use Rattle.walk_words.proofs.is_next_channel_sequence.Reads as is-next-channel-sequence
use Rattle.walk_words.proofs.is_head_channel_ends.Reads as is-head-channel-ends
use Rattle.walk_words.proofs.is_head_commitments.Reads as is-head-commitments
use Rattle.walk_words.proofs.is_head_acks.Reads as is-head-acks
use Rattle.walk_words.proofs.is_head_receipts.Reads as is-head-receipts
use Rattle.walk_words.proofs.is_head_next_sequence.Reads as is-head-next-sequence
use Rattle.walk_words.proofs.is_head_connections.Reads as is-head-connections
use Rattle.walk_words.proofs.is_ports.Reads as is-ports

pub one-is_clients_open : One is-clients-open.Post
one-is_clients_open κs a r₁ r₂ s₁ s₂ p q = p ∙ sym q

pub one-is_client_state : One is-client-state.Post
one-is_client_state κs a r₁ r₂ s₁ s₂ p q = p ∙ sym q

pub one-is_client_connections : One is-client-connections.Post
one-is_client_connections κs a r₁ r₂ s₁ s₂ p q = p ∙ sym q

pub one-is_consensus_states : One is-consensus-states.Post
one-is_consensus_states κs a r₁ r₂ s₁ s₂ p q = p ∙ sym q

pub one-is_processed_time : One is-processed-time.Post
one-is_processed_time κs a r₁ r₂ s₁ s₂ p q = p ∙ sym q

pub one-is_processed_height : One is-processed-height.Post
one-is_processed_height κs a r₁ r₂ s₁ s₂ p q = p ∙ sym q

pub one-is_channels : One is-channels.Post
one-is_channels κs a r₁ r₂ s₁ s₂ p q = p ∙ sym q

pub one-is_sequences : One is-sequences.Post
one-is_sequences κs a r₁ r₂ s₁ s₂ p q = p ∙ sym q

pub one-is_upgraded_client : One is-upgraded-client.Post
one-is_upgraded_client κs a r₁ r₂ s₁ s₂ p q = p ∙ sym q

pub one-is_upgraded_cons_state : One is-upgraded-cons-state.Post
one-is_upgraded_cons_state κs a r₁ r₂ s₁ s₂ p q = p ∙ sym q

pub one-is_channel_ends : One is-channel-ends.Post
one-is_channel_ends κs a r₁ r₂ s₁ s₂ p q = p ∙ sym q

pub one-is_commitments : One is-commitments.Post
one-is_commitments κs a r₁ r₂ s₁ s₂ p q = p ∙ sym q

pub one-is_acks : One is-acks.Post
one-is_acks κs a r₁ r₂ s₁ s₂ p q = p ∙ sym q

pub one-is_receipts : One is-receipts.Post
one-is_receipts κs a r₁ r₂ s₁ s₂ p q = p ∙ sym q

pub one-is_next_sequence_send : One is-next-sequence-send.Post
one-is_next_sequence_send κs a r₁ r₂ s₁ s₂ p q = p ∙ sym q

pub one-is_next_sequence_recv : One is-next-sequence-recv.Post
one-is_next_sequence_recv κs a r₁ r₂ s₁ s₂ p q = p ∙ sym q

pub one-is_next_sequence_ack : One is-next-sequence-ack.Post
one-is_next_sequence_ack κs a r₁ r₂ s₁ s₂ p q = p ∙ sym q

pub one-is_connections : One is-connections.Post
one-is_connections κs a r₁ r₂ s₁ s₂ p q = p ∙ sym q

pub one-is_next_client_sequence : One is-next-client-sequence.Post
one-is_next_client_sequence κs a r₁ r₂ s₁ s₂ p q = p ∙ sym q

pub one-is_next_connection_sequence : One is-next-connection-sequence.Post
one-is_next_connection_sequence κs a r₁ r₂ s₁ s₂ p q = p ∙ sym q

pub one-is_next_channel_sequence : One is-next-channel-sequence.Post
one-is_next_channel_sequence κs a r₁ r₂ s₁ s₂ p q = p ∙ sym q

pub one-is_head_channel_ends : One is-head-channel-ends.Post
one-is_head_channel_ends κs a r₁ r₂ s₁ s₂ p q = p ∙ sym q

pub one-is_head_commitments : One is-head-commitments.Post
one-is_head_commitments κs a r₁ r₂ s₁ s₂ p q = p ∙ sym q

pub one-is_head_acks : One is-head-acks.Post
one-is_head_acks κs a r₁ r₂ s₁ s₂ p q = p ∙ sym q

pub one-is_head_receipts : One is-head-receipts.Post
one-is_head_receipts κs a r₁ r₂ s₁ s₂ p q = p ∙ sym q

pub one-is_head_next_sequence : One is-head-next-sequence.Post
one-is_head_next_sequence κs a r₁ r₂ s₁ s₂ p q = p ∙ sym q

pub one-is_head_connections : One is-head-connections.Post
one-is_head_connections κs a r₁ r₂ s₁ s₂ p q = p ∙ sym q

pub one-is_ports : One is-ports.Post
one-is_ports κs a r₁ r₂ s₁ s₂ p q = p ∙ sym q
