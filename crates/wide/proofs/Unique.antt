-- The contract of each public function, as the source has it, leaves one outcome: the result, and the content of the buffer that is lent.
-- Assumes nothing.
use mathlib.Core.Path.{sym, ◌∙◌}
use Rattle.text.specs.Outcome.{One, OneWith}
use Rattle.text.specs.OutcomeLaws.{agree}
use Rattle.wide.proofs.validate.validate_identifier_chars.Reads as validate-identifier-chars
use Rattle.wide.proofs.validate.validate_identifier_length.Reads as validate-identifier-length
use Rattle.wide.proofs.validate.validate_prefix_length.Reads as validate-prefix-length
use Rattle.wide.proofs.validate.validate_named_u64_index.Reads as validate-named-u64-index
use Rattle.wide.proofs.validate.validate_client_type.Reads as validate-client-type
use Rattle.wide.proofs.validate.validate_client_identifier.Reads as validate-client-identifier
use Rattle.wide.proofs.validate.validate_connection_identifier.Reads as validate-connection-identifier
use Rattle.wide.proofs.validate.validate_port_identifier.Reads as validate-port-identifier
use Rattle.wide.proofs.validate.validate_channel_identifier.Reads as validate-channel-identifier
use Rattle.wide.proofs.read.read_path.Reads as read-path
use Rattle.wide.proofs.rendering.name_fault.Reads as name-fault
use Rattle.wide.proofs.client_id.write_client_id.Reads as write-client-id
use Rattle.wide.proofs.read.write_reading.Reads as write-reading
use Rattle.wide.proofs.read.write_key.Reads as write-key
use Rattle.wide.proofs.rendering.render.Reads as render
use Rattle.wide.proofs.rendering.consensus_state_parent.Reads as consensus-state-parent
use Rattle.wide.proofs.rendering.commitments_path.Reads as commitments-path
use Rattle.wide.proofs.rendering.acks_path.Reads as acks-path
use Rattle.wide.proofs.rendering.receipts_path.Reads as receipts-path

pub one-validate_identifier_chars : One validate-identifier-chars.Post
one-validate_identifier_chars κs a r₁ r₂ s₁ s₂ p q = p ∙ sym q

pub one-validate_identifier_length : One validate-identifier-length.Post
one-validate_identifier_length κs a r₁ r₂ s₁ s₂ p q = p ∙ sym q

pub one-validate_prefix_length : One validate-prefix-length.Post
one-validate_prefix_length κs a r₁ r₂ s₁ s₂ p q = p ∙ sym q

pub one-validate_named_u64_index : One validate-named-u64-index.Post
one-validate_named_u64_index κs a r₁ r₂ s₁ s₂ p q = p ∙ sym q

pub one-validate_client_type : One validate-client-type.Post
one-validate_client_type κs a r₁ r₂ s₁ s₂ p q = p ∙ sym q

pub one-validate_client_identifier : One validate-client-identifier.Post
one-validate_client_identifier κs a r₁ r₂ s₁ s₂ p q = p ∙ sym q

pub one-validate_connection_identifier : One validate-connection-identifier.Post
one-validate_connection_identifier κs a r₁ r₂ s₁ s₂ p q = p ∙ sym q

pub one-validate_port_identifier : One validate-port-identifier.Post
one-validate_port_identifier κs a r₁ r₂ s₁ s₂ p q = p ∙ sym q

pub one-validate_channel_identifier : One validate-channel-identifier.Post
one-validate_channel_identifier κs a r₁ r₂ s₁ s₂ p q = p ∙ sym q

pub one-read_path : One read-path.Post
one-read_path κs a r₁ r₂ s₁ s₂ p q = p ∙ sym q

pub one-name_fault : One name-fault.Post
one-name_fault κs a r₁ r₂ s₁ s₂ p q = p ∙ sym q

pub one-write_client_id : OneWith write-client-id.Post (λ κs s. s.1.1.0.now)
one-write_client_id κs a r₁ r₂ s₁ s₂ p q = agree p q

pub one-write_reading : OneWith write-reading.Post (λ κs s. s.1.0.now)
one-write_reading κs a r₁ r₂ s₁ s₂ p q = agree p q

pub one-write_key : OneWith write-key.Post (λ κs s. s.1.0.now)
one-write_key κs a r₁ r₂ s₁ s₂ p q = agree p q

pub one-render : OneWith render.Post (λ κs s. s.1.1.1.1.1.0.now)
one-render κs a r₁ r₂ s₁ s₂ p q = agree p q

pub one-consensus_state_parent : OneWith consensus-state-parent.Post (λ κs s. s.1.0.now)
one-consensus_state_parent κs a r₁ r₂ s₁ s₂ p q = agree p q

pub one-commitments_path : OneWith commitments-path.Post (λ κs s. s.1.1.0.now)
one-commitments_path κs a r₁ r₂ s₁ s₂ p q = agree p q

pub one-acks_path : OneWith acks-path.Post (λ κs s. s.1.1.0.now)
one-acks_path κs a r₁ r₂ s₁ s₂ p q = agree p q

pub one-receipts_path : OneWith receipts-path.Post (λ κs s. s.1.1.0.now)
one-receipts_path κs a r₁ r₂ s₁ s₂ p q = agree p q
