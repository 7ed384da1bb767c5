-- The contract of each public function, as the source has it, leaves one outcome: the result, and the content of the buffer that is lent.
-- Assumes nothing.
use denote.RattleType.{RattleType}
use denote.Param.Laws.{Laws}
use mir.Syntax.{Dict}
use Rattle.identifiers.specs.declared.alphabet.Alphabet as Alphabet
use Rattle.identifiers.proofs.alphabet.check_length.Reads as check-length
use Rattle.identifiers.proofs.alphabet.check_named_index.Reads as check-named-index
use Rattle.identifiers.proofs.alphabet.check_plain.Reads as check-plain
use mathlib.Core.Path.{sym, ◌∙◌}
use Rattle.text.specs.Outcome.{One, OneWith}
use Rattle.text.specs.OutcomeLaws.{agree}
use Rattle.identifiers.proofs.validate.is_identifier_byte.Reads as is-identifier-byte
use Rattle.identifiers.proofs.validate.validate_identifier_chars.Reads as validate-identifier-chars
use Rattle.identifiers.proofs.validate.validate_identifier_length.Reads as validate-identifier-length
use Rattle.identifiers.proofs.validate.validate_prefix_length.Reads as validate-prefix-length
use Rattle.identifiers.proofs.validate.validate_named_u64_index.Reads as validate-named-u64-index
use Rattle.identifiers.proofs.validate.validate_client_type.Reads as validate-client-type
use Rattle.identifiers.proofs.validate.validate_client_identifier.Reads as validate-client-identifier
use Rattle.identifiers.proofs.validate.validate_connection_identifier.Reads as validate-connection-identifier
use Rattle.identifiers.proofs.validate.validate_port_identifier.Reads as validate-port-identifier
use Rattle.identifiers.proofs.validate.validate_channel_identifier.Reads as validate-channel-identifier
use Rattle.identifiers.proofs.validate.length_within.Reads as length-within
use Rattle.identifiers.proofs.validate.placeless.Reads as placeless
use Rattle.identifiers.proofs.validate.check_named.Reads as check-named
use Rattle.identifiers.proofs.write_named.Reads as write-named
use Rattle.identifiers.proofs.client_id.is_white.Reads as is_white
use Rattle.identifiers.proofs.client_id.ClientId.from_str.Reads as client-id-from-str
use Rattle.identifiers.proofs.client_id.ClientId.new.Reads as client-id-new
use Rattle.identifiers.proofs.client_id.write_client_id.Reads as write-client-id
use Rattle.identifiers.proofs.connection_id.ConnectionId.from_str.Reads as connection-id-from-str
use Rattle.identifiers.proofs.channel_id.ChannelId.from_str.Reads as channel-id-from-str
use Rattle.identifiers.proofs.channel_id.ChannelId.new.Reads as channel-id-new
use Rattle.identifiers.proofs.channel_id.write_channel_id.Reads as write-channel-id
use Rattle.identifiers.proofs.port_id.PortId.from_str.Reads as port-id-from-str

pub one-is_identifier_byte : One is-identifier-byte.Post
one-is_identifier_byte κs a r₁ r₂ s₁ s₂ p q = p ∙ sym q

pub one-validate_identifier_chars : One validate-identifier-chars.Post
one-validate_identifier_chars κs a r₁ r₂ s₁ s₂ p q = p ∙ sym q

pub one-validate_identifier_length : One validate-identifier-length.Post
one-validate_identifier_length κs a r₁ r₂ s₁ s₂ p q = p ∙ sym q

pub one-validate_prefix_length : One validate-prefix-length.Post
one-validate_prefix_length κs a r₁ r₂ s₁ s₂ p q = p ∙ sym q

pub one-validate_named_u64_index : One validate-named-u64-index.Post
one-validate_named_u64_index κs a r₁ r₂ s₁ s₂ p q = p ∙ sym q

pub one-validate_client_type : One validate-client-type.Post
one-validate_client_type κs a r₁ r₂ s₁ s₂ p q = p ∙ sym q

pub one-validate_client_identifier : One validate-client-identifier.Post
one-validate_client_identifier κs a r₁ r₂ s₁ s₂ p q = p ∙ sym q

pub one-validate_connection_identifier : One validate-connection-identifier.Post
one-validate_connection_identifier κs a r₁ r₂ s₁ s₂ p q = p ∙ sym q

pub one-validate_port_identifier : One validate-port-identifier.Post
one-validate_port_identifier κs a r₁ r₂ s₁ s₂ p q = p ∙ sym q

pub one-validate_channel_identifier : One validate-channel-identifier.Post
one-validate_channel_identifier κs a r₁ r₂ s₁ s₂ p q = p ∙ sym q

pub one-length_within : One length-within.Post
one-length_within κs a r₁ r₂ s₁ s₂ p q = p ∙ sym q

pub one-placeless : One placeless.Post
one-placeless κs a r₁ r₂ s₁ s₂ p q = p ∙ sym q

pub one-check_named : One check-named.Post
one-check_named κs a r₁ r₂ s₁ s₂ p q = p ∙ sym q

pub one-write_named : OneWith write-named.Post (λ κs s. s.1.1.0.now)
one-write_named κs a r₁ r₂ s₁ s₂ p q = agree p q

pub one-is_white : One is_white.Post
one-is_white κs a r₁ r₂ s₁ s₂ p q = p ∙ sym q

pub one-client-id-from_str : One client-id-from-str.Post
one-client-id-from_str κs a r₁ r₂ s₁ s₂ p q = p ∙ sym q

pub one-client-id-new : One client-id-new.Post
one-client-id-new κs a r₁ r₂ s₁ s₂ p q = p ∙ sym q

pub one-write_client_id : OneWith write-client-id.Post (λ κs s. s.1.1.0.now)
one-write_client_id κs a r₁ r₂ s₁ s₂ p q = agree p q

pub one-connection-id-from_str : One connection-id-from-str.Post
one-connection-id-from_str κs a r₁ r₂ s₁ s₂ p q = p ∙ sym q

pub one-channel-id-from_str : One channel-id-from-str.Post
one-channel-id-from_str κs a r₁ r₂ s₁ s₂ p q = p ∙ sym q

pub one-channel-id-new : One channel-id-new.Post
one-channel-id-new κs a r₁ r₂ s₁ s₂ p q = p ∙ sym q

pub one-write_channel_id : OneWith write-channel-id.Post (λ κs s. s.1.0.now)
one-write_channel_id κs a r₁ r₂ s₁ s₂ p q = agree p q

pub one-port-id-from_str : One port-id-from-str.Post
one-port-id-from_str κs a r₁ r₂ s₁ s₂ p q = p ∙ sym q

-- whatever identifiers are made of
pub one-check_length : (T : RattleType) (M : Laws T) (G : Alphabet.Ghosts T.Denot) (D : Dict) → One (check-length.Post T M G D)
one-check_length T M G D κs a r₁ r₂ s₁ s₂ p q = p ∙ sym q

pub one-check_named_index : (T : RattleType) (M : Laws T) (G : Alphabet.Ghosts T.Denot) (D : Dict) → One (check-named-index.Post T M G D)
one-check_named_index T M G D κs a r₁ r₂ s₁ s₂ p q = p ∙ sym q

pub one-check_plain : (T : RattleType) (M : Laws T) (G : Alphabet.Ghosts T.Denot) (D : Dict) → One (check-plain.Post T M G D)
one-check_plain T M G D κs a r₁ r₂ s₁ s₂ p q = p ∙ sym q
