-- The contract of each public function, as the source has it, leaves one outcome: the result, and the content of the buffer that is lent.
-- Assumes nothing.
use mathlib.Core.Path.{sym, ◌∙◌}
use Rattle.text.specs.Outcome.{One, OneWith}
use Rattle.text.specs.OutcomeLaws.{agree}
use Rattle.book.specs.Book.{Current}
use Rattle.book.specs.BookLaws.{lawful}
use Rattle.book.specs.OutcomeLaws.{one_changed, one_found, one-made}
use Rattle.book_clear.specs.ClearLaws.{one-cleared}
use Rattle.book_convert.specs.ConvertLaws.{one-converted}
use Rattle.book_convert.specs.OwnersLaws.{one-owners}
use Rattle.book_oldest.proofs.OldestLaws.{one-oldest}
use Rattle.book_table.specs.OneLaws.{one-fills, one_many}
use Rattle.hostpath.proofs.hp_validate_identifier_chars.Reads as hp-validate-identifier-chars
use Rattle.hostpath.proofs.hp_validate_identifier_length.Reads as hp-validate-identifier-length
use Rattle.hostpath.proofs.hp_validate_prefix_length.Reads as hp-validate-prefix-length
use Rattle.hostpath.proofs.hp_validate_named_u64_index.Reads as hp-validate-named-u64-index
use Rattle.hostpath.proofs.hp_validate_client_type.Reads as hp-validate-client-type
use Rattle.hostpath.proofs.hp_validate_client_identifier.Reads as hp-validate-client-identifier
use Rattle.hostpath.proofs.hp_validate_connection_identifier.Reads as hp-validate-connection-identifier
use Rattle.hostpath.proofs.hp_validate_port_identifier.Reads as hp-validate-port-identifier
use Rattle.hostpath.proofs.hp_validate_channel_identifier.Reads as hp-validate-channel-identifier
use Rattle.hostpath.proofs.hp_client_id_new.Reads as hp-client-id-new
use Rattle.hostpath.proofs.hp_channel_id_new.Reads as hp-channel-id-new
use Rattle.hostpath.proofs.hp_read.Reads as hp-read
use Rattle.hostpath.proofs.hp_walk.Reads as hp-walk
use Rattle.hostpath.proofs.hp_key.Reads as hp-key
use Rattle.hostpath.proofs.hp_render.Reads as hp-render
use Rattle.hostpath.proofs.hp_is_provable.Reads as hp-is-provable
use Rattle.hostpath.proofs.hp_iteration_key.Reads as hp-iteration-key
use Rattle.hostpath.proofs.hp_read_iteration_key.Reads as hp-read-iteration-key
use Rattle.hostpath.proofs.hp_first_above.Reads as hp-first-above
use Rattle.hostpath.proofs.hp_last_below.Reads as hp-last-below
use Rattle.hostpath.proofs.hp_v2_read.Reads as hp-v2-read
use Rattle.hostpath.proofs.hp_v2_write.Reads as hp-v2-write
use Rattle.hostpath.proofs.hp_client_state_prefix.Reads as hp-client-state-prefix
use Rattle.hostpath.proofs.hp_client_state_leaf.Reads as hp-client-state-leaf
use Rattle.hostpath.proofs.hp_consensus_state_parent.Reads as hp-consensus-state-parent
use Rattle.hostpath.proofs.hp_consensus_state_leaf.Reads as hp-consensus-state-leaf
use Rattle.hostpath.proofs.hp_update_time_leaf.Reads as hp-update-time-leaf
use Rattle.hostpath.proofs.hp_update_height_leaf.Reads as hp-update-height-leaf
use Rattle.hostpath.proofs.hp_connection_prefix.Reads as hp-connection-prefix
use Rattle.hostpath.proofs.hp_channel_end_prefix.Reads as hp-channel-end-prefix
use Rattle.hostpath.proofs.hp_commitments_path.Reads as hp-commitments-path
use Rattle.hostpath.proofs.hp_acks_path.Reads as hp-acks-path
use Rattle.hostpath.proofs.hp_receipts_path.Reads as hp-receipts-path
use Rattle.hostpath.proofs.hp_commitment_prefix.Reads as hp-commitment-prefix
use Rattle.hostpath.proofs.hp_ack_prefix.Reads as hp-ack-prefix
use Rattle.hostpath.proofs.hp_receipt_prefix.Reads as hp-receipt-prefix
use Rattle.hostpath.proofs.hp_wide_validate_identifier_chars.Reads as hp-wide-validate-identifier-chars
use Rattle.hostpath.proofs.hp_wide_validate_identifier_length.Reads as hp-wide-validate-identifier-length
use Rattle.hostpath.proofs.hp_wide_validate_prefix_length.Reads as hp-wide-validate-prefix-length
use Rattle.hostpath.proofs.hp_wide_validate_named_u64_index.Reads as hp-wide-validate-named-u64-index
use Rattle.hostpath.proofs.hp_wide_validate_client_type.Reads as hp-wide-validate-client-type
use Rattle.hostpath.proofs.hp_wide_validate_client_identifier.Reads as hp-wide-validate-client-identifier
use Rattle.hostpath.proofs.hp_wide_validate_connection_identifier.Reads as hp-wide-validate-connection-identifier
use Rattle.hostpath.proofs.hp_wide_validate_port_identifier.Reads as hp-wide-validate-port-identifier
use Rattle.hostpath.proofs.hp_wide_validate_channel_identifier.Reads as hp-wide-validate-channel-identifier
use Rattle.hostpath.proofs.hp_wide_client_id_new.Reads as hp-wide-client-id-new
use Rattle.hostpath.proofs.hp_wide_read.Reads as hp-wide-read
use Rattle.hostpath.proofs.hp_wide_key.Reads as hp-wide-key
use Rattle.hostpath.proofs.hp_wide_render.Reads as hp-wide-render
use Rattle.hostpath.proofs.hp_wide_consensus_state_parent.Reads as hp-wide-consensus-state-parent
use Rattle.hostpath.proofs.hp_wide_commitments_path.Reads as hp-wide-commitments-path
use Rattle.hostpath.proofs.hp_wide_acks_path.Reads as hp-wide-acks-path
use Rattle.hostpath.proofs.hp_wide_receipts_path.Reads as hp-wide-receipts-path
use Rattle.hostpath.proofs.hp_book_new.Reads as hp-book-new
use Rattle.hostpath.proofs.hp_book_write.Reads as hp-book-write
use Rattle.hostpath.proofs.hp_book_write_lenient.Reads as hp-book-write-lenient
use Rattle.hostpath.proofs.hp_book_remove.Reads as hp-book-remove
use Rattle.hostpath.proofs.hp_book_remove_lenient.Reads as hp-book-remove-lenient
use Rattle.hostpath.proofs.hp_book_lookup.Reads as hp-book-lookup
use Rattle.hostpath.proofs.hp_book_lookup_lenient.Reads as hp-book-lookup-lenient
use Rattle.hostpath.proofs.hp_book_oldest.Reads as hp-book-oldest
use Rattle.hostpath.proofs.hp_book_clear.Reads as hp-book-clear
use Rattle.hostpath.proofs.hp_book_convert.Reads as hp-book-convert
use Rattle.hostpath.proofs.hp_book_convert_owners.Reads as hp-book-convert-owners
use Rattle.hostpath.proofs.hp_book_fill.Reads as hp-book-fill
use Rattle.hostpath.proofs.hp_book_lookup_many.Reads as hp-book-lookup-many
use Rattle.hostpath.proofs.hp_refusal_text.Reads as hp-refusal-text

pub one-hp_validate_identifier_chars : One hp-validate-identifier-chars.Post
one-hp_validate_identifier_chars κs a r₁ r₂ s₁ s₂ p q = p ∙ sym q

pub one-hp_validate_identifier_length : One hp-validate-identifier-length.Post
one-hp_validate_identifier_length κs a r₁ r₂ s₁ s₂ p q = p ∙ sym q

pub one-hp_validate_prefix_length : One hp-validate-prefix-length.Post
one-hp_validate_prefix_length κs a r₁ r₂ s₁ s₂ p q = p ∙ sym q

pub one-hp_validate_named_u64_index : One hp-validate-named-u64-index.Post
one-hp_validate_named_u64_index κs a r₁ r₂ s₁ s₂ p q = p ∙ sym q

pub one-hp_validate_client_type : One hp-validate-client-type.Post
one-hp_validate_client_type κs a r₁ r₂ s₁ s₂ p q = p ∙ sym q

pub one-hp_validate_client_identifier : One hp-validate-client-identifier.Post
one-hp_validate_client_identifier κs a r₁ r₂ s₁ s₂ p q = p ∙ sym q

pub one-hp_validate_connection_identifier : One hp-validate-connection-identifier.Post
one-hp_validate_connection_identifier κs a r₁ r₂ s₁ s₂ p q = p ∙ sym q

pub one-hp_validate_port_identifier : One hp-validate-port-identifier.Post
one-hp_validate_port_identifier κs a r₁ r₂ s₁ s₂ p q = p ∙ sym q

pub one-hp_validate_channel_identifier : One hp-validate-channel-identifier.Post
one-hp_validate_channel_identifier κs a r₁ r₂ s₁ s₂ p q = p ∙ sym q

pub one-hp_client_id_new : OneWith hp-client-id-new.Post (λ κs s. s.1.1.0.now)
one-hp_client_id_new κs a r₁ r₂ s₁ s₂ p q = agree p q

pub one-hp_channel_id_new : OneWith hp-channel-id-new.Post (λ κs s. s.1.0.now)
one-hp_channel_id_new κs a r₁ r₂ s₁ s₂ p q = agree p q

pub one-hp_read : OneWith hp-read.Post (λ κs s. s.1.0.now)
one-hp_read κs a r₁ r₂ s₁ s₂ p q = agree p q

pub one-hp_walk : OneWith hp-walk.Post (λ κs s. s.1.0.now)
one-hp_walk κs a r₁ r₂ s₁ s₂ p q = agree p q

pub one-hp_key : OneWith hp-key.Post (λ κs s. s.1.0.now)
one-hp_key κs a r₁ r₂ s₁ s₂ p q = agree p q

pub one-hp_render : OneWith hp-render.Post (λ κs s. s.1.1.1.1.1.0.now)
one-hp_render κs a r₁ r₂ s₁ s₂ p q = agree p q

pub one-hp_is_provable : One hp-is-provable.Post
one-hp_is_provable κs a r₁ r₂ s₁ s₂ p q = p ∙ sym q

pub one-hp_iteration_key : OneWith hp-iteration-key.Post (λ κs s. s.1.1.0.now)
one-hp_iteration_key κs a r₁ r₂ s₁ s₂ p q = agree p q

pub one-hp_read_iteration_key : One hp-read-iteration-key.Post
one-hp_read_iteration_key κs a r₁ r₂ s₁ s₂ p q = p ∙ sym q

pub one-hp_first_above : One hp-first-above.Post
one-hp_first_above κs a r₁ r₂ s₁ s₂ p q = p ∙ sym q

pub one-hp_last_below : One hp-last-below.Post
one-hp_last_below κs a r₁ r₂ s₁ s₂ p q = p ∙ sym q

pub one-hp_v2_read : One hp-v2-read.Post
one-hp_v2_read κs a r₁ r₂ s₁ s₂ p q = p ∙ sym q

pub one-hp_v2_write : OneWith hp-v2-write.Post (λ κs s. s.1.1.1.0.now)
one-hp_v2_write κs a r₁ r₂ s₁ s₂ p q = agree p q

pub one-hp_client_state_prefix : OneWith hp-client-state-prefix.Post (λ κs s. s.0.now)
one-hp_client_state_prefix κs a r₁ r₂ s₁ s₂ p q = agree p q

pub one-hp_client_state_leaf : OneWith hp-client-state-leaf.Post (λ κs s. s.0.now)
one-hp_client_state_leaf κs a r₁ r₂ s₁ s₂ p q = agree p q

pub one-hp_consensus_state_parent : OneWith hp-consensus-state-parent.Post (λ κs s. s.1.0.now)
one-hp_consensus_state_parent κs a r₁ r₂ s₁ s₂ p q = agree p q

pub one-hp_consensus_state_leaf : OneWith hp-consensus-state-leaf.Post (λ κs s. s.1.1.0.now)
one-hp_consensus_state_leaf κs a r₁ r₂ s₁ s₂ p q = agree p q

pub one-hp_update_time_leaf : OneWith hp-update-time-leaf.Post (λ κs s. s.1.1.0.now)
one-hp_update_time_leaf κs a r₁ r₂ s₁ s₂ p q = agree p q

pub one-hp_update_height_leaf : OneWith hp-update-height-leaf.Post (λ κs s. s.1.1.0.now)
one-hp_update_height_leaf κs a r₁ r₂ s₁ s₂ p q = agree p q

pub one-hp_connection_prefix : OneWith hp-connection-prefix.Post (λ κs s. s.0.now)
one-hp_connection_prefix κs a r₁ r₂ s₁ s₂ p q = agree p q

pub one-hp_channel_end_prefix : OneWith hp-channel-end-prefix.Post (λ κs s. s.0.now)
one-hp_channel_end_prefix κs a r₁ r₂ s₁ s₂ p q = agree p q

pub one-hp_commitments_path : OneWith hp-commitments-path.Post (λ κs s. s.1.1.0.now)
one-hp_commitments_path κs a r₁ r₂ s₁ s₂ p q = agree p q

pub one-hp_acks_path : OneWith hp-acks-path.Post (λ κs s. s.1.1.0.now)
one-hp_acks_path κs a r₁ r₂ s₁ s₂ p q = agree p q

pub one-hp_receipts_path : OneWith hp-receipts-path.Post (λ κs s. s.1.1.0.now)
one-hp_receipts_path κs a r₁ r₂ s₁ s₂ p q = agree p q

pub one-hp_commitment_prefix : OneWith hp-commitment-prefix.Post (λ κs s. s.0.now)
one-hp_commitment_prefix κs a r₁ r₂ s₁ s₂ p q = agree p q

pub one-hp_ack_prefix : OneWith hp-ack-prefix.Post (λ κs s. s.0.now)
one-hp_ack_prefix κs a r₁ r₂ s₁ s₂ p q = agree p q

pub one-hp_receipt_prefix : OneWith hp-receipt-prefix.Post (λ κs s. s.0.now)
one-hp_receipt_prefix κs a r₁ r₂ s₁ s₂ p q = agree p q

pub one-hp_wide_validate_identifier_chars : One hp-wide-validate-identifier-chars.Post
one-hp_wide_validate_identifier_chars κs a r₁ r₂ s₁ s₂ p q = p ∙ sym q

pub one-hp_wide_validate_identifier_length : One hp-wide-validate-identifier-length.Post
one-hp_wide_validate_identifier_length κs a r₁ r₂ s₁ s₂ p q = p ∙ sym q

pub one-hp_wide_validate_prefix_length : One hp-wide-validate-prefix-length.Post
one-hp_wide_validate_prefix_length κs a r₁ r₂ s₁ s₂ p q = p ∙ sym q

pub one-hp_wide_validate_named_u64_index : One hp-wide-validate-named-u64-index.Post
one-hp_wide_validate_named_u64_index κs a r₁ r₂ s₁ s₂ p q = p ∙ sym q

pub one-hp_wide_validate_client_type : One hp-wide-validate-client-type.Post
one-hp_wide_validate_client_type κs a r₁ r₂ s₁ s₂ p q = p ∙ sym q

pub one-hp_wide_validate_client_identifier : One hp-wide-validate-client-identifier.Post
one-hp_wide_validate_client_identifier κs a r₁ r₂ s₁ s₂ p q = p ∙ sym q

pub one-hp_wide_validate_connection_identifier : One hp-wide-validate-connection-identifier.Post
one-hp_wide_validate_connection_identifier κs a r₁ r₂ s₁ s₂ p q = p ∙ sym q

pub one-hp_wide_validate_port_identifier : One hp-wide-validate-port-identifier.Post
one-hp_wide_validate_port_identifier κs a r₁ r₂ s₁ s₂ p q = p ∙ sym q

pub one-hp_wide_validate_channel_identifier : One hp-wide-validate-channel-identifier.Post
one-hp_wide_validate_channel_identifier κs a r₁ r₂ s₁ s₂ p q = p ∙ sym q

pub one-hp_wide_client_id_new : OneWith hp-wide-client-id-new.Post (λ κs s. s.1.1.0.now)
one-hp_wide_client_id_new κs a r₁ r₂ s₁ s₂ p q = agree p q

pub one-hp_wide_read : OneWith hp-wide-read.Post (λ κs s. s.1.0.now)
one-hp_wide_read κs a r₁ r₂ s₁ s₂ p q = agree p q

pub one-hp_wide_key : OneWith hp-wide-key.Post (λ κs s. s.1.0.now)
one-hp_wide_key κs a r₁ r₂ s₁ s₂ p q = agree p q

pub one-hp_wide_render : OneWith hp-wide-render.Post (λ κs s. s.1.1.1.1.1.0.now)
one-hp_wide_render κs a r₁ r₂ s₁ s₂ p q = agree p q

pub one-hp_wide_consensus_state_parent : OneWith hp-wide-consensus-state-parent.Post (λ κs s. s.1.0.now)
one-hp_wide_consensus_state_parent κs a r₁ r₂ s₁ s₂ p q = agree p q

pub one-hp_wide_commitments_path : OneWith hp-wide-commitments-path.Post (λ κs s. s.1.1.0.now)
one-hp_wide_commitments_path κs a r₁ r₂ s₁ s₂ p q = agree p q

pub one-hp_wide_acks_path : OneWith hp-wide-acks-path.Post (λ κs s. s.1.1.0.now)
one-hp_wide_acks_path κs a r₁ r₂ s₁ s₂ p q = agree p q

pub one-hp_wide_receipts_path : OneWith hp-wide-receipts-path.Post (λ κs s. s.1.1.0.now)
one-hp_wide_receipts_path κs a r₁ r₂ s₁ s₂ p q = agree p q

pub one-hp_book_new : OneWith hp-book-new.Post (λ κs s. s.0.now)
one-hp_book_new κs a r₁ r₂ s₁ s₂ p q = one-made lawful _ _ _ _ _ _ p q

pub one-hp_book_write : OneWith hp-book-write.Post (λ κs s. s.0.now)
one-hp_book_write κs a r₁ r₂ s₁ s₂ p q = one_changed lawful p q

pub one-hp_book_remove : OneWith hp-book-remove.Post (λ κs s. s.0.now)
one-hp_book_remove κs a r₁ r₂ s₁ s₂ p q = one_changed lawful p q

pub one-hp_book_lookup : OneWith hp-book-lookup.Post (λ κs s. s.1.1.1.0.now)
one-hp_book_lookup κs a r₁ r₂ s₁ s₂ p q = one_found lawful p q

pub one-hp_book_write_lenient : OneWith hp-book-write-lenient.Post (λ κs s. s.0.now)
one-hp_book_write_lenient κs a r₁ r₂ s₁ s₂ p q = one_changed lawful p q

pub one-hp_book_remove_lenient : OneWith hp-book-remove-lenient.Post (λ κs s. s.0.now)
one-hp_book_remove_lenient κs a r₁ r₂ s₁ s₂ p q = one_changed lawful p q

pub one-hp_book_lookup_lenient : OneWith hp-book-lookup-lenient.Post (λ κs s. s.1.1.1.0.now)
one-hp_book_lookup_lenient κs a r₁ r₂ s₁ s₂ p q = one_found lawful p q

pub one-hp_book_oldest : One hp-book-oldest.Post
one-hp_book_oldest κs a r₁ r₂ s₁ s₂ p q = one-oldest Current lawful _ _ _ _ _ p q

pub one-hp_book_clear : OneWith hp-book-clear.Post (λ κs s. s.0.now)
one-hp_book_clear κs a r₁ r₂ s₁ s₂ p q = one-cleared Current lawful p q

-- the second buffer
pub one-hp_book_convert : OneWith hp-book-convert.Post (λ κs s. s.1.0.now)
one-hp_book_convert κs a r₁ r₂ s₁ s₂ p q = one-converted p q

pub one-hp_book_convert_owners : OneWith hp-book-convert-owners.Post (λ κs s. s.1.0.now)
one-hp_book_convert_owners κs a r₁ r₂ s₁ s₂ p q = one-owners p q

pub one-hp_book_fill : OneWith hp-book-fill.Post (λ κs s. s.1.0.now)
one-hp_book_fill κs a r₁ r₂ s₁ s₂ p q = one-fills Current lawful p q

pub one-hp_book_lookup_many : OneWith hp-book-lookup-many.Post (λ κs s. s.1.1.1.1.0.now)
one-hp_book_lookup_many κs a r₁ r₂ s₁ s₂ p q = one_many Current lawful p q

pub one-hp_refusal_text : OneWith hp-refusal-text.Post (λ κs s. s.1.0.now)
one-hp_refusal_text κs a r₁ r₂ s₁ s₂ p q = agree p q
