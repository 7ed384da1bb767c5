-- Demand 1, of each exported call, and of each public function below them that asks nothing of its caller and is lent a buffer to write or answers
-- a refusal number: it accepts all bytes and numbers, comes back with an answer or a refusal whose number document 01 lists for
-- the call, with length, numbers and value 0, and a refusal changes no byte of a lent buffer. What is said of each is `Demand1` in `Shape`; a
-- line here has the numbers listed, where the refusal and the other numbers stand in the answer, and where the buffer stands. The place that
-- stands beside 17, 18 and 19 is told in `Faults`.
-- Assumes nothing.
use Rattle.std.specs.Prelude.{ℕ, ◌≡◌, refl, List, [], ◌∷◌, ◌++◌}
use Rattle.std.proofs.Common.{ap, subst, sym, ◌∙◌, arith}
use Rattle.text.specs.Bytes.{bytes}
use Rattle.text.specs.Number.{decimal}
use Rattle.text.specs.Put.{text}
use Rattle.text.specs.Refusal.{sentence}
use Rattle.text.specs.declared.Fault.{Fault}
use Rattle.identifiers.specs.Check.{named_index_fault, fault_of}
use Rattle.identifiers.specs.Check as check
use Rattle.identifiers.specs.Owned.{as_written, new_client, new_channel, made_client, made_connection, made_channel, made_port}
use Rattle.identifiers.specs.declared.client_id.ClientId.{ClientId}
use Rattle.identifiers.specs.declared.connection_id.ConnectionId.{ConnectionId}
use Rattle.identifiers.specs.declared.channel_id.ChannelId.{ChannelId}
use Rattle.identifiers.specs.declared.port_id.PortId.{PortId}
use Rattle.path.specs.Kinds.{word, carried}
use Rattle.path.specs.Read.{render_of, key_of, bytes_by, reading_bytes, read_fault}
use Rattle.path.specs.Parents.{text_of, consensus_parent, consensus_leaf, packets_path}
use Rattle.path.specs.Revision.{revision}
use Rattle.writers.specs.Texts.{parent_text}
use Rattle.reading.specs.Encode.{view_bytes, answer_by}
use Rattle.key.specs.Key.{shown_by}
use Rattle.wide.specs.Mode.{wide}
use Rattle.wide.specs.Check.{named_index_fault_in, fault_in, new_client_in}
use Rattle.wide.specs.Read.{read_fault_in, reading_bytes_in, key_in}
use Rattle.wide.specs.Render.{render_in, text_in}
use Rattle.book_records.specs.declared.Manner.TheVariants.{Plain, Lenient}
use Rattle.book_records.specs.Calls.{write, remove, key_for}
use Rattle.book_key.specs.declared.MadeKey.{MadeKey}
use Rattle.iteration.specs.Block.{block_of, first_above, last_below, scanned}
use Rattle.iteration.specs.Key.{iteration_key, key_revision, answered, pair_of}
use Rattle.packet.specs.Key.{packet_wanted, packet_of}
use Rattle.demands.specs.Numbers.{readings, renderings, clients, ends, wide_readings, wide_renderings, wide_clients, wide_ends, packet_reads, packet_writes, write_numbers, remove_numbers, look_numbers, new_numbers, convert_numbers, convert_owners_numbers, oldest_numbers, clear_numbers, fill_numbers, many_numbers, named, indexes, wide_named, wide_indexes, names, wide_names, unread, room, key_numbers}
use Rattle.demands.specs.Shape.{Listed, number_in, others_in, Demand1}
use Rattle.demands.specs.ShapeLaws.{writes, writes-number, checks, key_wants, reading_wants, render_wants, client_wants, channel_wants, leaf_wants, update_wants, parent_wants, packets_wants, plain_of, indexed_of, name_of, named-number, chars-number, length-number, prefix-number, named-index-number, bytes_wants, answer-listed}
use Rattle.demands.specs.FunctionShapeLaws.{within-number, wide_chars-number, reading-number, shown_wants, written_listed, owned, made-number, made-alone, key-listed, key-number}
use Rattle.demands.specs.WideShapeLaws as wides
use Rattle.demands.specs.IterationLaws.{pairs, key-refuses, scan-refuses}
use Rattle.demands.specs.PacketLaws.{packet_wants, packets}
use Rattle.demands.specs.BookNumberLaws.{unread_of, in-plain, write-listed, remove-listed, provable_demand, made_demand, changed_demand, found_demand, converted_demand, owned_demand, oldest_demand, cleared_demand}
use Rattle.demands.specs.TableNumberLaws.{filled_demand, looked_many_demand}
use Rattle.hostpath.proofs.hp_client_id_new.Reads as hp-client-id-new
use Rattle.hostpath.proofs.hp_channel_id_new.Reads as hp-channel-id-new
use Rattle.hostpath.proofs.hp_key.Reads as hp-key
use Rattle.hostpath.proofs.hp_render.Reads as hp-render
use Rattle.hostpath.proofs.hp_iteration_key.Reads as hp-iteration-key
use Rattle.hostpath.proofs.hp_read_iteration_key.Reads as hp-read-iteration-key
use Rattle.hostpath.proofs.hp_first_above.Reads as hp-first-above
use Rattle.hostpath.proofs.hp_last_below.Reads as hp-last-below
use Rattle.hostpath.proofs.hp_v2_read.Reads as hp-v2-read
use Rattle.hostpath.proofs.hp_v2_write.Reads as hp-v2-write
use Rattle.hostpath.proofs.hp_client_state_prefix.Reads as hp-client-state-prefix
use Rattle.hostpath.proofs.hp_client_state_leaf.Reads as hp-client-state-leaf
use Rattle.hostpath.proofs.hp_consensus_state_parent.Reads as hp-consensus-state-parent
use Rattle.hostpath.proofs.hp_consensus_state_leaf.Reads as hp-consensus-state-leaf
use Rattle.hostpath.proofs.hp_update_time_leaf.Reads as hp-update-time-leaf
use Rattle.hostpath.proofs.hp_update_height_leaf.Reads as hp-update-height-leaf
use Rattle.hostpath.proofs.hp_connection_prefix.Reads as hp-connection-prefix
use Rattle.hostpath.proofs.hp_channel_end_prefix.Reads as hp-channel-end-prefix
use Rattle.hostpath.proofs.hp_commitments_path.Reads as hp-commitments-path
use Rattle.hostpath.proofs.hp_acks_path.Reads as hp-acks-path
use Rattle.hostpath.proofs.hp_receipts_path.Reads as hp-receipts-path
use Rattle.hostpath.proofs.hp_commitment_prefix.Reads as hp-commitment-prefix
use Rattle.hostpath.proofs.hp_ack_prefix.Reads as hp-ack-prefix
use Rattle.hostpath.proofs.hp_receipt_prefix.Reads as hp-receipt-prefix
use Rattle.hostpath.proofs.hp_validate_identifier_chars.Reads as hp-validate-identifier-chars
use Rattle.hostpath.proofs.hp_validate_identifier_length.Reads as hp-validate-identifier-length
use Rattle.hostpath.proofs.hp_validate_prefix_length.Reads as hp-validate-prefix-length
use Rattle.hostpath.proofs.hp_validate_named_u64_index.Reads as hp-validate-named-u64-index
use Rattle.hostpath.proofs.hp_validate_client_type.Reads as hp-validate-client-type
use Rattle.hostpath.proofs.hp_validate_client_identifier.Reads as hp-validate-client-identifier
use Rattle.hostpath.proofs.hp_validate_connection_identifier.Reads as hp-validate-connection-identifier
use Rattle.hostpath.proofs.hp_validate_port_identifier.Reads as hp-validate-port-identifier
use Rattle.hostpath.proofs.hp_validate_channel_identifier.Reads as hp-validate-channel-identifier
use Rattle.hostpath.proofs.hp_read.Reads as hp-read
use Rattle.hostpath.proofs.hp_walk.Reads as hp-walk
use Rattle.hostpath.proofs.hp_wide_validate_identifier_chars.Reads as hp-wide-validate-identifier-chars
use Rattle.hostpath.proofs.hp_wide_validate_identifier_length.Reads as hp-wide-validate-identifier-length
use Rattle.hostpath.proofs.hp_wide_validate_prefix_length.Reads as hp-wide-validate-prefix-length
use Rattle.hostpath.proofs.hp_wide_validate_named_u64_index.Reads as hp-wide-validate-named-u64-index
use Rattle.hostpath.proofs.hp_wide_validate_client_type.Reads as hp-wide-validate-client-type
use Rattle.hostpath.proofs.hp_wide_validate_client_identifier.Reads as hp-wide-validate-client-identifier
use Rattle.hostpath.proofs.hp_wide_validate_connection_identifier.Reads as hp-wide-validate-connection-identifier
use Rattle.hostpath.proofs.hp_wide_validate_port_identifier.Reads as hp-wide-validate-port-identifier
use Rattle.hostpath.proofs.hp_wide_validate_channel_identifier.Reads as hp-wide-validate-channel-identifier
use Rattle.hostpath.proofs.hp_wide_client_id_new.Reads as hp-wide-client-id-new
use Rattle.hostpath.proofs.hp_wide_read.Reads as hp-wide-read
use Rattle.hostpath.proofs.hp_wide_key.Reads as hp-wide-key
use Rattle.hostpath.proofs.hp_wide_render.Reads as hp-wide-render
use Rattle.hostpath.proofs.hp_wide_consensus_state_parent.Reads as hp-wide-consensus-state-parent
use Rattle.hostpath.proofs.hp_wide_commitments_path.Reads as hp-wide-commitments-path
use Rattle.hostpath.proofs.hp_wide_acks_path.Reads as hp-wide-acks-path
use Rattle.hostpath.proofs.hp_wide_receipts_path.Reads as hp-wide-receipts-path
use Rattle.hostpath.proofs.hp_is_provable.Reads as hp-is-provable
use Rattle.hostpath.proofs.hp_book_new.Reads as hp-book-new
use Rattle.hostpath.proofs.hp_book_write.Reads as hp-book-write
use Rattle.hostpath.proofs.hp_book_write_lenient.Reads as hp-book-write-lenient
use Rattle.hostpath.proofs.hp_book_remove.Reads as hp-book-remove
use Rattle.hostpath.proofs.hp_book_remove_lenient.Reads as hp-book-remove-lenient
use Rattle.hostpath.proofs.hp_book_lookup.Reads as hp-book-lookup
use Rattle.hostpath.proofs.hp_book_lookup_lenient.Reads as hp-book-lookup-lenient
use Rattle.hostpath.proofs.hp_book_oldest.Reads as hp-book-oldest
use Rattle.hostpath.proofs.hp_book_clear.Reads as hp-book-clear
use Rattle.hostpath.proofs.hp_book_convert.Reads as hp-book-convert
use Rattle.hostpath.proofs.hp_book_convert_owners.Reads as hp-book-convert-owners
use Rattle.hostpath.proofs.hp_book_fill.Reads as hp-book-fill
use Rattle.hostpath.proofs.hp_book_lookup_many.Reads as hp-book-lookup-many
use Rattle.hostpath.proofs.hp_refusal_text.Reads as hp-refusal-text
use Rattle.render.proofs.render.Reads as render
use Rattle.key.proofs.write_key.Reads as write-key
use Rattle.reader.proofs.write_reading.Reads as write-reading
use Rattle.walk.proofs.write_walk.Reads as write-walk
use Rattle.iteration.proofs.iteration_key.Reads as iteration-key
use Rattle.packet.proofs.write_packet_key.Reads as write-packet-key
use Rattle.identifiers.proofs.client_id.write_client_id.Reads as write-client-id
use Rattle.identifiers.proofs.channel_id.write_channel_id.Reads as write-channel-id
use Rattle.render.proofs.texts.client_state_prefix.Reads as client-state-prefix
use Rattle.render.proofs.texts.client_state_leaf.Reads as client-state-leaf
use Rattle.render.proofs.texts.consensus_state_parent.Reads as consensus-state-parent
use Rattle.render.proofs.texts.consensus_state_leaf.Reads as consensus-state-leaf
use Rattle.render.proofs.texts.update_time_leaf.Reads as update-time-leaf
use Rattle.render.proofs.texts.update_height_leaf.Reads as update-height-leaf
use Rattle.render.proofs.texts.connection_prefix.Reads as connection-prefix
use Rattle.render.proofs.texts.channel_end_prefix.Reads as channel-end-prefix
use Rattle.render.proofs.texts.commitments_path.Reads as commitments-path
use Rattle.render.proofs.texts.acks_path.Reads as acks-path
use Rattle.render.proofs.texts.receipts_path.Reads as receipts-path
use Rattle.render.proofs.texts.commitment_prefix.Reads as commitment-prefix
use Rattle.render.proofs.texts.ack_prefix.Reads as ack-prefix
use Rattle.render.proofs.texts.receipt_prefix.Reads as receipt-prefix
use Rattle.wide.proofs.client_id.write_client_id.Reads as wide-write-client-id
use Rattle.wide.proofs.read.write_key.Reads as wide-write-key
use Rattle.wide.proofs.read.write_reading.Reads as wide-write-reading
use Rattle.wide.proofs.rendering.render.Reads as wide-render
use Rattle.wide.proofs.rendering.consensus_state_parent.Reads as wide-consensus-state-parent
use Rattle.wide.proofs.rendering.commitments_path.Reads as wide-commitments-path
use Rattle.wide.proofs.rendering.acks_path.Reads as wide-acks-path
use Rattle.wide.proofs.rendering.receipts_path.Reads as wide-receipts-path
use Rattle.text.proofs.put.give.Reads as give
use Rattle.sentences.proofs.give_sentence.Reads as give-sentence
use Rattle.book_key.proofs.key_of.Reads as key_of_it
use Rattle.identifiers.proofs.validate.validate_identifier_chars.Reads as validate-identifier-chars
use Rattle.identifiers.proofs.validate.length_within.Reads as length-within
use Rattle.identifiers.proofs.validate.check_named.Reads as check-named
use Rattle.identifiers.proofs.validate.validate_identifier_length.Reads as validate-identifier-length
use Rattle.identifiers.proofs.validate.validate_prefix_length.Reads as validate-prefix-length
use Rattle.identifiers.proofs.validate.validate_named_u64_index.Reads as validate-named-u64-index
use Rattle.identifiers.proofs.validate.validate_client_type.Reads as validate-client-type
use Rattle.identifiers.proofs.validate.validate_client_identifier.Reads as validate-client-identifier
use Rattle.identifiers.proofs.validate.validate_connection_identifier.Reads as validate-connection-identifier
use Rattle.identifiers.proofs.validate.validate_port_identifier.Reads as validate-port-identifier
use Rattle.identifiers.proofs.validate.validate_channel_identifier.Reads as validate-channel-identifier
use Rattle.identifiers.proofs.write_named.Reads as write-named
use Rattle.identifiers.proofs.client_id.ClientId.from_str.Reads as client-id-from-str
use Rattle.identifiers.proofs.client_id.ClientId.new.Reads as client-id-new
use Rattle.identifiers.proofs.connection_id.ConnectionId.from_str.Reads as connection-id-from-str
use Rattle.identifiers.proofs.channel_id.ChannelId.from_str.Reads as channel-id-from-str
use Rattle.identifiers.proofs.port_id.PortId.from_str.Reads as port-id-from-str
use Rattle.letters.proofs.check.wide_chars.Reads as wide-chars
use Rattle.wide.proofs.validate.validate_identifier_chars.Reads as wide-validate-identifier-chars
use Rattle.wide.proofs.validate.validate_identifier_length.Reads as wide-validate-identifier-length
use Rattle.wide.proofs.validate.validate_prefix_length.Reads as wide-validate-prefix-length
use Rattle.wide.proofs.validate.validate_named_u64_index.Reads as wide-validate-named-u64-index
use Rattle.wide.proofs.validate.validate_client_type.Reads as wide-validate-client-type
use Rattle.wide.proofs.validate.validate_client_identifier.Reads as wide-validate-client-identifier
use Rattle.wide.proofs.validate.validate_connection_identifier.Reads as wide-validate-connection-identifier
use Rattle.wide.proofs.validate.validate_port_identifier.Reads as wide-validate-port-identifier
use Rattle.wide.proofs.validate.validate_channel_identifier.Reads as wide-validate-channel-identifier
use Rattle.wide.proofs.rendering.name_fault.Reads as wide-name-fault
use Rattle.path.proofs.name.name_fault.Reads as name-fault
use Rattle.path.proofs.fault_of.Reads as fault-of
use Rattle.path.proofs.refusal_of.Reads as refusal-of
use Rattle.path.proofs.provable.kind_is_provable.Reads as kind-is-provable
use Rattle.reading.proofs.write_answer.Reads as write-answer
use Rattle.reading.proofs.encode.write_view.Reads as write_view
use Rattle.render.proofs.texts.fit_parent.Reads as fit-parent
use Rattle.key.proofs.write_shown.Reads as write-shown
use Rattle.iteration.proofs.read_iteration_key.Reads as read-iteration-key
use Rattle.iteration.proofs.block.first_above.Reads as first_above_lem
use Rattle.iteration.proofs.block.last_below.Reads as last_below_lem
use Rattle.packet.proofs.read_packet_key.Reads as read-packet-key
use Rattle.book.proofs.new_book.Reads as new_book
use Rattle.book.proofs.write.Reads as book-write
use Rattle.book.proofs.remove.Reads as book-remove
use Rattle.book.proofs.lookup.Reads as book-lookup
use Rattle.book_oldest.proofs.oldest.Reads as oldest
use Rattle.book_clear.proofs.clear.Reads as clear
use Rattle.book_convert.proofs.convert.Reads as convert
use Rattle.book_convert.proofs.convert_owners.Reads as convert-owners
use Rattle.book_table.proofs.many.fill.Reads as fill
use Rattle.book_table.proofs.many.look_many.Reads as look-many

-- ---- calls that write a text
pub hp_client_id_new_holds : Demand1 hp-client-id-new.Pre hp-client-id-new.Post clients (λ κs r. r.refusal) (λ κs r. r.length ∷ []) (λ κs a. a.1.1.0.now) (λ κs s. s.1.1.0.now)
hp_client_id_new_holds = writes clients _ _ (λ κs a. tt) (λ κs r. r) (λ κs a. new_client a.0.now a.1.0) refl refl (λ κs a. client_wants _ _) (λ κs a r s p. p)

pub hp_channel_id_new_holds : Demand1 hp-channel-id-new.Pre hp-channel-id-new.Post room (λ κs r. r.refusal) (λ κs r. r.length ∷ []) (λ κs a. a.1.0.now) (λ κs s. s.1.0.now)
hp_channel_id_new_holds = writes room _ _ (λ κs a. tt) (λ κs r. r) (λ κs a. new_channel a.0) refl refl (λ κs a. channel_wants room a.0) (λ κs a r s p. p)

pub hp_key_holds : Demand1 hp-key.Pre hp-key.Post readings (λ κs r. r.refusal) (λ κs r. r.length ∷ []) (λ κs a. a.1.0.now) (λ κs s. s.1.0.now)
hp_key_holds = writes readings _ _ (λ κs a. tt) (λ κs r. r) (λ κs a. key_of a.0.now) refl refl (λ κs a. key_wants _) (λ κs a r s p. p)

pub hp_render_holds : Demand1 hp-render.Pre hp-render.Post renderings (λ κs r. r.refusal) (λ κs r. r.length ∷ []) (λ κs a. a.1.1.1.1.1.0.now) (λ κs s. s.1.1.1.1.1.0.now)
hp_render_holds = writes renderings _ _ (λ κs a. tt) (λ κs r. r) (λ κs a. render_of a.0 (carried a.1.0.now a.1.1.0.now a.1.1.1.0 a.1.1.1.1.0)) refl refl (λ κs a. render_wants _ _) (λ κs a r s p. p)

pub hp_iteration_key_holds : Demand1 hp-iteration-key.Pre hp-iteration-key.Post room (λ κs r. r.refusal) (λ κs r. r.length ∷ []) (λ κs a. a.1.1.0.now) (λ κs s. s.1.1.0.now)
hp_iteration_key_holds = writes room _ _ (λ κs a. tt) (λ κs r. r) (λ κs a. text (iteration_key a.0 a.1.0)) refl refl (λ κs a. tt) (λ κs a r s p. p)

pub hp_v2_write_holds : Demand1 hp-v2-write.Pre hp-v2-write.Post packet_writes (λ κs r. r.refusal) (λ κs r. r.length ∷ []) (λ κs a. a.1.1.1.0.now) (λ κs s. s.1.1.1.0.now)
hp_v2_write_holds = writes packet_writes _ _ (λ κs a. tt) (λ κs r. r) (λ κs a. packet_wanted a.0 a.1.0.now a.1.1.0) refl refl (λ κs a. packet_wants _ _ _) (λ κs a r s p. p)

pub hp_client_state_prefix_holds : Demand1 hp-client-state-prefix.Pre hp-client-state-prefix.Post room (λ κs r. r.refusal) (λ κs r. r.length ∷ []) (λ κs a. a.0.now) (λ κs s. s.0.now)
hp_client_state_prefix_holds = writes room _ _ (λ κs a. tt) (λ κs r. r) (λ κs a. text (bytes "clients")) refl refl (λ κs a. tt) (λ κs a r s p. p)

pub hp_client_state_leaf_holds : Demand1 hp-client-state-leaf.Pre hp-client-state-leaf.Post room (λ κs r. r.refusal) (λ κs r. r.length ∷ []) (λ κs a. a.0.now) (λ κs s. s.0.now)
hp_client_state_leaf_holds = writes room _ _ (λ κs a. tt) (λ κs r. r) (λ κs a. text (bytes "clientState")) refl refl (λ κs a. tt) (λ κs a r s p. p)

pub hp_consensus_state_parent_holds : Demand1 hp-consensus-state-parent.Pre hp-consensus-state-parent.Post clients (λ κs r. r.refusal) (λ κs r. r.length ∷ []) (λ κs a. a.1.0.now) (λ κs s. s.1.0.now)
hp_consensus_state_parent_holds = writes clients _ _ (λ κs a. tt) (λ κs r. r) (λ κs a. text_of consensus_parent (carried a.0.now [] 0 0)) refl refl (λ κs a. parent_wants _) (λ κs a r s p. p)

pub hp_consensus_state_leaf_holds : Demand1 hp-consensus-state-leaf.Pre hp-consensus-state-leaf.Post room (λ κs r. r.refusal) (λ κs r. r.length ∷ []) (λ κs a. a.1.1.0.now) (λ κs s. s.1.1.0.now)
hp_consensus_state_leaf_holds = writes room _ _ (λ κs a. tt) (λ κs r. r) (λ κs a. text_of (consensus_leaf []) (carried [] [] a.0 a.1.0)) refl refl (λ κs a. leaf_wants room (carried [] [] a.0 a.1.0) (bytes "consensusStates")) (λ κs a r s p. p)

pub hp_update_time_leaf_holds : Demand1 hp-update-time-leaf.Pre hp-update-time-leaf.Post room (λ κs r. r.refusal) (λ κs r. r.length ∷ []) (λ κs a. a.1.1.0.now) (λ κs s. s.1.1.0.now)
hp_update_time_leaf_holds = writes room _ _ (λ κs a. tt) (λ κs r. r) (λ κs a. text_of (consensus_leaf (word (bytes "processedTime") ∷ [])) (carried [] [] a.0 a.1.0)) refl refl (λ κs a. update_wants room (carried [] [] a.0 a.1.0) (bytes "consensusStates") (bytes "processedTime")) (λ κs a r s p. p)

pub hp_update_height_leaf_holds : Demand1 hp-update-height-leaf.Pre hp-update-height-leaf.Post room (λ κs r. r.refusal) (λ κs r. r.length ∷ []) (λ κs a. a.1.1.0.now) (λ κs s. s.1.1.0.now)
hp_update_height_leaf_holds = writes room _ _ (λ κs a. tt) (λ κs r. r) (λ κs a. text_of (consensus_leaf (word (bytes "processedHeight") ∷ [])) (carried [] [] a.0 a.1.0)) refl refl (λ κs a. update_wants room (carried [] [] a.0 a.1.0) (bytes "consensusStates") (bytes "processedHeight")) (λ κs a r s p. p)

pub hp_connection_prefix_holds : Demand1 hp-connection-prefix.Pre hp-connection-prefix.Post room (λ κs r. r.refusal) (λ κs r. r.length ∷ []) (λ κs a. a.0.now) (λ κs s. s.0.now)
hp_connection_prefix_holds = writes room _ _ (λ κs a. tt) (λ κs r. r) (λ κs a. text (bytes "connections")) refl refl (λ κs a. tt) (λ κs a r s p. p)

pub hp_channel_end_prefix_holds : Demand1 hp-channel-end-prefix.Pre hp-channel-end-prefix.Post room (λ κs r. r.refusal) (λ κs r. r.length ∷ []) (λ κs a. a.0.now) (λ κs s. s.0.now)
hp_channel_end_prefix_holds = writes room _ _ (λ κs a. tt) (λ κs r. r) (λ κs a. text (bytes "channelEnds")) refl refl (λ κs a. tt) (λ κs a r s p. p)

pub hp_commitments_path_holds : Demand1 hp-commitments-path.Pre hp-commitments-path.Post ends (λ κs r. r.refusal) (λ κs r. r.length ∷ []) (λ κs a. a.1.1.0.now) (λ κs s. s.1.1.0.now)
hp_commitments_path_holds = writes ends _ _ (λ κs a. tt) (λ κs r. r) (λ κs a. text_of (packets_path (bytes "commitments")) (carried a.0.now a.1.0.now 0 0)) refl refl (λ κs a. packets_wants _ _) (λ κs a r s p. p)

pub hp_acks_path_holds : Demand1 hp-acks-path.Pre hp-acks-path.Post ends (λ κs r. r.refusal) (λ κs r. r.length ∷ []) (λ κs a. a.1.1.0.now) (λ κs s. s.1.1.0.now)
hp_acks_path_holds = writes ends _ _ (λ κs a. tt) (λ κs r. r) (λ κs a. text_of (packets_path (bytes "acks")) (carried a.0.now a.1.0.now 0 0)) refl refl (λ κs a. packets_wants _ _) (λ κs a r s p. p)

pub hp_receipts_path_holds : Demand1 hp-receipts-path.Pre hp-receipts-path.Post ends (λ κs r. r.refusal) (λ κs r. r.length ∷ []) (λ κs a. a.1.1.0.now) (λ κs s. s.1.1.0.now)
hp_receipts_path_holds = writes ends _ _ (λ κs a. tt) (λ κs r. r) (λ κs a. text_of (packets_path (bytes "receipts")) (carried a.0.now a.1.0.now 0 0)) refl refl (λ κs a. packets_wants _ _) (λ κs a r s p. p)

pub hp_commitment_prefix_holds : Demand1 hp-commitment-prefix.Pre hp-commitment-prefix.Post room (λ κs r. r.refusal) (λ κs r. r.length ∷ []) (λ κs a. a.0.now) (λ κs s. s.0.now)
hp_commitment_prefix_holds = writes room _ _ (λ κs a. tt) (λ κs r. r) (λ κs a. text (bytes "commitments")) refl refl (λ κs a. tt) (λ κs a r s p. p)

pub hp_ack_prefix_holds : Demand1 hp-ack-prefix.Pre hp-ack-prefix.Post room (λ κs r. r.refusal) (λ κs r. r.length ∷ []) (λ κs a. a.0.now) (λ κs s. s.0.now)
hp_ack_prefix_holds = writes room _ _ (λ κs a. tt) (λ κs r. r) (λ κs a. text (bytes "acks")) refl refl (λ κs a. tt) (λ κs a r s p. p)

pub hp_receipt_prefix_holds : Demand1 hp-receipt-prefix.Pre hp-receipt-prefix.Post room (λ κs r. r.refusal) (λ κs r. r.length ∷ []) (λ κs a. a.0.now) (λ κs s. s.0.now)
hp_receipt_prefix_holds = writes room _ _ (λ κs a. tt) (λ κs r. r) (λ κs a. text (bytes "receipts")) refl refl (λ κs a. tt) (λ κs a r s p. p)

pub hp_read_holds : Demand1 hp-read.Pre hp-read.Post readings (λ κs r. r.refusal) (λ κs r. []) (λ κs a. a.1.0.now) (λ κs s. s.1.0.now)
unfolding read_fault
hp_read_holds = writes-number readings _ _ (λ κs a. tt) (λ κs r. r.refusal) (λ κs a. reading_bytes a.0.now) refl refl (λ κs a. reading_wants _) (λ κs a r s p. (ap (λ (f : Fault). f.refusal) p.0, p.1))

pub hp_walk_holds : Demand1 hp-walk.Pre hp-walk.Post readings (λ κs r. r.refusal) (λ κs r. []) (λ κs a. a.1.0.now) (λ κs s. s.1.0.now)
unfolding read_fault
hp_walk_holds = writes-number readings _ _ (λ κs a. tt) (λ κs r. r.refusal) (λ κs a. reading_bytes a.0.now) refl refl (λ κs a. reading_wants _) (λ κs a r s p. (ap (λ (f : Fault). f.refusal) p.0, p.1))

-- ---- calls that are lent nothing to write
pub hp_validate_identifier_chars_holds : Demand1 hp-validate-identifier-chars.Pre hp-validate-identifier-chars.Post (2 ∷ 5 ∷ []) (λ κs r. r) (λ κs r. []) (λ κs a. []) (λ κs s. [])
hp_validate_identifier_chars_holds = checks (2 ∷ 5 ∷ []) (λ κs a. tt) (λ κs r. r) (λ κs a r s p. subst (Listed (2 ∷ 5 ∷ [])) (sym p) (chars-number (Listed (2 ∷ 5 ∷ [])) refl refl refl _))

pub hp_validate_identifier_length_holds : Demand1 hp-validate-identifier-length.Pre hp-validate-identifier-length.Post (2 ∷ 6 ∷ []) (λ κs r. r) (λ κs r. []) (λ κs a. []) (λ κs s. [])
hp_validate_identifier_length_holds = checks (2 ∷ 6 ∷ []) (λ κs a. tt) (λ κs r. r) (λ κs a r s p. subst (Listed (2 ∷ 6 ∷ [])) (sym p) (length-number (Listed (2 ∷ 6 ∷ [])) refl refl refl _ _ _))

pub hp_validate_prefix_length_holds : Demand1 hp-validate-prefix-length.Pre hp-validate-prefix-length.Post (2 ∷ 6 ∷ []) (λ κs r. r) (λ κs r. []) (λ κs a. []) (λ κs s. [])
hp_validate_prefix_length_holds = checks (2 ∷ 6 ∷ []) (λ κs a. tt) (λ κs r. r) (λ κs a r s p. subst (Listed (2 ∷ 6 ∷ [])) (sym p) (prefix-number (Listed (2 ∷ 6 ∷ [])) refl refl refl _ _ _))

pub hp_validate_named_u64_index_holds : Demand1 hp-validate-named-u64-index.Pre hp-validate-named-u64-index.Post named (λ κs r. r.refusal) (λ κs r. []) (λ κs a. []) (λ κs s. [])
unfolding named_index_fault
hp_validate_named_u64_index_holds = checks named (λ κs a. tt) (λ κs r. r.refusal) (λ κs a r s p. subst (Listed named) (sym (ap (λ (f : Fault). f.refusal) p)) (named-index-number (Listed named) refl refl refl refl refl refl _ _))

pub hp_validate_client_type_holds : Demand1 hp-validate-client-type.Pre hp-validate-client-type.Post (2 ∷ 5 ∷ 6 ∷ []) (λ κs r. r) (λ κs r. []) (λ κs a. []) (λ κs s. [])
hp_validate_client_type_holds = checks (2 ∷ 5 ∷ 6 ∷ []) (λ κs a. tt) (λ κs r. r) (λ κs a r s p. subst (Listed (2 ∷ 5 ∷ 6 ∷ [])) (sym p) (plain_of (Listed (2 ∷ 5 ∷ 6 ∷ [])) refl refl refl refl 7 43 _))

pub hp_validate_client_identifier_holds : Demand1 hp-validate-client-identifier.Pre hp-validate-client-identifier.Post (2 ∷ 5 ∷ 6 ∷ []) (λ κs r. r) (λ κs r. []) (λ κs a. []) (λ κs s. [])
hp_validate_client_identifier_holds = checks (2 ∷ 5 ∷ 6 ∷ []) (λ κs a. tt) (λ κs r. r) (λ κs a r s p. subst (Listed (2 ∷ 5 ∷ 6 ∷ [])) (sym p) (plain_of (Listed (2 ∷ 5 ∷ 6 ∷ [])) refl refl refl refl 9 64 _))

pub hp_validate_connection_identifier_holds : Demand1 hp-validate-connection-identifier.Pre hp-validate-connection-identifier.Post indexes (λ κs r. r.refusal) (λ κs r. []) (λ κs a. []) (λ κs s. [])
unfolding fault_of
hp_validate_connection_identifier_holds = checks indexes (λ κs a. tt) (λ κs r. r.refusal) (λ κs a r s p. subst (Listed indexes) (sym (ap (λ (f : Fault). f.refusal) p)) (indexed_of (Listed indexes) refl refl refl refl refl refl refl refl 10 64 _ _))

pub hp_validate_port_identifier_holds : Demand1 hp-validate-port-identifier.Pre hp-validate-port-identifier.Post (2 ∷ 5 ∷ 6 ∷ []) (λ κs r. r) (λ κs r. []) (λ κs a. []) (λ κs s. [])
hp_validate_port_identifier_holds = checks (2 ∷ 5 ∷ 6 ∷ []) (λ κs a. tt) (λ κs r. r) (λ κs a r s p. subst (Listed (2 ∷ 5 ∷ 6 ∷ [])) (sym p) (plain_of (Listed (2 ∷ 5 ∷ 6 ∷ [])) refl refl refl refl 2 128 _))

pub hp_validate_channel_identifier_holds : Demand1 hp-validate-channel-identifier.Pre hp-validate-channel-identifier.Post indexes (λ κs r. r.refusal) (λ κs r. []) (λ κs a. []) (λ κs s. [])
unfolding fault_of
hp_validate_channel_identifier_holds = checks indexes (λ κs a. tt) (λ κs r. r.refusal) (λ κs a r s p. subst (Listed indexes) (sym (ap (λ (f : Fault). f.refusal) p)) (indexed_of (Listed indexes) refl refl refl refl refl refl refl refl 8 64 _ _))

pub hp_is_provable_holds : Demand1 hp-is-provable.Pre hp-is-provable.Post (14 ∷ []) (λ κs r. r.refusal) (λ κs r. r.value ∷ []) (λ κs a. []) (λ κs s. [])
hp_is_provable_holds = provable_demand (λ κs a. tt) (λ κs a. a.0) (λ κs r. r) (λ κs a r s p. p)

-- ---- the book's calls; a lookup and `oldest` are lent the book only to be read, and so is the first of a conversion
pub hp_book_new_holds : Demand1 hp-book-new.Pre hp-book-new.Post new_numbers (λ κs r. r) (λ κs r. []) (λ κs a. a.0.now) (λ κs s. s.0.now)
hp_book_new_holds = made_demand (λ κs a. tt) (λ κs r. r) (λ κs a. a.0.now) (λ κs s. s.0.now) (λ κs a. a.1.0) (λ κs a. a.1.1.0) (λ κs a r s p. p)

pub hp_book_write_holds : Demand1 hp-book-write.Pre hp-book-write.Post (write_numbers Plain) (λ κs r. r) (λ κs r. []) (λ κs a. a.0.now) (λ κs s. s.0.now)
hp_book_write_holds = changed_demand (λ κs a. tt) (λ κs r. r) (λ κs a. a.0.now) (λ κs s. s.0.now) (write_numbers Plain) (λ κs a. write Plain a.1.0 a.1.1.0.now a.1.1.1.0.now) (λ κs a b x b₁ o. write-listed Plain _ _ _ o) (λ κs a r s p. p)

pub hp_book_remove_holds : Demand1 hp-book-remove.Pre hp-book-remove.Post (remove_numbers Plain) (λ κs r. r) (λ κs r. []) (λ κs a. a.0.now) (λ κs s. s.0.now)
hp_book_remove_holds = changed_demand (λ κs a. tt) (λ κs r. r) (λ κs a. a.0.now) (λ κs s. s.0.now) (remove_numbers Plain) (λ κs a. remove Plain a.1.0 a.1.1.0.now) (λ κs a b x b₁ o. remove-listed Plain _ _ o) (λ κs a r s p. p)

pub hp_book_lookup_holds : Demand1 hp-book-lookup.Pre hp-book-lookup.Post (look_numbers Plain) (λ κs r. r.refusal) (λ κs r. r.length ∷ []) (λ κs a. a.1.1.1.0.now) (λ κs s. s.1.1.1.0.now)
hp_book_lookup_holds = found_demand (λ κs a. tt) (look_numbers Plain) (λ κs a. Plain) (λ κs a n h. h) (λ κs r. r) (λ κs a. a.0.now) (λ κs a. a.1.0) (λ κs a. a.1.1.0.now) (λ κs a. a.1.1.1.0.now) (λ κs s. s.1.1.1.0.now) (λ κs a r s p. p)

pub hp_book_write_lenient_holds : Demand1 hp-book-write-lenient.Pre hp-book-write-lenient.Post (write_numbers Lenient) (λ κs r. r) (λ κs r. []) (λ κs a. a.0.now) (λ κs s. s.0.now)
hp_book_write_lenient_holds = changed_demand (λ κs a. tt) (λ κs r. r) (λ κs a. a.0.now) (λ κs s. s.0.now) (write_numbers Lenient) (λ κs a. write Lenient a.1.0 a.1.1.0.now a.1.1.1.0.now) (λ κs a b x b₁ o. write-listed Lenient _ _ _ o) (λ κs a r s p. p)

pub hp_book_remove_lenient_holds : Demand1 hp-book-remove-lenient.Pre hp-book-remove-lenient.Post (remove_numbers Lenient) (λ κs r. r) (λ κs r. []) (λ κs a. a.0.now) (λ κs s. s.0.now)
hp_book_remove_lenient_holds = changed_demand (λ κs a. tt) (λ κs r. r) (λ κs a. a.0.now) (λ κs s. s.0.now) (remove_numbers Lenient) (λ κs a. remove Lenient a.1.0 a.1.1.0.now) (λ κs a b x b₁ o. remove-listed Lenient _ _ o) (λ κs a r s p. p)

pub hp_book_lookup_lenient_holds : Demand1 hp-book-lookup-lenient.Pre hp-book-lookup-lenient.Post (look_numbers Lenient) (λ κs r. r.refusal) (λ κs r. r.length ∷ []) (λ κs a. a.1.1.1.0.now) (λ κs s. s.1.1.1.0.now)
hp_book_lookup_lenient_holds = found_demand (λ κs a. tt) (look_numbers Lenient) (λ κs a. Lenient) (λ κs a n h. h) (λ κs r. r) (λ κs a. a.0.now) (λ κs a. a.1.0) (λ κs a. a.1.1.0.now) (λ κs a. a.1.1.1.0.now) (λ κs s. s.1.1.1.0.now) (λ κs a r s p. p)

pub hp_book_convert_holds : Demand1 hp-book-convert.Pre hp-book-convert.Post convert_numbers (λ κs r. r) (λ κs r. []) (λ κs a. a.1.0.now) (λ κs s. s.1.0.now)
hp_book_convert_holds = converted_demand (λ κs a. tt) (λ κs r. r) (λ κs a. a.1.0.now) (λ κs s. s.1.0.now) (λ κs a. a.0.now) (λ κs a r s p. p)

pub hp_book_convert_owners_holds : Demand1 hp-book-convert-owners.Pre hp-book-convert-owners.Post convert_owners_numbers (λ κs r. r) (λ κs r. []) (λ κs a. a.1.0.now) (λ κs s. s.1.0.now)
hp_book_convert_owners_holds = owned_demand (λ κs a. tt) (λ κs r. r) (λ κs a. a.1.0.now) (λ κs s. s.1.0.now) (λ κs a. a.0.now) (λ κs a. a.1.1.0) (λ κs a. a.1.1.1.0) (λ κs a r s p. p)

pub hp_book_oldest_holds : Demand1 hp-book-oldest.Pre hp-book-oldest.Post oldest_numbers (λ κs r. r.refusal) (λ κs r. r.number ∷ r.height ∷ []) (λ κs a. []) (λ κs s. [])
hp_book_oldest_holds = oldest_demand (λ κs a. tt) (λ κs r. r) (λ κs a. a.0.now) (λ κs a. a.1.0) (λ κs a. a.1.1.0.now) (λ κs a r s p. p)

pub hp_book_clear_holds : Demand1 hp-book-clear.Pre hp-book-clear.Post clear_numbers (λ κs r. r.refusal) (λ κs r. r.count ∷ []) (λ κs a. a.0.now) (λ κs s. s.0.now)
hp_book_clear_holds = cleared_demand (λ κs a. tt) (λ κs r. r) (λ κs a. a.0.now) (λ κs s. s.0.now) (λ κs a. a.1.0) (λ κs a. a.1.1.0.now) (λ κs a. a.1.1.1.0) (λ κs a r s p. p)

pub hp_book_fill_holds : Demand1 hp-book-fill.Pre hp-book-fill.Post fill_numbers (λ κs r. r) (λ κs r. []) (λ κs a. a.1.0.now) (λ κs s. s.1.0.now)
hp_book_fill_holds = filled_demand (λ κs a. tt) (λ κs r. r) (λ κs a. a.0.now) (λ κs a. a.1.0.now) (λ κs s. s.1.0.now) (λ κs a r s p. p)

pub hp_book_lookup_many_holds : Demand1 hp-book-lookup-many.Pre hp-book-lookup-many.Post many_numbers (λ κs r. r.refusal) (λ κs r. r.length ∷ []) (λ κs a. a.1.1.1.1.0.now) (λ κs s. s.1.1.1.1.0.now)
hp_book_lookup_many_holds = looked_many_demand (λ κs a. tt) (λ κs r. r) (λ κs a. a.0.now) (λ κs a. a.1.0) (λ κs a. a.1.1.0.now) (λ κs a. a.1.1.1.0.now) (λ κs a. a.1.1.1.1.0.now) (λ κs s. s.1.1.1.1.0.now) (λ κs a r s p. p)

pub hp_refusal_text_holds : Demand1 hp-refusal-text.Pre hp-refusal-text.Post room (λ κs r. r.refusal) (λ κs r. r.length ∷ []) (λ κs a. a.1.0.now) (λ κs s. s.1.0.now)
hp_refusal_text_holds = writes room _ _ (λ κs a. tt) (λ κs r. r) (λ κs a. text (sentence a.0)) refl refl (λ κs a. tt) (λ κs a r s p. p)

-- ---- the wide calls: 21 stands in the place of 2
pub hp_wide_validate_identifier_chars_holds : Demand1 hp-wide-validate-identifier-chars.Pre hp-wide-validate-identifier-chars.Post (21 ∷ 5 ∷ []) (λ κs r. r) (λ κs r. []) (λ κs a. []) (λ κs s. [])
hp_wide_validate_identifier_chars_holds = checks (21 ∷ 5 ∷ []) (λ κs a. tt) (λ κs r. r) (λ κs a r s p. subst (Listed (21 ∷ 5 ∷ [])) (sym p) (wides.chars-number (Listed (21 ∷ 5 ∷ [])) refl refl refl _))

pub hp_wide_validate_identifier_length_holds : Demand1 hp-wide-validate-identifier-length.Pre hp-wide-validate-identifier-length.Post (21 ∷ 6 ∷ []) (λ κs r. r) (λ κs r. []) (λ κs a. []) (λ κs s. [])
hp_wide_validate_identifier_length_holds = checks (21 ∷ 6 ∷ []) (λ κs a. tt) (λ κs r. r) (λ κs a r s p. subst (Listed (21 ∷ 6 ∷ [])) (sym p) (wides.length-number (Listed (21 ∷ 6 ∷ [])) refl refl refl _ _ _))

pub hp_wide_validate_prefix_length_holds : Demand1 hp-wide-validate-prefix-length.Pre hp-wide-validate-prefix-length.Post (21 ∷ 6 ∷ []) (λ κs r. r) (λ κs r. []) (λ κs a. []) (λ κs s. [])
hp_wide_validate_prefix_length_holds = checks (21 ∷ 6 ∷ []) (λ κs a. tt) (λ κs r. r) (λ κs a r s p. subst (Listed (21 ∷ 6 ∷ [])) (sym p) (wides.prefix-number (Listed (21 ∷ 6 ∷ [])) refl refl refl _ _ _))

pub hp_wide_validate_named_u64_index_holds : Demand1 hp-wide-validate-named-u64-index.Pre hp-wide-validate-named-u64-index.Post wide_named (λ κs r. r.refusal) (λ κs r. []) (λ κs a. []) (λ κs s. [])
unfolding named_index_fault_in
hp_wide_validate_named_u64_index_holds = checks wide_named (λ κs a. tt) (λ κs r. r.refusal) (λ κs a r s p. subst (Listed wide_named) (sym (ap (λ (f : Fault). f.refusal) p)) (wides.named-index-number (Listed wide_named) refl refl refl refl refl refl _ _))

pub hp_wide_validate_client_type_holds : Demand1 hp-wide-validate-client-type.Pre hp-wide-validate-client-type.Post (21 ∷ 5 ∷ 6 ∷ []) (λ κs r. r) (λ κs r. []) (λ κs a. []) (λ κs s. [])
hp_wide_validate_client_type_holds = checks (21 ∷ 5 ∷ 6 ∷ []) (λ κs a. tt) (λ κs r. r) (λ κs a r s p. subst (Listed (21 ∷ 5 ∷ 6 ∷ [])) (sym p) (wides.plain_of (Listed (21 ∷ 5 ∷ 6 ∷ [])) refl refl refl refl 7 43 _))

pub hp_wide_validate_client_identifier_holds : Demand1 hp-wide-validate-client-identifier.Pre hp-wide-validate-client-identifier.Post (21 ∷ 5 ∷ 6 ∷ []) (λ κs r. r) (λ κs r. []) (λ κs a. []) (λ κs s. [])
hp_wide_validate_client_identifier_holds = checks (21 ∷ 5 ∷ 6 ∷ []) (λ κs a. tt) (λ κs r. r) (λ κs a r s p. subst (Listed (21 ∷ 5 ∷ 6 ∷ [])) (sym p) (wides.plain_of (Listed (21 ∷ 5 ∷ 6 ∷ [])) refl refl refl refl 9 64 _))

pub hp_wide_validate_connection_identifier_holds : Demand1 hp-wide-validate-connection-identifier.Pre hp-wide-validate-connection-identifier.Post wide_indexes (λ κs r. r.refusal) (λ κs r. []) (λ κs a. []) (λ κs s. [])
unfolding fault_in
hp_wide_validate_connection_identifier_holds = checks wide_indexes (λ κs a. tt) (λ κs r. r.refusal) (λ κs a r s p. subst (Listed wide_indexes) (sym (ap (λ (f : Fault). f.refusal) p)) (wides.indexed_of (Listed wide_indexes) refl refl refl refl refl refl refl refl 10 64 _ _))

pub hp_wide_validate_port_identifier_holds : Demand1 hp-wide-validate-port-identifier.Pre hp-wide-validate-port-identifier.Post (21 ∷ 5 ∷ 6 ∷ []) (λ κs r. r) (λ κs r. []) (λ κs a. []) (λ κs s. [])
hp_wide_validate_port_identifier_holds = checks (21 ∷ 5 ∷ 6 ∷ []) (λ κs a. tt) (λ κs r. r) (λ κs a r s p. subst (Listed (21 ∷ 5 ∷ 6 ∷ [])) (sym p) (wides.plain_of (Listed (21 ∷ 5 ∷ 6 ∷ [])) refl refl refl refl 2 128 _))

pub hp_wide_validate_channel_identifier_holds : Demand1 hp-wide-validate-channel-identifier.Pre hp-wide-validate-channel-identifier.Post wide_indexes (λ κs r. r.refusal) (λ κs r. []) (λ κs a. []) (λ κs s. [])
unfolding fault_in
hp_wide_validate_channel_identifier_holds = checks wide_indexes (λ κs a. tt) (λ κs r. r.refusal) (λ κs a r s p. subst (Listed wide_indexes) (sym (ap (λ (f : Fault). f.refusal) p)) (wides.indexed_of (Listed wide_indexes) refl refl refl refl refl refl refl refl 8 64 _ _))

pub hp_wide_client_id_new_holds : Demand1 hp-wide-client-id-new.Pre hp-wide-client-id-new.Post wide_clients (λ κs r. r.refusal) (λ κs r. r.length ∷ []) (λ κs a. a.1.1.0.now) (λ κs s. s.1.1.0.now)
hp_wide_client_id_new_holds = writes wide_clients _ _ (λ κs a. tt) (λ κs r. r) (λ κs a. new_client_in wide a.0.now a.1.0) refl refl (λ κs a. wides.client_wants _ _) (λ κs a r s p. p)

pub hp_wide_read_holds : Demand1 hp-wide-read.Pre hp-wide-read.Post wide_readings (λ κs r. r.refusal) (λ κs r. []) (λ κs a. a.1.0.now) (λ κs s. s.1.0.now)
unfolding read_fault_in
hp_wide_read_holds = writes-number wide_readings _ _ (λ κs a. tt) (λ κs r. r.refusal) (λ κs a. reading_bytes_in wide a.0.now) refl refl (λ κs a. wides.reading_wants _) (λ κs a r s p. (ap (λ (f : Fault). f.refusal) p.0, p.1))

pub hp_wide_key_holds : Demand1 hp-wide-key.Pre hp-wide-key.Post wide_readings (λ κs r. r.refusal) (λ κs r. r.length ∷ []) (λ κs a. a.1.0.now) (λ κs s. s.1.0.now)
hp_wide_key_holds = writes wide_readings _ _ (λ κs a. tt) (λ κs r. r) (λ κs a. key_in wide a.0.now) refl refl (λ κs a. wides.key_wants _) (λ κs a r s p. p)

pub hp_wide_render_holds : Demand1 hp-wide-render.Pre hp-wide-render.Post wide_renderings (λ κs r. r.refusal) (λ κs r. r.length ∷ []) (λ κs a. a.1.1.1.1.1.0.now) (λ κs s. s.1.1.1.1.1.0.now)
hp_wide_render_holds = writes wide_renderings _ _ (λ κs a. tt) (λ κs r. r) (λ κs a. render_in wide a.0 (carried a.1.0.now a.1.1.0.now a.1.1.1.0 a.1.1.1.1.0)) refl refl (λ κs a. wides.render_wants _ _) (λ κs a r s p. p)

pub hp_wide_consensus_state_parent_holds : Demand1 hp-wide-consensus-state-parent.Pre hp-wide-consensus-state-parent.Post wide_clients (λ κs r. r.refusal) (λ κs r. r.length ∷ []) (λ κs a. a.1.0.now) (λ κs s. s.1.0.now)
hp_wide_consensus_state_parent_holds = writes wide_clients _ _ (λ κs a. tt) (λ κs r. r) (λ κs a. text_in wide consensus_parent (carried a.0.now [] 0 0)) refl refl (λ κs a. wides.parent_wants _) (λ κs a r s p. p)

pub hp_wide_commitments_path_holds : Demand1 hp-wide-commitments-path.Pre hp-wide-commitments-path.Post wide_ends (λ κs r. r.refusal) (λ κs r. r.length ∷ []) (λ κs a. a.1.1.0.now) (λ κs s. s.1.1.0.now)
hp_wide_commitments_path_holds = writes wide_ends _ _ (λ κs a. tt) (λ κs r. r) (λ κs a. text_in wide (packets_path (bytes "commitments")) (carried a.0.now a.1.0.now 0 0)) refl refl (λ κs a. wides.packets_wants _ _) (λ κs a r s p. p)

pub hp_wide_acks_path_holds : Demand1 hp-wide-acks-path.Pre hp-wide-acks-path.Post wide_ends (λ κs r. r.refusal) (λ κs r. r.length ∷ []) (λ κs a. a.1.1.0.now) (λ κs s. s.1.1.0.now)
hp_wide_acks_path_holds = writes wide_ends _ _ (λ κs a. tt) (λ κs r. r) (λ κs a. text_in wide (packets_path (bytes "acks")) (carried a.0.now a.1.0.now 0 0)) refl refl (λ κs a. wides.packets_wants _ _) (λ κs a r s p. p)

pub hp_wide_receipts_path_holds : Demand1 hp-wide-receipts-path.Pre hp-wide-receipts-path.Post wide_ends (λ κs r. r.refusal) (λ κs r. r.length ∷ []) (λ κs a. a.1.1.0.now) (λ κs s. s.1.1.0.now)
hp_wide_receipts_path_holds = writes wide_ends _ _ (λ κs a. tt) (λ κs r. r) (λ κs a. text_in wide (packets_path (bytes "receipts")) (carried a.0.now a.1.0.now 0 0)) refl refl (λ κs a. wides.packets_wants _ _) (λ κs a r s p. p)

-- ---- calls that answer a revision number and a height
pub hp_read_iteration_key_holds : Demand1 hp-read-iteration-key.Pre hp-read-iteration-key.Post (15 ∷ []) (λ κs r. r.refusal) (λ κs r. r.number ∷ r.height ∷ []) (λ κs a. []) (λ κs s. [])
hp_read_iteration_key_holds = pairs (15 ∷ []) refl (λ κs a. tt) (λ κs r. r) (λ κs a. answered 15 (key_revision a.0.now)) (λ κs a. key-refuses (key_revision a.0.now)) (λ κs a r s p. p)

pub hp_first_above_holds : Demand1 hp-first-above.Pre hp-first-above.Post (16 ∷ 12 ∷ []) (λ κs r. r.refusal) (λ κs r. r.number ∷ r.height ∷ []) (λ κs a. []) (λ κs s. [])
hp_first_above_holds = pairs (16 ∷ 12 ∷ []) refl (λ κs a. tt) (λ κs r. r) (λ κs a. scanned (first_above (revision a.1.0 a.1.1.0)) (block_of a.0.now)) (λ κs a. scan-refuses (first_above (revision a.1.0 a.1.1.0)) (block_of a.0.now)) (λ κs a r s p. p)

pub hp_last_below_holds : Demand1 hp-last-below.Pre hp-last-below.Post (16 ∷ 12 ∷ []) (λ κs r. r.refusal) (λ κs r. r.number ∷ r.height ∷ []) (λ κs a. []) (λ κs s. [])
hp_last_below_holds = pairs (16 ∷ 12 ∷ []) refl (λ κs a. tt) (λ κs r. r) (λ κs a. scanned (last_below (revision a.1.0 a.1.1.0)) (block_of a.0.now)) (λ κs a. scan-refuses (last_below (revision a.1.0 a.1.1.0)) (block_of a.0.now)) (λ κs a r s p. p)

-- ---- a call that answers a kind, a length and a sequence
pub hp_v2_read_holds : Demand1 hp-v2-read.Pre hp-v2-read.Post packet_reads (λ κs r. r.refusal) (λ κs r. r.kind ∷ r.length ∷ r.sequence ∷ []) (λ κs a. []) (λ κs s. [])
hp_v2_read_holds = packets (λ κs a. tt) (λ κs r. r) (λ κs a. a.0.now) (λ κs a r s p. p)

-- ---- the functions that a Rattle caller writes with
pub render_holds : Demand1 render.Pre render.Post renderings (λ κs r. r.refusal) (λ κs r. r.length ∷ []) (λ κs a. a.1.1.1.1.1.0.now) (λ κs s. s.1.1.1.1.1.0.now)
render_holds = writes renderings _ _ (λ κs a. tt) (λ κs r. r) (λ κs a. render_of a.0 (carried a.1.0.now a.1.1.0.now a.1.1.1.0 a.1.1.1.1.0)) refl refl (λ κs a. render_wants _ _) (λ κs a r s p. p)

pub write_key_holds : Demand1 write-key.Pre write-key.Post readings (λ κs r. r.refusal) (λ κs r. r.length ∷ []) (λ κs a. a.1.0.now) (λ κs s. s.1.0.now)
write_key_holds = writes readings _ _ (λ κs a. tt) (λ κs r. r) (λ κs a. key_of a.0.now) refl refl (λ κs a. key_wants _) (λ κs a r s p. p)

pub write_reading_holds : Demand1 write-reading.Pre write-reading.Post readings (λ κs r. r.refusal) (λ κs r. []) (λ κs a. a.1.0.now) (λ κs s. s.1.0.now)
unfolding read_fault
write_reading_holds = writes-number readings _ _ (λ κs a. tt) (λ κs r. r.refusal) (λ κs a. reading_bytes a.0.now) refl refl (λ κs a. reading_wants _) (λ κs a r s p. (ap (λ (f : Fault). f.refusal) p.0, p.1))

pub write_walk_holds : Demand1 write-walk.Pre write-walk.Post readings (λ κs r. r.refusal) (λ κs r. []) (λ κs a. a.1.0.now) (λ κs s. s.1.0.now)
unfolding read_fault
write_walk_holds = writes-number readings _ _ (λ κs a. tt) (λ κs r. r.refusal) (λ κs a. reading_bytes a.0.now) refl refl (λ κs a. reading_wants _) (λ κs a r s p. (ap (λ (f : Fault). f.refusal) p.0, p.1))

pub iteration_key_holds : Demand1 iteration-key.Pre iteration-key.Post room (λ κs r. r.refusal) (λ κs r. r.length ∷ []) (λ κs a. a.1.1.0.now) (λ κs s. s.1.1.0.now)
iteration_key_holds = writes room _ _ (λ κs a. tt) (λ κs r. r) (λ κs a. text (iteration_key a.0.0 a.1.0.0)) refl refl (λ κs a. tt) (λ κs a r s p. p)

pub write_packet_key_holds : Demand1 write-packet-key.Pre write-packet-key.Post packet_writes (λ κs r. r.refusal) (λ κs r. r.length ∷ []) (λ κs a. a.1.1.1.0.now) (λ κs s. s.1.1.1.0.now)
write_packet_key_holds = writes packet_writes _ _ (λ κs a. tt) (λ κs r. r) (λ κs a. packet_wanted a.0 a.1.0.now a.1.1.0.0) refl refl (λ κs a. packet_wants _ _ _) (λ κs a r s p. p)

pub write_client_id_holds : Demand1 write-client-id.Pre write-client-id.Post clients (λ κs r. r.refusal) (λ κs r. r.length ∷ []) (λ κs a. a.1.1.0.now) (λ κs s. s.1.1.0.now)
write_client_id_holds = writes clients _ _ (λ κs a. tt) (λ κs r. r) (λ κs a. new_client a.0.now a.1.0) refl refl (λ κs a. client_wants _ _) (λ κs a r s p. p)

pub write_channel_id_holds : Demand1 write-channel-id.Pre write-channel-id.Post room (λ κs r. r.refusal) (λ κs r. r.length ∷ []) (λ κs a. a.1.0.now) (λ κs s. s.1.0.now)
write_channel_id_holds = writes room _ _ (λ κs a. tt) (λ κs r. r) (λ κs a. new_channel a.0) refl refl (λ κs a. channel_wants room a.0) (λ κs a r s p. p)

pub client_state_prefix_holds : Demand1 client-state-prefix.Pre client-state-prefix.Post room (λ κs r. r.refusal) (λ κs r. r.length ∷ []) (λ κs a. a.0.now) (λ κs s. s.0.now)
client_state_prefix_holds = writes room _ _ (λ κs a. tt) (λ κs r. r) (λ κs a. text (bytes "clients")) refl refl (λ κs a. tt) (λ κs a r s p. p)

pub client_state_leaf_holds : Demand1 client-state-leaf.Pre client-state-leaf.Post room (λ κs r. r.refusal) (λ κs r. r.length ∷ []) (λ κs a. a.0.now) (λ κs s. s.0.now)
client_state_leaf_holds = writes room _ _ (λ κs a. tt) (λ κs r. r) (λ κs a. text (bytes "clientState")) refl refl (λ κs a. tt) (λ κs a r s p. p)

pub consensus_state_parent_holds : Demand1 consensus-state-parent.Pre consensus-state-parent.Post clients (λ κs r. r.refusal) (λ κs r. r.length ∷ []) (λ κs a. a.1.0.now) (λ κs s. s.1.0.now)
consensus_state_parent_holds = writes clients _ _ (λ κs a. tt) (λ κs r. r) (λ κs a. text_of consensus_parent (carried a.0.now [] 0 0)) refl refl (λ κs a. parent_wants _) (λ κs a r s p. p)

pub consensus_state_leaf_holds : Demand1 consensus-state-leaf.Pre consensus-state-leaf.Post room (λ κs r. r.refusal) (λ κs r. r.length ∷ []) (λ κs a. a.1.1.0.now) (λ κs s. s.1.1.0.now)
consensus_state_leaf_holds = writes room _ _ (λ κs a. tt) (λ κs r. r) (λ κs a. text_of (consensus_leaf []) (carried [] [] a.0.0 a.1.0.0)) refl refl (λ κs a. leaf_wants room (carried [] [] a.0.0 a.1.0.0) (bytes "consensusStates")) (λ κs a r s p. p)

pub update_time_leaf_holds : Demand1 update-time-leaf.Pre update-time-leaf.Post room (λ κs r. r.refusal) (λ κs r. r.length ∷ []) (λ κs a. a.1.1.0.now) (λ κs s. s.1.1.0.now)
update_time_leaf_holds = writes room _ _ (λ κs a. tt) (λ κs r. r) (λ κs a. text_of (consensus_leaf (word (bytes "processedTime") ∷ [])) (carried [] [] a.0.0 a.1.0.0)) refl refl (λ κs a. update_wants room (carried [] [] a.0.0 a.1.0.0) (bytes "consensusStates") (bytes "processedTime")) (λ κs a r s p. p)

pub update_height_leaf_holds : Demand1 update-height-leaf.Pre update-height-leaf.Post room (λ κs r. r.refusal) (λ κs r. r.length ∷ []) (λ κs a. a.1.1.0.now) (λ κs s. s.1.1.0.now)
update_height_leaf_holds = writes room _ _ (λ κs a. tt) (λ κs r. r) (λ κs a. text_of (consensus_leaf (word (bytes "processedHeight") ∷ [])) (carried [] [] a.0.0 a.1.0.0)) refl refl (λ κs a. update_wants room (carried [] [] a.0.0 a.1.0.0) (bytes "consensusStates") (bytes "processedHeight")) (λ κs a r s p. p)

pub connection_prefix_holds : Demand1 connection-prefix.Pre connection-prefix.Post room (λ κs r. r.refusal) (λ κs r. r.length ∷ []) (λ κs a. a.0.now) (λ κs s. s.0.now)
connection_prefix_holds = writes room _ _ (λ κs a. tt) (λ κs r. r) (λ κs a. text (bytes "connections")) refl refl (λ κs a. tt) (λ κs a r s p. p)

pub channel_end_prefix_holds : Demand1 channel-end-prefix.Pre channel-end-prefix.Post room (λ κs r. r.refusal) (λ κs r. r.length ∷ []) (λ κs a. a.0.now) (λ κs s. s.0.now)
channel_end_prefix_holds = writes room _ _ (λ κs a. tt) (λ κs r. r) (λ κs a. text (bytes "channelEnds")) refl refl (λ κs a. tt) (λ κs a r s p. p)

pub commitments_path_holds : Demand1 commitments-path.Pre commitments-path.Post ends (λ κs r. r.refusal) (λ κs r. r.length ∷ []) (λ κs a. a.1.1.0.now) (λ κs s. s.1.1.0.now)
commitments_path_holds = writes ends _ _ (λ κs a. tt) (λ κs r. r) (λ κs a. text_of (packets_path (bytes "commitments")) (carried a.0.now a.1.0.now 0 0)) refl refl (λ κs a. packets_wants _ _) (λ κs a r s p. p)

pub acks_path_holds : Demand1 acks-path.Pre acks-path.Post ends (λ κs r. r.refusal) (λ κs r. r.length ∷ []) (λ κs a. a.1.1.0.now) (λ κs s. s.1.1.0.now)
acks_path_holds = writes ends _ _ (λ κs a. tt) (λ κs r. r) (λ κs a. text_of (packets_path (bytes "acks")) (carried a.0.now a.1.0.now 0 0)) refl refl (λ κs a. packets_wants _ _) (λ κs a r s p. p)

pub receipts_path_holds : Demand1 receipts-path.Pre receipts-path.Post ends (λ κs r. r.refusal) (λ κs r. r.length ∷ []) (λ κs a. a.1.1.0.now) (λ κs s. s.1.1.0.now)
receipts_path_holds = writes ends _ _ (λ κs a. tt) (λ κs r. r) (λ κs a. text_of (packets_path (bytes "receipts")) (carried a.0.now a.1.0.now 0 0)) refl refl (λ κs a. packets_wants _ _) (λ κs a r s p. p)

pub commitment_prefix_holds : Demand1 commitment-prefix.Pre commitment-prefix.Post room (λ κs r. r.refusal) (λ κs r. r.length ∷ []) (λ κs a. a.0.now) (λ κs s. s.0.now)
commitment_prefix_holds = writes room _ _ (λ κs a. tt) (λ κs r. r) (λ κs a. text (bytes "commitments")) refl refl (λ κs a. tt) (λ κs a r s p. p)

pub ack_prefix_holds : Demand1 ack-prefix.Pre ack-prefix.Post room (λ κs r. r.refusal) (λ κs r. r.length ∷ []) (λ κs a. a.0.now) (λ κs s. s.0.now)
ack_prefix_holds = writes room _ _ (λ κs a. tt) (λ κs r. r) (λ κs a. text (bytes "acks")) refl refl (λ κs a. tt) (λ κs a r s p. p)

pub receipt_prefix_holds : Demand1 receipt-prefix.Pre receipt-prefix.Post room (λ κs r. r.refusal) (λ κs r. r.length ∷ []) (λ κs a. a.0.now) (λ κs s. s.0.now)
receipt_prefix_holds = writes room _ _ (λ κs a. tt) (λ κs r. r) (λ κs a. text (bytes "receipts")) refl refl (λ κs a. tt) (λ κs a r s p. p)

pub give_holds : Demand1 give.Pre give.Post room (λ κs r. r.refusal) (λ κs r. r.length ∷ []) (λ κs a. a.0.now) (λ κs s. s.0.now)
give_holds = writes room _ _ (λ κs a. tt) (λ κs r. r) (λ κs a. text a.1.0.now) refl refl (λ κs a. tt) (λ κs a r s p. p)

pub give_sentence_holds : Demand1 give-sentence.Pre give-sentence.Post room (λ κs r. r.refusal) (λ κs r. r.length ∷ []) (λ κs a. a.0.now) (λ κs s. s.0.now)
give_sentence_holds = writes room _ _ (λ κs a. tt) (λ κs r. r) (λ κs a. text (sentence a.1.0)) refl refl (λ κs a. tt) (λ κs a r s p. p)

pub wide_write_client_id_holds : Demand1 wide-write-client-id.Pre wide-write-client-id.Post wide_clients (λ κs r. r.refusal) (λ κs r. r.length ∷ []) (λ κs a. a.1.1.0.now) (λ κs s. s.1.1.0.now)
wide_write_client_id_holds = writes wide_clients _ _ (λ κs a. tt) (λ κs r. r) (λ κs a. new_client_in wide a.0.now a.1.0) refl refl (λ κs a. wides.client_wants _ _) (λ κs a r s p. p)

pub wide_write_key_holds : Demand1 wide-write-key.Pre wide-write-key.Post wide_readings (λ κs r. r.refusal) (λ κs r. r.length ∷ []) (λ κs a. a.1.0.now) (λ κs s. s.1.0.now)
wide_write_key_holds = writes wide_readings _ _ (λ κs a. tt) (λ κs r. r) (λ κs a. key_in wide a.0.now) refl refl (λ κs a. wides.key_wants _) (λ κs a r s p. p)

pub wide_write_reading_holds : Demand1 wide-write-reading.Pre wide-write-reading.Post wide_readings (λ κs r. r.refusal) (λ κs r. []) (λ κs a. a.1.0.now) (λ κs s. s.1.0.now)
unfolding read_fault_in
wide_write_reading_holds = writes-number wide_readings _ _ (λ κs a. tt) (λ κs r. r.refusal) (λ κs a. reading_bytes_in wide a.0.now) refl refl (λ κs a. wides.reading_wants _) (λ κs a r s p. (ap (λ (f : Fault). f.refusal) p.0, p.1))

pub wide_render_holds : Demand1 wide-render.Pre wide-render.Post wide_renderings (λ κs r. r.refusal) (λ κs r. r.length ∷ []) (λ κs a. a.1.1.1.1.1.0.now) (λ κs s. s.1.1.1.1.1.0.now)
wide_render_holds = writes wide_renderings _ _ (λ κs a. tt) (λ κs r. r) (λ κs a. render_in wide a.0 (carried a.1.0.now a.1.1.0.now a.1.1.1.0 a.1.1.1.1.0)) refl refl (λ κs a. wides.render_wants _ _) (λ κs a r s p. p)

pub wide_consensus_state_parent_holds : Demand1 wide-consensus-state-parent.Pre wide-consensus-state-parent.Post wide_clients (λ κs r. r.refusal) (λ κs r. r.length ∷ []) (λ κs a. a.1.0.now) (λ κs s. s.1.0.now)
wide_consensus_state_parent_holds = writes wide_clients _ _ (λ κs a. tt) (λ κs r. r) (λ κs a. text_in wide consensus_parent (carried a.0.now [] 0 0)) refl refl (λ κs a. wides.parent_wants _) (λ κs a r s p. p)

pub wide_commitments_path_holds : Demand1 wide-commitments-path.Pre wide-commitments-path.Post wide_ends (λ κs r. r.refusal) (λ κs r. r.length ∷ []) (λ κs a. a.1.1.0.now) (λ κs s. s.1.1.0.now)
wide_commitments_path_holds = writes wide_ends _ _ (λ κs a. tt) (λ κs r. r) (λ κs a. text_in wide (packets_path (bytes "commitments")) (carried a.0.now a.1.0.now 0 0)) refl refl (λ κs a. wides.packets_wants _ _) (λ κs a r s p. p)

pub wide_acks_path_holds : Demand1 wide-acks-path.Pre wide-acks-path.Post wide_ends (λ κs r. r.refusal) (λ κs r. r.length ∷ []) (λ κs a. a.1.1.0.now) (λ κs s. s.1.1.0.now)
wide_acks_path_holds = writes wide_ends _ _ (λ κs a. tt) (λ κs r. r) (λ κs a. text_in wide (packets_path (bytes "acks")) (carried a.0.now a.1.0.now 0 0)) refl refl (λ κs a. wides.packets_wants _ _) (λ κs a r s p. p)

pub wide_receipts_path_holds : Demand1 wide-receipts-path.Pre wide-receipts-path.Post wide_ends (λ κs r. r.refusal) (λ κs r. r.length ∷ []) (λ κs a. a.1.1.0.now) (λ κs s. s.1.1.0.now)
wide_receipts_path_holds = writes wide_ends _ _ (λ κs a. tt) (λ κs r. r) (λ κs a. text_in wide (packets_path (bytes "receipts")) (carried a.0.now a.1.0.now 0 0)) refl refl (λ κs a. wides.packets_wants _ _) (λ κs a r s p. p)

-- ---- the functions that a Rattle caller checks with
pub validate_identifier_chars_holds : Demand1 validate-identifier-chars.Pre validate-identifier-chars.Post (2 ∷ 5 ∷ []) (λ κs r. r) (λ κs r. []) (λ κs a. []) (λ κs s. [])
validate_identifier_chars_holds = checks (2 ∷ 5 ∷ []) (λ κs a. tt) (λ κs r. r) (λ κs a r s p. subst (Listed (2 ∷ 5 ∷ [])) (sym p) (chars-number (Listed (2 ∷ 5 ∷ [])) refl refl refl _))

pub validate_identifier_length_holds : Demand1 validate-identifier-length.Pre validate-identifier-length.Post (2 ∷ 6 ∷ []) (λ κs r. r) (λ κs r. []) (λ κs a. []) (λ κs s. [])
validate_identifier_length_holds = checks (2 ∷ 6 ∷ []) (λ κs a. tt) (λ κs r. r) (λ κs a r s p. subst (Listed (2 ∷ 6 ∷ [])) (sym p) (length-number (Listed (2 ∷ 6 ∷ [])) refl refl refl _ _ _))

pub validate_prefix_length_holds : Demand1 validate-prefix-length.Pre validate-prefix-length.Post (2 ∷ 6 ∷ []) (λ κs r. r) (λ κs r. []) (λ κs a. []) (λ κs s. [])
validate_prefix_length_holds = checks (2 ∷ 6 ∷ []) (λ κs a. tt) (λ κs r. r) (λ κs a r s p. subst (Listed (2 ∷ 6 ∷ [])) (sym p) (prefix-number (Listed (2 ∷ 6 ∷ [])) refl refl refl _ _ _))

pub validate_named_u64_index_holds : Demand1 validate-named-u64-index.Pre validate-named-u64-index.Post named (λ κs r. r.refusal) (λ κs r. []) (λ κs a. []) (λ κs s. [])
unfolding named_index_fault
validate_named_u64_index_holds = checks named (λ κs a. tt) (λ κs r. r.refusal) (λ κs a r s p. subst (Listed named) (sym (ap (λ (f : Fault). f.refusal) p)) (named-index-number (Listed named) refl refl refl refl refl refl _ _))

pub validate_client_type_holds : Demand1 validate-client-type.Pre validate-client-type.Post (2 ∷ 5 ∷ 6 ∷ []) (λ κs r. r) (λ κs r. []) (λ κs a. []) (λ κs s. [])
validate_client_type_holds = checks (2 ∷ 5 ∷ 6 ∷ []) (λ κs a. tt) (λ κs r. r) (λ κs a r s p. subst (Listed (2 ∷ 5 ∷ 6 ∷ [])) (sym p) (plain_of (Listed (2 ∷ 5 ∷ 6 ∷ [])) refl refl refl refl 7 43 _))

pub validate_client_identifier_holds : Demand1 validate-client-identifier.Pre validate-client-identifier.Post (2 ∷ 5 ∷ 6 ∷ []) (λ κs r. r) (λ κs r. []) (λ κs a. []) (λ κs s. [])
validate_client_identifier_holds = checks (2 ∷ 5 ∷ 6 ∷ []) (λ κs a. tt) (λ κs r. r) (λ κs a r s p. subst (Listed (2 ∷ 5 ∷ 6 ∷ [])) (sym p) (plain_of (Listed (2 ∷ 5 ∷ 6 ∷ [])) refl refl refl refl 9 64 _))

pub validate_connection_identifier_holds : Demand1 validate-connection-identifier.Pre validate-connection-identifier.Post indexes (λ κs r. r.refusal) (λ κs r. []) (λ κs a. []) (λ κs s. [])
unfolding fault_of
validate_connection_identifier_holds = checks indexes (λ κs a. tt) (λ κs r. r.refusal) (λ κs a r s p. subst (Listed indexes) (sym (ap (λ (f : Fault). f.refusal) p)) (indexed_of (Listed indexes) refl refl refl refl refl refl refl refl 10 64 _ _))

pub validate_port_identifier_holds : Demand1 validate-port-identifier.Pre validate-port-identifier.Post (2 ∷ 5 ∷ 6 ∷ []) (λ κs r. r) (λ κs r. []) (λ κs a. []) (λ κs s. [])
validate_port_identifier_holds = checks (2 ∷ 5 ∷ 6 ∷ []) (λ κs a. tt) (λ κs r. r) (λ κs a r s p. subst (Listed (2 ∷ 5 ∷ 6 ∷ [])) (sym p) (plain_of (Listed (2 ∷ 5 ∷ 6 ∷ [])) refl refl refl refl 2 128 _))

pub validate_channel_identifier_holds : Demand1 validate-channel-identifier.Pre validate-channel-identifier.Post indexes (λ κs r. r.refusal) (λ κs r. []) (λ κs a. []) (λ κs s. [])
unfolding fault_of
validate_channel_identifier_holds = checks indexes (λ κs a. tt) (λ κs r. r.refusal) (λ κs a r s p. subst (Listed indexes) (sym (ap (λ (f : Fault). f.refusal) p)) (indexed_of (Listed indexes) refl refl refl refl refl refl refl refl 8 64 _ _))

pub length_within_holds : Demand1 length-within.Pre length-within.Post (6 ∷ []) (λ κs r. r) (λ κs r. []) (λ κs a. []) (λ κs s. [])
length_within_holds = checks (6 ∷ []) (λ κs a. tt) (λ κs r. r) (λ κs a r s p. subst (Listed (6 ∷ [])) (sym p) (within-number (Listed (6 ∷ [])) refl refl _ _ _))

pub check_named_holds : Demand1 check-named.Pre check-named.Post (7 ∷ 17 ∷ 18 ∷ 19 ∷ []) (λ κs r. r.refusal) (λ κs r. []) (λ κs a. []) (λ κs s. [])
check_named_holds = checks (7 ∷ 17 ∷ 18 ∷ 19 ∷ []) (λ κs a. tt) (λ κs r. r.refusal) (λ κs a r s p. subst (Listed (7 ∷ 17 ∷ 18 ∷ 19 ∷ [])) (sym (ap (λ (f : Fault). f.refusal) p)) (named-number (Listed (7 ∷ 17 ∷ 18 ∷ 19 ∷ [])) refl refl refl refl refl _ _))

pub name_fault_holds : Demand1 name-fault.Pre name-fault.Post names (λ κs r. r) (λ κs r. []) (λ κs a. []) (λ κs s. [])
name_fault_holds = checks names (λ κs a. tt) (λ κs r. r) (λ κs a r s p. subst (Listed names) (sym p) (name_of (Listed names) refl refl refl refl refl refl refl refl refl _ _))

pub fault_of_holds : Demand1 fault-of.Pre fault-of.Post unread (λ κs r. r.refusal) (λ κs r. []) (λ κs a. []) (λ κs s. [])
fault_of_holds = checks unread (λ κs a. tt) (λ κs r. r.refusal) (λ κs a r s p. subst (Listed unread) (sym (ap (λ (f : Fault). f.refusal) p)) (unread_of (Listed unread) refl refl refl refl refl refl a.0))

pub refusal_of_holds : Demand1 refusal-of.Pre refusal-of.Post unread (λ κs r. r) (λ κs r. []) (λ κs a. []) (λ κs s. [])
refusal_of_holds = checks unread (λ κs a. tt) (λ κs r. r) (λ κs a r s p. subst (Listed unread) (sym p) (reading-number (Listed unread) refl refl refl refl refl refl refl a.0))

pub kind_is_provable_holds : Demand1 kind-is-provable.Pre kind-is-provable.Post (14 ∷ []) (λ κs r. r.refusal) (λ κs r. r.value ∷ []) (λ κs a. []) (λ κs s. [])
kind_is_provable_holds = provable_demand (λ κs a. tt) (λ κs a. a.0) (λ κs r. r) (λ κs a r s p. p)

pub wide_chars_holds : Demand1 wide-chars.Pre wide-chars.Post (21 ∷ 5 ∷ []) (λ κs r. r) (λ κs r. []) (λ κs a. []) (λ κs s. [])
wide_chars_holds = checks (21 ∷ 5 ∷ []) (λ κs a. tt) (λ κs r. r) (λ κs a r s p. subst (Listed (21 ∷ 5 ∷ [])) (sym p) (wide_chars-number (Listed (21 ∷ 5 ∷ [])) refl refl refl _))

pub wide_validate_identifier_chars_holds : Demand1 wide-validate-identifier-chars.Pre wide-validate-identifier-chars.Post (21 ∷ 5 ∷ []) (λ κs r. r) (λ κs r. []) (λ κs a. []) (λ κs s. [])
wide_validate_identifier_chars_holds = checks (21 ∷ 5 ∷ []) (λ κs a. tt) (λ κs r. r) (λ κs a r s p. subst (Listed (21 ∷ 5 ∷ [])) (sym p) (wides.chars-number (Listed (21 ∷ 5 ∷ [])) refl refl refl _))

pub wide_validate_identifier_length_holds : Demand1 wide-validate-identifier-length.Pre wide-validate-identifier-length.Post (21 ∷ 6 ∷ []) (λ κs r. r) (λ κs r. []) (λ κs a. []) (λ κs s. [])
wide_validate_identifier_length_holds = checks (21 ∷ 6 ∷ []) (λ κs a. tt) (λ κs r. r) (λ κs a r s p. subst (Listed (21 ∷ 6 ∷ [])) (sym p) (wides.length-number (Listed (21 ∷ 6 ∷ [])) refl refl refl _ _ _))

pub wide_validate_prefix_length_holds : Demand1 wide-validate-prefix-length.Pre wide-validate-prefix-length.Post (21 ∷ 6 ∷ []) (λ κs r. r) (λ κs r. []) (λ κs a. []) (λ κs s. [])
wide_validate_prefix_length_holds = checks (21 ∷ 6 ∷ []) (λ κs a. tt) (λ κs r. r) (λ κs a r s p. subst (Listed (21 ∷ 6 ∷ [])) (sym p) (wides.prefix-number (Listed (21 ∷ 6 ∷ [])) refl refl refl _ _ _))

pub wide_validate_named_u64_index_holds : Demand1 wide-validate-named-u64-index.Pre wide-validate-named-u64-index.Post wide_named (λ κs r. r.refusal) (λ κs r. []) (λ κs a. []) (λ κs s. [])
unfolding named_index_fault_in
wide_validate_named_u64_index_holds = checks wide_named (λ κs a. tt) (λ κs r. r.refusal) (λ κs a r s p. subst (Listed wide_named) (sym (ap (λ (f : Fault). f.refusal) p)) (wides.named-index-number (Listed wide_named) refl refl refl refl refl refl _ _))

pub wide_validate_client_type_holds : Demand1 wide-validate-client-type.Pre wide-validate-client-type.Post (21 ∷ 5 ∷ 6 ∷ []) (λ κs r. r) (λ κs r. []) (λ κs a. []) (λ κs s. [])
wide_validate_client_type_holds = checks (21 ∷ 5 ∷ 6 ∷ []) (λ κs a. tt) (λ κs r. r) (λ κs a r s p. subst (Listed (21 ∷ 5 ∷ 6 ∷ [])) (sym p) (wides.plain_of (Listed (21 ∷ 5 ∷ 6 ∷ [])) refl refl refl refl 7 43 _))

pub wide_validate_client_identifier_holds : Demand1 wide-validate-client-identifier.Pre wide-validate-client-identifier.Post (21 ∷ 5 ∷ 6 ∷ []) (λ κs r. r) (λ κs r. []) (λ κs a. []) (λ κs s. [])
wide_validate_client_identifier_holds = checks (21 ∷ 5 ∷ 6 ∷ []) (λ κs a. tt) (λ κs r. r) (λ κs a r s p. subst (Listed (21 ∷ 5 ∷ 6 ∷ [])) (sym p) (wides.plain_of (Listed (21 ∷ 5 ∷ 6 ∷ [])) refl refl refl refl 9 64 _))

pub wide_validate_connection_identifier_holds : Demand1 wide-validate-connection-identifier.Pre wide-validate-connection-identifier.Post wide_indexes (λ κs r. r.refusal) (λ κs r. []) (λ κs a. []) (λ κs s. [])
unfolding fault_in
wide_validate_connection_identifier_holds = checks wide_indexes (λ κs a. tt) (λ κs r. r.refusal) (λ κs a r s p. subst (Listed wide_indexes) (sym (ap (λ (f : Fault). f.refusal) p)) (wides.indexed_of (Listed wide_indexes) refl refl refl refl refl refl refl refl 10 64 _ _))

pub wide_validate_port_identifier_holds : Demand1 wide-validate-port-identifier.Pre wide-validate-port-identifier.Post (21 ∷ 5 ∷ 6 ∷ []) (λ κs r. r) (λ κs r. []) (λ κs a. []) (λ κs s. [])
wide_validate_port_identifier_holds = checks (21 ∷ 5 ∷ 6 ∷ []) (λ κs a. tt) (λ κs r. r) (λ κs a r s p. subst (Listed (21 ∷ 5 ∷ 6 ∷ [])) (sym p) (wides.plain_of (Listed (21 ∷ 5 ∷ 6 ∷ [])) refl refl refl refl 2 128 _))

pub wide_validate_channel_identifier_holds : Demand1 wide-validate-channel-identifier.Pre wide-validate-channel-identifier.Post wide_indexes (λ κs r. r.refusal) (λ κs r. []) (λ κs a. []) (λ κs s. [])
unfolding fault_in
wide_validate_channel_identifier_holds = checks wide_indexes (λ κs a. tt) (λ κs r. r.refusal) (λ κs a r s p. subst (Listed wide_indexes) (sym (ap (λ (f : Fault). f.refusal) p)) (wides.indexed_of (Listed wide_indexes) refl refl refl refl refl refl refl refl 8 64 _ _))

pub wide_name_fault_holds : Demand1 wide-name-fault.Pre wide-name-fault.Post wide_names (λ κs r. r) (λ κs r. []) (λ κs a. []) (λ κs s. [])
wide_name_fault_holds = checks wide_names (λ κs a. tt) (λ κs r. r) (λ κs a r s p. subst (Listed wide_names) (sym p) (wides.name_of (Listed wide_names) refl refl refl refl refl refl refl refl refl _ _))

-- ---- owned keys and identifiers: with a refusal there is none
pub key_of_holds : Demand1 key_of_it.Pre key_of_it.Post key_numbers (λ κs r. number_in (λ (n : ℕ). n) r) (λ κs r. others_in (λ (x : MadeKey). x.kind ∷ x.key.len ∷ x.key.bytes) r) (λ κs a. []) (λ κs s. [])
key_of_holds =
    record {
      accepts = λ κs a. tt;
      numbered = λ κs a r s p. subst (Listed key_numbers) (sym (ap (number_in (λ (n : ℕ). n)) p ∙ key-number (key_for a.0 a.1.0.now))) (key-listed a.0 a.1.0.now);
      nothing_else = λ κs a r s p h. made-alone (λ (n : ℕ). n) (λ (x : MadeKey). x.kind ∷ x.key.len ∷ x.key.bytes) r h;
      keeps = λ κs a r s p h. refl;
    }

pub client_id_from_str_holds : Demand1 client-id-from-str.Pre client-id-from-str.Post (2 ∷ 5 ∷ 6 ∷ []) (λ κs r. number_in (λ (n : ℕ). n) r) (λ κs r. others_in (λ (x : ClientId). x.len ∷ x.bytes) r) (λ κs a. []) (λ κs s. [])
unfolding made_client
client_id_from_str_holds =
    owned (2 ∷ 5 ∷ 6 ∷ []) 64 (λ κs a. tt) (λ (n : ℕ). n) (λ (x : ClientId). x.len ∷ x.bytes) (λ κs a. as_written check.client a.0.now) (λ κs a. written_listed (2 ∷ 5 ∷ 6 ∷ []) check.client _ 64 (omega arith) refl (plain_of (Listed (2 ∷ 5 ∷ 6 ∷ [])) refl refl refl refl 9 64 _)) (λ κs a r s p. ap (number_in (λ (n : ℕ). n)) p ∙ made-number (λ (n : ℕ). n) _ _ _ refl)

pub client_id_new_holds : Demand1 client-id-new.Pre client-id-new.Post clients (λ κs r. number_in (λ (n : ℕ). n) r) (λ κs r. others_in (λ (x : ClientId). x.len ∷ x.bytes) r) (λ κs a. []) (λ κs s. [])
unfolding made_client
client_id_new_holds =
    owned clients 64 (λ κs a. tt) (λ (n : ℕ). n) (λ (x : ClientId). x.len ∷ x.bytes) (λ κs a. new_client a.0.now a.1.0) (λ κs a. answer-listed clients refl _ 64 (client_wants _ _) refl) (λ κs a r s p. ap (number_in (λ (n : ℕ). n)) p ∙ made-number (λ (n : ℕ). n) _ _ _ refl)

pub connection_id_from_str_holds : Demand1 connection-id-from-str.Pre connection-id-from-str.Post indexes (λ κs r. number_in (λ (e : Fault). e.refusal) r) (λ κs r. others_in (λ (x : ConnectionId). x.len ∷ x.bytes) r) (λ κs a. []) (λ κs s. [])
unfolding made_connection
connection_id_from_str_holds =
    owned indexes 64 (λ κs a. tt) (λ (e : Fault). e.refusal) (λ (x : ConnectionId). x.len ∷ x.bytes) (λ κs a. as_written check.connection a.0.now) (λ κs a. written_listed indexes check.connection _ 64 (omega arith) refl (indexed_of (Listed indexes) refl refl refl refl refl refl refl refl 10 64 _ _)) (λ κs a r s p. ap (number_in (λ (e : Fault). e.refusal)) p ∙ made-number (λ (e : Fault). e.refusal) _ _ _ refl)

pub channel_id_from_str_holds : Demand1 channel-id-from-str.Pre channel-id-from-str.Post indexes (λ κs r. number_in (λ (e : Fault). e.refusal) r) (λ κs r. others_in (λ (x : ChannelId). x.len ∷ x.bytes) r) (λ κs a. []) (λ κs s. [])
unfolding made_channel
channel_id_from_str_holds =
    owned indexes 64 (λ κs a. tt) (λ (e : Fault). e.refusal) (λ (x : ChannelId). x.len ∷ x.bytes) (λ κs a. as_written check.channel a.0.now) (λ κs a. written_listed indexes check.channel _ 64 (omega arith) refl (indexed_of (Listed indexes) refl refl refl refl refl refl refl refl 8 64 _ _)) (λ κs a r s p. ap (number_in (λ (e : Fault). e.refusal)) p ∙ made-number (λ (e : Fault). e.refusal) _ _ _ refl)

pub port_id_from_str_holds : Demand1 port-id-from-str.Pre port-id-from-str.Post (2 ∷ 5 ∷ 6 ∷ []) (λ κs r. number_in (λ (n : ℕ). n) r) (λ κs r. others_in (λ (x : PortId). x.len ∷ x.bytes) r) (λ κs a. []) (λ κs s. [])
unfolding made_port
port_id_from_str_holds =
    owned (2 ∷ 5 ∷ 6 ∷ []) 128 (λ κs a. tt) (λ (n : ℕ). n) (λ (x : PortId). x.len ∷ x.bytes) (λ κs a. as_written check.port a.0.now) (λ κs a. written_listed (2 ∷ 5 ∷ 6 ∷ []) check.port _ 128 (omega arith) refl (plain_of (Listed (2 ∷ 5 ∷ 6 ∷ [])) refl refl refl refl 2 128 _)) (λ κs a r s p. ap (number_in (λ (n : ℕ). n)) p ∙ made-number (λ (n : ℕ). n) _ _ _ refl)

-- ---- what a Rattle caller reads with: the answer's number, and its values, as `pair_of` and `packet_of` have them
pub read_iteration_key_holds : Demand1 read-iteration-key.Pre read-iteration-key.Post (15 ∷ []) (λ κs r. (pair_of r).refusal) (λ κs r. (pair_of r).number ∷ (pair_of r).height ∷ []) (λ κs a. []) (λ κs s. [])
read_iteration_key_holds = pairs (15 ∷ []) refl (λ κs a. tt) (λ κs r. pair_of r) (λ κs a. answered 15 (key_revision a.0.now)) (λ κs a. key-refuses (key_revision a.0.now)) (λ κs a r s p. ap pair_of p)

pub first_above_holds : Demand1 first_above_lem.Pre first_above_lem.Post (16 ∷ 12 ∷ []) (λ κs r. (pair_of r).refusal) (λ κs r. (pair_of r).number ∷ (pair_of r).height ∷ []) (λ κs a. []) (λ κs s. [])
first_above_holds = pairs (16 ∷ 12 ∷ []) refl (λ κs a. tt) (λ κs r. pair_of r) (λ κs a. scanned (first_above a.1.0) (block_of a.0.now)) (λ κs a. scan-refuses (first_above a.1.0) (block_of a.0.now)) (λ κs a r s p. ap pair_of p)

pub last_below_holds : Demand1 last_below_lem.Pre last_below_lem.Post (16 ∷ 12 ∷ []) (λ κs r. (pair_of r).refusal) (λ κs r. (pair_of r).number ∷ (pair_of r).height ∷ []) (λ κs a. []) (λ κs s. [])
last_below_holds = pairs (16 ∷ 12 ∷ []) refl (λ κs a. tt) (λ κs r. pair_of r) (λ κs a. scanned (last_below a.1.0) (block_of a.0.now)) (λ κs a. scan-refuses (last_below a.1.0) (block_of a.0.now)) (λ κs a r s p. ap pair_of p)

pub read_packet_key_holds : Demand1 read-packet-key.Pre read-packet-key.Post packet_reads (λ κs r. (packet_of r).refusal) (λ κs r. (packet_of r).kind ∷ (packet_of r).length ∷ (packet_of r).sequence ∷ []) (λ κs a. []) (λ κs s. [])
read_packet_key_holds = packets (λ κs a. tt) (λ κs r. packet_of r) (λ κs a. a.0.now) (λ κs a r s p. ap packet_of p)

-- ---- the texts that are written of what is accepted or read already
pub write_named_holds : Demand1 write-named.Pre write-named.Post room (λ κs r. r.refusal) (λ κs r. r.length ∷ []) (λ κs a. a.1.1.0.now) (λ κs s. s.1.1.0.now)
write_named_holds = writes room _ _ (λ κs a. tt) (λ κs r. r) (λ κs a. text (a.0.now ++ (bytes "-" ++ decimal a.1.0))) refl refl (λ κs a. tt) (λ κs a r s p. p)

pub fit_parent_holds : Demand1 fit-parent.Pre fit-parent.Post room (λ κs r. r.refusal) (λ κs r. r.length ∷ []) (λ κs a. a.1.0.now) (λ κs s. s.1.0.now)
fit_parent_holds = writes room _ _ (λ κs a. tt) (λ κs r. r) (λ κs a. text (parent_text a.0.now)) refl refl (λ κs a. tt) (λ κs a r s p. p)

pub write_shown_holds : Demand1 write-shown.Pre write-shown.Post readings (λ κs r. r.refusal) (λ κs r. r.length ∷ []) (λ κs a. a.1.1.0.now) (λ κs s. s.1.1.0.now)
write_shown_holds = writes readings _ _ (λ κs a. tt) (λ κs r. r) (λ κs a. shown_by a.0.now a.1.0) refl refl (λ κs a. shown_wants _ _) (λ κs a r s p. p)

pub write_view_holds : Demand1 write_view.Pre write_view.Post room (λ κs r. r.refusal) (λ κs r. r.length ∷ []) (λ κs a. a.1.0.now) (λ κs s. s.1.0.now)
write_view_holds = writes room _ _ (λ κs a. tt) (λ κs r. r) (λ κs a. text (view_bytes a.0)) refl refl (λ κs a. tt) (λ κs a r s p. p)

pub write_answer_holds : Demand1 write-answer.Pre write-answer.Post readings (λ κs r. r.refusal) (λ κs r. []) (λ κs a. a.1.0.now) (λ κs s. s.1.0.now)
unfolding answer_by
write_answer_holds = writes-number readings _ _ (λ κs a. tt) (λ κs r. r.refusal) (λ κs a. bytes_by a.0) refl refl (λ κs a. bytes_wants a.0) (λ κs a r s p. (ap (λ (f : Fault). f.refusal) p.0, p.1))

-- ---- the book's functions; the manner of a write, a removal and a lookup is an argument
pub new_book_holds : Demand1 new_book.Pre new_book.Post new_numbers (λ κs r. r) (λ κs r. []) (λ κs a. a.0.now) (λ κs s. s.0.now)
new_book_holds = made_demand (λ κs a. tt) (λ κs r. r) (λ κs a. a.0.now) (λ κs s. s.0.now) (λ κs a. a.1.0) (λ κs a. a.1.1.0) (λ κs a r s p. p)

pub book_write_holds : Demand1 book-write.Pre book-write.Post (write_numbers Plain) (λ κs r. r) (λ κs r. []) (λ κs a. a.1.0.now) (λ κs s. s.1.0.now)
book_write_holds = changed_demand (λ κs a. tt) (λ κs r. r) (λ κs a. a.1.0.now) (λ κs s. s.1.0.now) (write_numbers Plain) (λ κs a. write a.0 a.1.1.0 a.1.1.1.0.now a.1.1.1.1.0.now) (λ κs a b x b₁ o. in-plain a.0 _ _ (write-listed a.0 _ _ _ o)) (λ κs a r s p. p)

pub book_remove_holds : Demand1 book-remove.Pre book-remove.Post (remove_numbers Plain) (λ κs r. r) (λ κs r. []) (λ κs a. a.1.0.now) (λ κs s. s.1.0.now)
book_remove_holds = changed_demand (λ κs a. tt) (λ κs r. r) (λ κs a. a.1.0.now) (λ κs s. s.1.0.now) (remove_numbers Plain) (λ κs a. remove a.0 a.1.1.0 a.1.1.1.0.now) (λ κs a b x b₁ o. in-plain a.0 _ _ (remove-listed a.0 _ _ o)) (λ κs a r s p. p)

pub book_lookup_holds : Demand1 book-lookup.Pre book-lookup.Post (look_numbers Plain) (λ κs r. r.refusal) (λ κs r. r.length ∷ []) (λ κs a. a.1.1.1.1.0.now) (λ κs s. s.1.1.1.1.0.now)
book_lookup_holds = found_demand (λ κs a. tt) (look_numbers Plain) (λ κs a. a.0) (λ κs a n h. in-plain a.0 _ _ h) (λ κs r. r) (λ κs a. a.1.0.now) (λ κs a. a.1.1.0) (λ κs a. a.1.1.1.0.now) (λ κs a. a.1.1.1.1.0.now) (λ κs s. s.1.1.1.1.0.now) (λ κs a r s p. p)

pub oldest_holds : Demand1 oldest.Pre oldest.Post oldest_numbers (λ κs r. r.refusal) (λ κs r. r.number ∷ r.height ∷ []) (λ κs a. []) (λ κs s. [])
oldest_holds = oldest_demand (λ κs a. tt) (λ κs r. r) (λ κs a. a.0.now) (λ κs a. a.1.0) (λ κs a. a.1.1.0.now) (λ κs a r s p. p)

pub clear_holds : Demand1 clear.Pre clear.Post clear_numbers (λ κs r. r.refusal) (λ κs r. r.count ∷ []) (λ κs a. a.0.now) (λ κs s. s.0.now)
clear_holds = cleared_demand (λ κs a. tt) (λ κs r. r) (λ κs a. a.0.now) (λ κs s. s.0.now) (λ κs a. a.1.0) (λ κs a. a.1.1.0.now) (λ κs a. a.1.1.1.0) (λ κs a r s p. p)

pub convert_holds : Demand1 convert.Pre convert.Post convert_numbers (λ κs r. r) (λ κs r. []) (λ κs a. a.1.0.now) (λ κs s. s.1.0.now)
convert_holds = converted_demand (λ κs a. tt) (λ κs r. r) (λ κs a. a.1.0.now) (λ κs s. s.1.0.now) (λ κs a. a.0.now) (λ κs a r s p. p)

pub convert_owners_holds : Demand1 convert-owners.Pre convert-owners.Post convert_owners_numbers (λ κs r. r) (λ κs r. []) (λ κs a. a.1.0.now) (λ κs s. s.1.0.now)
convert_owners_holds = owned_demand (λ κs a. tt) (λ κs r. r) (λ κs a. a.1.0.now) (λ κs s. s.1.0.now) (λ κs a. a.0.now) (λ κs a. a.1.1.0) (λ κs a. a.1.1.1.0) (λ κs a r s p. p)

pub fill_holds : Demand1 fill.Pre fill.Post fill_numbers (λ κs r. r) (λ κs r. []) (λ κs a. a.1.0.now) (λ κs s. s.1.0.now)
fill_holds = filled_demand (λ κs a. tt) (λ κs r. r) (λ κs a. a.0.now) (λ κs a. a.1.0.now) (λ κs s. s.1.0.now) (λ κs a r s p. p)

pub look_many_holds : Demand1 look-many.Pre look-many.Post many_numbers (λ κs r. r.refusal) (λ κs r. r.length ∷ []) (λ κs a. a.1.1.1.1.0.now) (λ κs s. s.1.1.1.1.0.now)
look_many_holds = looked_many_demand (λ κs a. tt) (λ κs r. r) (λ κs a. a.0.now) (λ κs a. a.1.0) (λ κs a. a.1.1.0.now) (λ κs a. a.1.1.1.0.now) (λ κs a. a.1.1.1.1.0.now) (λ κs s. s.1.1.1.1.0.now) (λ κs a r s p. p)
