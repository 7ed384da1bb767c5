-- The contract of each public function, as the source has it, leaves one outcome: the result, and the content of the buffer that is lent.
-- Assumes nothing.
use mathlib.Core.Path.{sym, ◌∙◌}
use Rattle.text.specs.Outcome.{One, OneWith}
use Rattle.text.specs.OutcomeLaws.{agree}
use Rattle.render.proofs.render.Reads as render
use Rattle.render.proofs.fit.fit_kind.Reads as fit-kind
use Rattle.render.proofs.names_of.Reads as names_of
use Rattle.render.proofs.checks.checked_kind.Reads as checked-kind
use Rattle.render.proofs.checks.checked_parent.Reads as checked-parent
use Rattle.render.proofs.checks.checked_packets.Reads as checked-packets
use denote.RattleType.{RattleType}
use denote.Param.Laws.{Laws}
use mir.Syntax.{Dict}
use Rattle.render.specs.declared.checks.NameCheck as NameCheck
use Rattle.render.proofs.texts.fit_parent.Reads as fit-parent
use Rattle.render.proofs.texts.fit_packets_path.Reads as fit-packets-path
use Rattle.render.proofs.texts.client_state_prefix.Reads as client-state-prefix
use Rattle.render.proofs.texts.client_state_leaf.Reads as client-state-leaf
use Rattle.render.proofs.texts.consensus_state_parent.Reads as consensus-state-parent
use Rattle.render.proofs.texts.consensus_state_leaf.Reads as consensus-state-leaf
use Rattle.render.proofs.texts.update_time_leaf.Reads as update-time-leaf
use Rattle.render.proofs.texts.update_height_leaf.Reads as update-height-leaf
use Rattle.render.proofs.texts.connection_prefix.Reads as connection-prefix
use Rattle.render.proofs.texts.channel_end_prefix.Reads as channel-end-prefix
use Rattle.render.proofs.texts.commitments_path.Reads as commitments-path
use Rattle.render.proofs.texts.acks_path.Reads as acks-path
use Rattle.render.proofs.texts.receipts_path.Reads as receipts-path
use Rattle.render.proofs.texts.commitment_prefix.Reads as commitment-prefix
use Rattle.render.proofs.texts.ack_prefix.Reads as ack-prefix
use Rattle.render.proofs.texts.receipt_prefix.Reads as receipt-prefix

pub one-render : OneWith render.Post (λ κs s. s.1.1.1.1.1.0.now)
one-render κs a r₁ r₂ s₁ s₂ p q = agree p q

pub one-fit_kind : OneWith fit-kind.Post (λ κs s. s.0.now)
one-fit_kind κs a r₁ r₂ s₁ s₂ p q = agree p q

pub one-names_of : One names_of.Post
one-names_of κs a r₁ r₂ s₁ s₂ p q = p ∙ sym q

pub one-fit_parent : OneWith fit-parent.Post (λ κs s. s.1.0.now)
one-fit_parent κs a r₁ r₂ s₁ s₂ p q = agree p q

pub one-fit_packets_path : OneWith fit-packets-path.Post (λ κs s. s.1.1.1.0.now)
one-fit_packets_path κs a r₁ r₂ s₁ s₂ p q = agree p q

pub one-client_state_prefix : OneWith client-state-prefix.Post (λ κs s. s.0.now)
one-client_state_prefix κs a r₁ r₂ s₁ s₂ p q = agree p q

pub one-client_state_leaf : OneWith client-state-leaf.Post (λ κs s. s.0.now)
one-client_state_leaf κs a r₁ r₂ s₁ s₂ p q = agree p q

pub one-consensus_state_parent : OneWith consensus-state-parent.Post (λ κs s. s.1.0.now)
one-consensus_state_parent κs a r₁ r₂ s₁ s₂ p q = agree p q

pub one-consensus_state_leaf : OneWith consensus-state-leaf.Post (λ κs s. s.1.1.0.now)
one-consensus_state_leaf κs a r₁ r₂ s₁ s₂ p q = agree p q

pub one-update_time_leaf : OneWith update-time-leaf.Post (λ κs s. s.1.1.0.now)
one-update_time_leaf κs a r₁ r₂ s₁ s₂ p q = agree p q

pub one-update_height_leaf : OneWith update-height-leaf.Post (λ κs s. s.1.1.0.now)
one-update_height_leaf κs a r₁ r₂ s₁ s₂ p q = agree p q

pub one-connection_prefix : OneWith connection-prefix.Post (λ κs s. s.0.now)
one-connection_prefix κs a r₁ r₂ s₁ s₂ p q = agree p q

pub one-channel_end_prefix : OneWith channel-end-prefix.Post (λ κs s. s.0.now)
one-channel_end_prefix κs a r₁ r₂ s₁ s₂ p q = agree p q

pub one-commitments_path : OneWith commitments-path.Post (λ κs s. s.1.1.0.now)
one-commitments_path κs a r₁ r₂ s₁ s₂ p q = agree p q

pub one-acks_path : OneWith acks-path.Post (λ κs s. s.1.1.0.now)
one-acks_path κs a r₁ r₂ s₁ s₂ p q = agree p q

pub one-receipts_path : OneWith receipts-path.Post (λ κs s. s.1.1.0.now)
one-receipts_path κs a r₁ r₂ s₁ s₂ p q = agree p q

pub one-commitment_prefix : OneWith commitment-prefix.Post (λ κs s. s.0.now)
one-commitment_prefix κs a r₁ r₂ s₁ s₂ p q = agree p q

pub one-ack_prefix : OneWith ack-prefix.Post (λ κs s. s.0.now)
one-ack_prefix κs a r₁ r₂ s₁ s₂ p q = agree p q

pub one-receipt_prefix : OneWith receipt-prefix.Post (λ κs s. s.0.now)
one-receipt_prefix κs a r₁ r₂ s₁ s₂ p q = agree p q

-- whatever the identifiers are made of
pub one-checked_kind : (T : RattleType) (M : Laws T) (G : NameCheck.Ghosts T.Denot) (D : Dict) → OneWith (checked-kind.Post T M G D) (λ κs s. s.0.now)
one-checked_kind T M G D κs a r₁ r₂ s₁ s₂ p q = agree p q

pub one-checked_parent : (T : RattleType) (M : Laws T) (G : NameCheck.Ghosts T.Denot) (D : Dict) → OneWith (checked-parent.Post T M G D) (λ κs s. s.1.0.now)
one-checked_parent T M G D κs a r₁ r₂ s₁ s₂ p q = agree p q

pub one-checked_packets : (T : RattleType) (M : Laws T) (G : NameCheck.Ghosts T.Denot) (D : Dict) → OneWith (checked-packets.Post T M G D) (λ κs s. s.1.1.1.0.now)
one-checked_packets T M G D κs a r₁ r₂ s₁ s₂ p q = agree p q
