-- The contract of each public function, as the source has it, leaves one outcome: the result, and the content of the buffer that is lent.
-- Assumes nothing.
use mathlib.Core.Path.{sym, ◌∙◌}
use Rattle.text.specs.Outcome.{OneWith}
use Rattle.writers.proofs.kinds.write_next_sequence.Reads as write-next-sequence
use Rattle.writers.proofs.kinds.write_kind.Reads as write-kind
use Rattle.writers.proofs.parents.write_consensus_parent.Reads as write-consensus-parent
use Rattle.writers.proofs.parents.write_consensus_leaf.Reads as write-consensus-leaf
use Rattle.writers.proofs.parents.write_packets_path.Reads as write-packets-path

pub one-write_next_sequence : OneWith write-next-sequence.Post (λ κs s. s.0.now)
one-write_next_sequence κs a r₁ r₂ s₁ s₂ p q = (p.next ∙ sym q.next, p.after ∙ sym q.after)

pub one-write_kind : OneWith write-kind.Post (λ κs s. s.0.now)
one-write_kind κs a r₁ r₂ s₁ s₂ p q = (p.next ∙ sym q.next, p.after ∙ sym q.after)

pub one-write_consensus_parent : OneWith write-consensus-parent.Post (λ κs s. s.0.now)
one-write_consensus_parent κs a r₁ r₂ s₁ s₂ p q = (p.next ∙ sym q.next, p.after ∙ sym q.after)

pub one-write_consensus_leaf : OneWith write-consensus-leaf.Post (λ κs s. s.0.now)
one-write_consensus_leaf κs a r₁ r₂ s₁ s₂ p q = (p.next ∙ sym q.next, p.after ∙ sym q.after)

pub one-write_packets_path : OneWith write-packets-path.Post (λ κs s. s.0.now)
one-write_packets_path κs a r₁ r₂ s₁ s₂ p q = (p.next ∙ sym q.next, p.after ∙ sym q.after)
