-- The contract of each public function, as the source has it, leaves one outcome: the result, and the content of the buffer that is lent.
-- Assumes nothing.
use mathlib.Core.Path.{sym, ◌∙◌}
use Rattle.text.specs.Outcome.{One, OneWith}
use Rattle.text.specs.OutcomeLaws.{agree}
use Rattle.iteration.proofs.iteration_key.Reads as iteration-key
use Rattle.iteration.proofs.read_iteration_key.Reads as read-iteration-key
use Rattle.iteration.proofs.pair_of.Reads as pair_of
use Rattle.iteration.proofs.block.first_above.Reads as first_above_lem
use Rattle.iteration.proofs.block.last_below.Reads as last_below_lem

pub one-iteration_key : OneWith iteration-key.Post (λ κs s. s.1.1.0.now)
one-iteration_key κs a r₁ r₂ s₁ s₂ p q = agree p q

pub one-read_iteration_key : One read-iteration-key.Post
one-read_iteration_key κs a r₁ r₂ s₁ s₂ p q = p ∙ sym q

pub one-pair_of : One pair_of.Post
one-pair_of κs a r₁ r₂ s₁ s₂ p q = p ∙ sym q

pub one-first_above : One first_above_lem.Post
one-first_above κs a r₁ r₂ s₁ s₂ p q = p ∙ sym q

pub one-last_below : One last_below_lem.Post
one-last_below κs a r₁ r₂ s₁ s₂ p q = p ∙ sym q
