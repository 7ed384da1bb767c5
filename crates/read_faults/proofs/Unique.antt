-- The contract, as the source has it, leaves one result.
-- Assumes nothing.
use mathlib.Core.Path.{sym, ◌∙◌}
use Rattle.text.specs.Outcome.{One}
use Rattle.read_faults.proofs.number_fault.Reads as number-fault

pub one-number_fault : One number-fault.Post
one-number_fault κs a r₁ r₂ s₁ s₂ p q = p ∙ sym q
