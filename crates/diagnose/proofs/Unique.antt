-- The contract of the public function, as the source has it, leaves one result.
-- Assumes nothing.
use mathlib.Core.Path.{sym, ◌∙◌}
use Rattle.text.specs.Outcome.{One}
use Rattle.diagnose.proofs.diagnose.Reads as diagnose

pub one-diagnose : One diagnose.Post
one-diagnose κs a r₁ r₂ s₁ s₂ p q = p ∙ sym q
