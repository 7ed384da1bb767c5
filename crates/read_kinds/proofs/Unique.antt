-- The contract, as the source has it, leaves one result.
-- Assumes nothing.
use mathlib.Core.Path.{sym, ◌∙◌}
use Rattle.text.specs.Outcome.{One}
use Rattle.read_kinds.proofs.parse_path.Reads as parse-path

pub one-parse_path : One parse-path.Post
one-parse_path κs a r₁ r₂ s₁ s₂ p q = p ∙ sym q
