-- The contract, as the source has it, leaves one outcome.
-- Assumes nothing.
use mathlib.Core.Path.{sym, ◌∙◌}
use Rattle.text.specs.Outcome.{One}
use Rattle.book_key.proofs.key_of.Reads as key_of

pub one-key_of : One key_of.Post
one-key_of κs a r₁ r₂ s₁ s₂ p q = p ∙ sym q
