-- The contract of each public function, as the source has it, leaves one outcome: the answer, and the content of the second buffer.
-- Assumes nothing.
use Rattle.text.specs.Outcome.{OneWith}
use Rattle.book_convert.specs.ConvertLaws.{one-converted}
use Rattle.book_convert.specs.OwnersLaws.{one-owners}
use Rattle.book_convert.proofs.convert.Reads as convert
use Rattle.book_convert.proofs.convert_owners.Reads as convert-owners

pub one-convert : OneWith convert.Post (λ κs s. s.1.0.now)
one-convert κs a r₁ r₂ s₁ s₂ p q = one-converted p q

pub one-convert_owners : OneWith convert-owners.Post (λ κs s. s.1.0.now)
one-convert_owners κs a r₁ r₂ s₁ s₂ p q = one-owners p q
