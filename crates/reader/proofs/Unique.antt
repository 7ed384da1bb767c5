-- The contract of each public function, as the source has it, leaves one outcome: the result, and the content of the buffer that is lent.
-- Assumes nothing.
use mathlib.Core.Path.{sym, ◌∙◌}
use Rattle.text.specs.Outcome.{One, OneWith}
use Rattle.text.specs.OutcomeLaws.{agree}
use Rattle.reader.proofs.read_path.Reads as read-path
use Rattle.reader.proofs.write_reading.Reads as write-reading

pub one-read_path : One read-path.Post
one-read_path κs a r₁ r₂ s₁ s₂ p q = p ∙ sym q

pub one-write_reading : OneWith write-reading.Post (λ κs s. s.1.0.now)
one-write_reading κs a r₁ r₂ s₁ s₂ p q = agree p q
