-- The contract of each public function, as the source has it, leaves one outcome: the result, and the content of the buffer that is lent.
-- Assumes nothing.
use Rattle.text.specs.Outcome.{OneWith}
use Rattle.text.specs.OutcomeLaws.{agree}
use Rattle.key.proofs.write_rendering.Reads as write-rendering
use Rattle.key.proofs.write_shown.Reads as write-shown
use Rattle.key.proofs.write_read.Reads as write_read
use Rattle.key.proofs.write_key.Reads as write-key

pub one-write_rendering : OneWith write-rendering.Post (λ κs s. s.0.now)
one-write_rendering κs a r₁ r₂ s₁ s₂ p q = agree p q

pub one-write_shown : OneWith write-shown.Post (λ κs s. s.1.1.0.now)
one-write_shown κs a r₁ r₂ s₁ s₂ p q = agree p q

pub one-write_read : OneWith write_read.Post (λ κs s. s.1.1.0.now)
one-write_read κs a r₁ r₂ s₁ s₂ p q = agree p q

pub one-write_key : OneWith write-key.Post (λ κs s. s.1.0.now)
one-write_key κs a r₁ r₂ s₁ s₂ p q = agree p q
