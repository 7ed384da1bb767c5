-- The contract of each public function, as the source has it, leaves one outcome: the result, and the content of the buffer that is lent.
-- Assumes nothing.
use Rattle.text.specs.Outcome.{OneWith}
use Rattle.text.specs.OutcomeLaws.{agree}
use Rattle.sentences.proofs.write_sentence.Reads as write-sentence
use Rattle.sentences.proofs.give_sentence.Reads as give-sentence

pub one-write_sentence : OneWith write-sentence.Post (λ κs s. s.0.now)
one-write_sentence κs a r₁ r₂ s₁ s₂ p q = agree p q

pub one-give_sentence : OneWith give-sentence.Post (λ κs s. s.0.now)
one-give_sentence κs a r₁ r₂ s₁ s₂ p q = agree p q
