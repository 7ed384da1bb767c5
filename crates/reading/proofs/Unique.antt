-- The contract of each public function, as the source has it, leaves one outcome: the result, which for a part of the caller's text is its bytes
-- and where it points, and the content of the buffer that is lent.
-- Assumes nothing.
use mathlib.Core.Path.{sym, ◌∙◌}
use Rattle.text.specs.Outcome.{One, OneWith, OnePart}
use Rattle.text.specs.OutcomeLaws.{agree, one-part as same-part}
use Rattle.reading.proofs.part.Reads as part
use Rattle.reading.proofs.fault.Reads as fault
use Rattle.reading.proofs.encode.write_view.Reads as write_view
use Rattle.reading.proofs.write_answer.Reads as write-answer
use Rattle.reading.proofs.first_identifier.Reads as first-identifier
use Rattle.reading.proofs.second_identifier.Reads as second-identifier

pub one-fault : One fault.Post
one-fault κs a r₁ r₂ s₁ s₂ p q = p ∙ sym q

pub one-write_view : OneWith write_view.Post (λ κs s. s.1.0.now)
one-write_view κs a r₁ r₂ s₁ s₂ p q = agree p q

pub one-write_answer : OneWith write-answer.Post (λ κs s. s.1.0.now)
one-write_answer κs a r₁ r₂ s₁ s₂ p q = agree p q

pub one-part : OnePart part.Post
one-part κs a r₁ r₂ s₁ s₂ p q = same-part p q

pub one-first_identifier : OnePart first-identifier.Post
one-first_identifier κs a r₁ r₂ s₁ s₂ p q = same-part p q

pub one-second_identifier : OnePart second-identifier.Post
one-second_identifier κs a r₁ r₂ s₁ s₂ p q = same-part p q
