-- The contract of each public function, as the source has it, leaves one outcome: the result, and the content of the buffer that is lent.
-- Assumes nothing.
use mathlib.Core.Path.{◌≡◌, sym, ap, ◌∙◌}
use Prim.Native.Nat.{ℕ}
use Rattle.text.specs.Outcome.{OneWith}
use Rattle.text.specs.OutcomeLaws.{agree}
use Rattle.ask.specs.declared.input.Step.{Step}
use Rattle.ask.proofs.answer_line.Reads as answer-line
use Rattle.ask.proofs.input.answer_lines.Reads as answer-lines
use Rattle.ask.proofs.input.answer_last.Reads as answer-last

pub one-answer_line : OneWith answer-line.Post (λ κs s. s.0.now)
one-answer_line κs a r₁ r₂ s₁ s₂ p q = agree p q

-- what is held stands in the first buffer, and the answers in the other
abbrev step : ℕ → ℕ → Step
step h u = record { held = h; used = u }

same_step : (a b : Step) → a.held ≡ b.held → a.used ≡ b.used → a ≡ b
same_step a b h u = ap (λ x. step x a.used) h ∙ ap (step b.held) u

pub one-answer_lines : OneWith answer-lines.Post (λ κs s. s.1.1.1.0.now)
one-answer_lines κs a r₁ r₂ s₁ s₂ p q = (same_step r₁ r₂ (p.holds.next ∙ sym q.holds.next) (p.answered.next ∙ sym q.answered.next), p.answered.after ∙ sym q.answered.after)

pub one-held : OneWith answer-lines.Post (λ κs s. s.0.now)
one-held κs a r₁ r₂ s₁ s₂ p q = ((one-answer_lines κs a r₁ r₂ s₁ s₂ p q).0, p.holds.after ∙ sym q.holds.after)

pub one-answer_last : OneWith answer-last.Post (λ κs s. s.1.0.now)
one-answer_last κs a r₁ r₂ s₁ s₂ p q = (p.next ∙ sym q.next, p.after ∙ sym q.after)
