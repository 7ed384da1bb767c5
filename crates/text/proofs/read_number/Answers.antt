-- `text::read_number` meets its contract.
use mathlib.Core.Path.{sym, ◌∙◌}
use native.Mathlib.Omega.{arith}
use Rattle.text.proofs.Steps as steps
use Rattle.text.proofs.read_number.Goals as goal

pub returns-then-s-eq0 : goal.returns-then-s-eq0
returns-then-s-eq0 c = sym (steps.numeral-none _ c.if-s-eq0.true)

pub returns-then-s-eq43 : goal.returns-then-s-eq43
returns-then-s-eq43 c = c.digits_at.ensures ∙ sym (steps.numeral_plus _ (omega arith) c.if-s-eq43.true)

pub returns-else-s-eq43 : goal.returns-else-s-eq43
returns-else-s-eq43 c = c.digits_at-else-s-eq43.ensures ∙ sym (steps.numeral-plain _ (omega arith) c.if-s-eq43.false)
