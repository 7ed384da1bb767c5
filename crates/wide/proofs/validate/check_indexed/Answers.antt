-- `wide::validate::check_indexed` meets its contract.
use mathlib.Core.Path.{sym, ◌∙◌}
use Rattle.wide.specs.StepLaws.{check-short}
use Rattle.wide.proofs.StepLaws.{short-first, named-last}
use Rattle.wide.proofs.validate.check_indexed.Goals as goal

pub returns-then-plain-ne0 : goal.returns-then-plain-ne0
returns-then-plain-ne0 c = c.placeless.ensures ∙ short-first _ _ _ _ _ (c.check_plain-plain.ensures ∙ sym (check-short _ _ _ _)) c.if-plain-ne0.true

pub returns : goal.returns
returns c = c.check_named.ensures ∙ named-last _ _ _ _ _ (c.check_plain-plain.ensures ∙ sym (check-short _ _ _ _)) c.if-plain-ne0.false
