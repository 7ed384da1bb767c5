-- `identifiers::validate::check_named` meets its contract.
use mathlib.Core.Path.{refl, sym, ◌∙◌}
use native.Mathlib.Omega.{arith}
use Rattle.text.specs.FaultLaws.{refuses}
use Rattle.identifiers.specs.CheckLaws.{named_other, named-ends, named-joined, named-index}
use Rattle.identifiers.specs.FaultLaws.{named-answers}
use Rattle.identifiers.proofs.validate.check_named.Goals as goal

pub returns-then-not-same_at : goal.returns-then-not-same_at
returns-then-not-same_at c = c.placeless.ensures ∙ refuses 7 _ _ (named_other _ _ (sym c.same_at.ensures ∙ c.if-not-same_at.true)) refl

pub returns-then-id-at : goal.returns-then-id-at
returns-then-id-at c = c.placeless-then-id-at.ensures ∙ refuses 7 _ _ (named-ends _ _ (sym c.same_at.ensures ∙ c.if-not-same_at.false) (omega arith)) refl

pub returns-then-id-at-ne45 : goal.returns-then-id-at-ne45
returns-then-id-at-ne45 c =
    c.placeless-then-id-at-ne45.ensures ∙ refuses 7 _ _ (named-joined _ _ (sym c.same_at.ensures ∙ c.if-not-same_at.false) (omega arith) c.if-id-at-ne45.true) refl

pub returns : goal.returns
returns c =
    c.check_index.ensures ∙ named-answers _ _ (named-index _ _ (sym c.same_at.ensures ∙ c.if-not-same_at.false) (omega arith) c.if-id-at-ne45.false)
