-- `identifiers::validate::check_indexed` meets its contract.
use mathlib.Core.Path.{sym, ap, ◌∙◌}
use Rattle.identifiers.specs.FaultLaws.{length-only, plain-first, named-last}
use Rattle.identifiers.specs.CheckLaws.{check-plain}
use Rattle.identifiers.specs.IndexLaws.{named-check}
use Rattle.identifiers.proofs.validate.check_indexed.Goals as goal

pub returns-then-named-eq0 : goal.returns-then-named-eq0
returns-then-named-eq0 c =
    let is = ap (λ f. f.refusal) (sym c.check_named-named.ensures) ∙ c.if-named-eq0.true in
    c.placeless.ensures
    ∙ rw c.length_within.ensures (length-only c.args.least c.args.most c.args.name.now c.args.id.now (named-check c.args.name.now c.args.id.now c.requires is c.args.least c.args.most))

pub returns-then-plain-ne0 : goal.returns-then-plain-ne0
returns-then-plain-ne0 c = c.placeless-then-plain-ne0.ensures ∙ plain-first _ _ _ _ _ (c.check_plain-plain.ensures ∙ sym (check-plain _ _ _)) c.if-plain-ne0.true

pub returns : goal.returns
returns c = c.check_named-named.ensures ∙ named-last _ _ _ _ _ (c.check_plain-plain.ensures ∙ sym (check-plain _ _ _)) c.if-plain-ne0.false
