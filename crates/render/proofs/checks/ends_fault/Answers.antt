use mathlib.Core.Path.{sym, ◌∙◌}
use Rattle.identifiers.specs.CheckLaws.{first_some, first-none}
use Rattle.render.proofs.checks.ends_fault.Goals as goal

pub returns-then-refusal-ne0 : goal.returns-then-refusal-ne0
returns-then-refusal-ne0 g c = c.name_fault-refusal.ensures ∙ sym (first_some _ _ (λ z. c.if-refusal-ne0.true (c.name_fault-refusal.ensures ∙ z)))

pub returns : goal.returns
returns g c = c.name_fault.ensures ∙ sym (first-none _ _ (sym c.name_fault-refusal.ensures ∙ c.if-refusal-ne0.false))
