-- `identifiers::alphabet::check_plain` meets its contract.
use mathlib.Core.Path.{sym, ◌∙◌}
use Rattle.identifiers.specs.CheckLaws.{first_some, first-none}
use Rattle.identifiers.proofs.alphabet.check_plain.Goals as goal

pub returns-then-characters-ne0 : goal.returns-then-characters-ne0
returns-then-characters-ne0 g c = c.check_characters-characters.ensures ∙ sym (first_some _ _ (λ z. c.if-characters-ne0.true (c.check_characters-characters.ensures ∙ z)))

pub returns : goal.returns
returns g c = c.length_within.ensures ∙ sym (first-none _ _ (sym c.check_characters-characters.ensures ∙ c.if-characters-ne0.false))
