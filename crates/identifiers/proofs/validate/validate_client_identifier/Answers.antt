-- `identifiers::validate::validate_client_identifier` meets its contract.
use mathlib.Core.Path.{sym, ◌∙◌}
use Rattle.identifiers.specs.CheckLaws.{check-plain}
use Rattle.identifiers.proofs.validate.validate_client_identifier.Goals as goal

pub returns : goal.returns
returns c = c.check_plain.ensures ∙ sym (check-plain _ _ _)
