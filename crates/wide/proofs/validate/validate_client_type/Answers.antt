-- `wide::validate::validate_client_type` meets its contract.
use mathlib.Core.Path.{sym, ◌∙◌}
use Rattle.wide.specs.StepLaws.{check-short}
use Rattle.wide.proofs.validate.validate_client_type.Goals as goal

pub returns : goal.returns
returns c = c.check_plain.ensures ∙ sym (check-short _ _ _ _)
