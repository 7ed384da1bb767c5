-- `wide::validate::validate_identifier_chars` meets its contract.
use mathlib.Core.Path.{◌∙◌}
use Rattle.wide.specs.StepLaws.{chars-wide}
use Rattle.wide.proofs.validate.validate_identifier_chars.Goals as goal

pub returns : goal.returns
returns c = c.wide_chars.ensures ∙ chars-wide _
