-- `wide::validate::validate_channel_identifier` meets its contract.
use mathlib.Core.Path.{sym, ◌∙◌}
use Rattle.identifiers.specs.Check.{channel}
use Rattle.wide.proofs.AsciiLaws.{fault-ascii}
use Rattle.wide.proofs.validate.validate_channel_identifier.Goals as goal

pub returns-then-all_ascii : goal.returns-then-all_ascii
returns-then-all_ascii c = c.validate_channel_identifier.ensures ∙ sym (fault-ascii _ (sym c.all_ascii.ensures ∙ c.if-all_ascii.true) channel)
