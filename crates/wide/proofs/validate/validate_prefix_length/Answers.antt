-- `wide::validate::validate_prefix_length` meets its contract.
use Rattle.wide.specs.Check.{prefix_length_in}
use Rattle.wide.proofs.validate.validate_prefix_length.Goals as goal

pub returns : goal.returns
unfolding prefix_length_in
returns c = rw (← c.saturating_sub.ensures, ← c.saturating_sub-2.ensures) c.validate_identifier_length.ensures
