-- `identifiers::validate::validate_prefix_length` meets its contract.
use Rattle.identifiers.specs.Check.{prefix_length_of}
use Rattle.identifiers.proofs.validate.validate_prefix_length.Goals as goal

pub returns : goal.returns
unfolding prefix_length_of
returns c = rw (← c.saturating_sub.ensures, ← c.saturating_sub-2.ensures) c.validate_identifier_length.ensures
