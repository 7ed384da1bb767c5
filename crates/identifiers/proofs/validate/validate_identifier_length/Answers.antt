-- `identifiers::validate::validate_identifier_length` meets its contract.
use Rattle.identifiers.specs.Check.{length_of}
use Rattle.identifiers.proofs.validate.validate_identifier_length.Goals as goal

pub returns : goal.returns
unfolding length_of
returns c = c.check_length.ensures
