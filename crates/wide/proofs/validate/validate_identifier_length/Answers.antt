-- `wide::validate::validate_identifier_length` meets its contract.
use Rattle.wide.specs.Mode.{wide}
use Rattle.wide.specs.Check.{length_in}
use Rattle.wide.proofs.validate.validate_identifier_length.Goals as goal

pub returns : goal.returns
unfolding wide length_in
returns c = c.check_length.ensures
