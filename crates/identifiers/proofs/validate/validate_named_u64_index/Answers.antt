-- `identifiers::validate::validate_named_u64_index` meets its contract.
use Rattle.identifiers.specs.Check.{named_index_of, named_index_fault}
use Rattle.identifiers.proofs.validate.validate_named_u64_index.Goals as goal

pub returns : goal.returns
unfolding named_index_of named_index_fault
returns c = c.check_named_index.ensures
