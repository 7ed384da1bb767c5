-- `wide::validate::validate_named_u64_index` meets its contract.
use Rattle.wide.specs.Mode.{wide}
use Rattle.wide.specs.Check.{named_index_in, named_index_fault_in}
use Rattle.wide.proofs.validate.validate_named_u64_index.Goals as goal

pub returns : goal.returns
unfolding wide named_index_in named_index_fault_in
returns c = c.check_named_index.ensures
