-- `fault::or_fault` meets its contract.
use Rattle.read_faults.proofs.Steps.{some-fault}
use Rattle.read_faults.proofs.or_fault.Goals as goal

pub returns-in_default : goal.returns-in_default
returns-in_default c = some-fault _ _ c.in_default.not-NotAPath

pub returns : goal.returns
returns c = rw c.in-NotAPath.is
