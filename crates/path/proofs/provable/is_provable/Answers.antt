-- `provable::is_provable` meets its contract.
use Rattle.path.specs.ViewLaws.{view-kind}
use Rattle.path.proofs.provable.is_provable.Goals as goal

pub returns : goal.returns
returns c = rw (c.provable_kind.ensures, view-kind _ _ _ c.view-v.ensures)
