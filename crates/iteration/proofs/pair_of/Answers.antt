-- `iteration::pair_of` meets its contract.
use mathlib.Core.Path.{sym, ap}
use Rattle.iteration.specs.Key.{pair_of}
use Rattle.iteration.proofs.pair_of.Goals as goal

pub returns-in-Ok : goal.returns-in-Ok
returns-in-Ok c = sym (ap pair_of c.in-Ok.is)

pub returns-in-Err : goal.returns-in-Err
returns-in-Err c = sym (ap pair_of c.in-Err.is)
