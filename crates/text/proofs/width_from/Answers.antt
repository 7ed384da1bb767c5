-- `text::width_from` meets its contract.
use native.Mathlib.Omega.{arith}
use Rattle.text.specs.WidthLaws.{width_in}
use Rattle.text.proofs.width_from.Goals as goal

pub returns-then-n-unit-2 : goal.returns-then-n-unit-2
returns-then-n-unit-2 c = width_in c.args.k 0 c.args.n (omega arith) (omega arith)

pub returns-then-n-unit : goal.returns-then-n-unit
returns-then-n-unit c = width_in c.args.k 1 c.args.n (omega arith) (omega arith)

pub returns-then-n-unit-3 : goal.returns-then-n-unit-3
returns-then-n-unit-3 c = width_in c.args.k 2 c.args.n (omega arith) (omega arith)

pub returns : goal.returns
returns c = width_in c.args.k 3 c.args.n (omega arith) (omega arith)
