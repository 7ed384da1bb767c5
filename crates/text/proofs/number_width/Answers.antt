-- `text::number_width` meets its contract.
use mathlib.Core.Path.{sym}
use native.Mathlib.Omega.{arith}
use Rattle.text.specs.NumberLaws.{width_small}
use Rattle.text.proofs.number_width.Goals as goal

pub returns-then-n-lt10 : goal.returns-then-n-lt10
returns-then-n-lt10 c = sym (width_small c.args.n (omega arith))
