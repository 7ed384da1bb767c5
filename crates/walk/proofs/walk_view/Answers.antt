-- `walk_view` meets its contract.
use mathlib.Core.Path.{ap}
use Rattle.path.specs.View.{viewed_by}
use Rattle.reading.specs.RefusedLaws.{too_long_when}
use Rattle.walk.specs.ViewLaws.{refused-read, seen_read}
use Rattle.walk.proofs.walk_view.Goals as goal

pub returns-then-text-gt4096 : goal.returns-then-text-gt4096
unfolding viewed_by
returns-then-text-gt4096 c = ap viewed_by (too_long_when c.args.text.now c.if-text-gt4096.true)

pub returns-in_default : goal.returns-in_default
unfolding viewed_by
returns-in_default c = ap viewed_by (refused-read c.args.text.now c.if-text-gt4096.false c.in_default.ensures c.fault.result c.fault.ensures)

pub returns : goal.returns
returns c = seen_read c.args.text.now c.in-Some.w c.in-Some.ensures c.if-text-gt4096.false
