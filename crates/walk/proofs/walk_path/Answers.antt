-- `walk_path` meets its contract.
use Rattle.reading.specs.RefusedLaws.{too_long_when}
use Rattle.walk.specs.ViewLaws.{refused-read, kind_range, typed-read}
use Rattle.walk.proofs.walk_path.Goals as goal

pub returns-then-text-gt4096 : goal.returns-then-text-gt4096
returns-then-text-gt4096 c = too_long_when c.args.text.now c.if-text-gt4096.true

pub returns-in_default : goal.returns-in_default
returns-in_default c = refused-read c.args.text.now c.if-text-gt4096.false c.in_default.ensures c.fault.result c.fault.ensures

pub typed_path-requires : goal.typed_path-requires
typed_path-requires c = kind_range c.args.text.now c.in-Some.w c.in-Some.ensures

pub returns : goal.returns
returns c = typed-read c.args.text.now c.in-Some.w c.in-Some.ensures c.if-text-gt4096.false c.typed_path.result c.typed_path.ensures
