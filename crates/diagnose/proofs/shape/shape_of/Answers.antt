-- `shape::shape_of` meets its contract.
use Rattle.diagnose.specs.ShapeLaws.{shape-word, shape-none, shape_letter}
use Rattle.diagnose.proofs.shape.shape_of.Goals as goal

pub returns-then-w-gt3 : goal.returns-then-w-gt3
returns-then-w-gt3 c = shape-word c.args.w.now c.if-w-gt3.true

pub returns-then-w-eq0 : goal.returns-then-w-eq0
returns-then-w-eq0 c = shape-none c.args.w.now _ c.if-w-eq0.true c.letter_shape.ensures

pub returns : goal.returns
returns c = shape_letter c.args.w.now _ c.if-w-gt3.false c.letter_shape-2.ensures
