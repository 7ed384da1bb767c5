-- `iteration::block::passes` meets its contract.

use Rattle.iteration.proofs.block.passes.Goals as goal

pub returns-then-equal : goal.returns-then-equal
returns-then-equal c = rw (c.if-equal.true, c.is_below.ensures)

pub returns : goal.returns
returns c = rw (c.if-equal.false, c.is_below-2.ensures)
