use Rattle.std.proofs.Common.{arith}
use Rattle.book_table.specs.WayLaws.{used_start, used-more, free-here, free-nowhere}
use Rattle.book_table.proofs.free_spot.Goals as goal

pub loop-d-init : goal.loop-d-init
loop-d-init c = used_start c.args.table.now c.args.h

pub returns-then-table-p-eq0 : goal.returns-then-table-p-eq0
returns-then-table-p-eq0 c = free-here _ _ c.loop-d.d c.loop-d.invariant (omega arith) c.if-table-p-eq0.true

pub loop-d-preserved : goal.loop-d-preserved
loop-d-preserved c = used-more c.args.table.now c.args.h c.loop-d.d c.loop-d.invariant c.if-table-p-eq0.false

pub returns : goal.returns
returns c = free-nowhere _ _ c.loop-d.d c.loop-d.invariant (omega arith) (omega arith) (omega arith)
