use Rattle.std.proofs.Common.{arith}
use Rattle.book_table.specs.HashLaws.{fnv-start, fnv-done, fnv-more}
use Rattle.book_table.proofs.hash.fnv1a.Goals as goal

pub loop-b-init : goal.loop-b-init
loop-b-init c = fnv-start _ _ _ c.join-h.ensures

pub loop-b-preserved : goal.loop-b-preserved
loop-b-preserved c = fnv-more _ c.loop-b.h c.loop-b.b-index _ c.loop-b.invariant (omega arith) _ c.join-h-in-loop-b.ensures

pub returns : goal.returns
returns c = fnv-done _ _ c.loop-b.b-index c.args.s.now c.loop-b.invariant (omega arith)
