use Rattle.std.proofs.Common.{arith}
use Rattle.book_table.specs.LineLaws.{counting-start, counting-done, counting_more, next-within}
use Rattle.book_table.proofs.many.count_lines.Goals as goal

pub loop-i-init : goal.loop-i-init
loop-i-init c = (omega arith, omega arith, counting-start c.args.s.now)

pub loop-i-preserved : goal.loop-i-preserved
loop-i-preserved c =
    let w = next-within _ _ _ c.line_end.ensures _ c.line_next-i.ensures in
    (w.0, omega (arith, w.1 (omega arith)), counting_more _ _ _ _ _ c.loop-i.invariant.2 (omega arith) c.line_end.ensures c.line_next-i.ensures)

pub returns : goal.returns
returns c = counting-done _ c.loop-i.i _ c.loop-i.invariant.2 (omega arith)
