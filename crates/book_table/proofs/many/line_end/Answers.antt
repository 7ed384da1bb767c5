use Rattle.std.proofs.Common.{◌≡◌, length, arith}
use Rattle.book_table.specs.LineLaws.{clear-start, clear-more, line-stop, line-end}
use Rattle.book_table.proofs.many.line_end.Goals as goal

pub loop-j-init : goal.loop-j-init
loop-j-init c = clear-start c.args.s.now c.args.i

pub returns-then-s-j-eq10 : goal.returns-then-s-j-eq10
returns-then-s-j-eq10 c = line-stop _ _ _ (omega arith) c.loop-j.invariant (omega arith) c.if-s-j-eq10.true

pub loop-j-preserved : goal.loop-j-preserved
loop-j-preserved c = clear-more c.args.s.now c.args.i c.loop-j.j (omega arith) c.loop-j.invariant c.if-s-j-eq10.false

pub returns : goal.returns
returns c =
    let e : c.loop-j.j ≡ length c.args.s.now = omega arith in
    rw e at (line-end _ _ c.loop-j.j (omega arith) c.loop-j.invariant (omega arith) (omega arith))
