-- `book_table::many::line_end` meets its contract.
use Rattle.book_table.specs.LineLaws.{Clear}
use Rattle.book_table.proofs.many.line_end.Given as goal

abbrev pub invariant-loop-j : goal.invariant-loop-j
invariant-loop-j l = Clear l.s l.i l.j
