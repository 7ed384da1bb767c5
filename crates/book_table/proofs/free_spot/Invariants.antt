-- `book_table::free_spot` meets its contract.
use Rattle.book_table.specs.WayLaws.{AllUsed}
use Rattle.book_table.proofs.free_spot.Given as goal

abbrev pub invariant-loop-d : goal.invariant-loop-d
invariant-loop-d l = AllUsed l.table l.h l.d
