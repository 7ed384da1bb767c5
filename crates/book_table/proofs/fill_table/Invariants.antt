-- `book_table::fill_table` meets its contract.
use Rattle.book_form.specs.Form.{key_at}
use Rattle.book.specs.Book.{Current}
use Rattle.book_table.specs.WayLaws.{Filling}
use Rattle.book_table.proofs.fill_table.Given as goal

abbrev pub invariant-loop-i : goal.invariant-loop-i
invariant-loop-i l = Filling (key_at Current l.book) l.i l.table
