-- `book_table::probe` meets its contract.
use Rattle.std.proofs.Common.{◌∷◌}
use Rattle.book_form.specs.Form.{key_at}
use Rattle.book.specs.Book.{Current}
use Rattle.book_table.specs.TableLaws.{Passed}
use Rattle.book_table.proofs.probe.Given as goal

abbrev pub invariant-loop-d : goal.invariant-loop-d
invariant-loop-d l = Passed l.table (key_at Current l.book) (l.owner ∷ l.key) l.d
