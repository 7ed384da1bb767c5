-- `book_table::many::fill` meets its contract.
use Rattle.book.specs.RecordLaws.{judged-holds}
use Rattle.book_table.specs.ManyLaws.{fills-no_book, fills-no_room, fills-done}
use Rattle.book_table.proofs.many.fill.Goals as goal

pub returns-in_default : goal.returns-in_default
returns-in_default c = fills-no_book _ _ c.check_book.ensures c.in_default.is _

pub returns-then-out-lt512 : goal.returns-then-out-lt512
returns-then-out-lt512 c = fills-no_room _ _ _ (judged-holds _ _ _ c.check_book.ensures c.in-Some.is) c.if-out-lt512.true

pub returns : goal.returns
returns c = fills-done _ _ _ (judged-holds _ _ _ c.check_book.ensures c.in-Some.is) c.if-out-lt512.false _ _ c.fill_table.ensures c.write_text.ensures.out_after
