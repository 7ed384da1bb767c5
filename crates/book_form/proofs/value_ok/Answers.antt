-- `book_form::value_ok` meets its contract.
use Rattle.book_form.specs.VersionLaws.{tells_none, tells-some}
use native.Mathlib.Omega.{arith}
use Rattle.book_form.proofs.value_ok.Goals as goal

pub returns-then-book-at-eq0 : goal.returns-then-book-at-eq0
returns-then-book-at-eq0 c = tells_none c.args.book.now c.args.at (omega arith) c.if-book-at-eq0.true

pub returns : goal.returns
returns c = tells-some c.args.book.now c.args.at (omega arith) c.if-book-at-eq0.false _ c.counted_ok.ensures
