-- `book_oldest::is_below_parent` meets its contract.
use Rattle.std.proofs.Common.{ap, ◌∙◌, ne_eqb, arith}
use Rattle.text.specs.Part.{starts_with}
use Rattle.book_oldest.proofs.OldestLaws.{below_other, below-same}
use Rattle.book_oldest.proofs.is_below_parent.Goals as goal

pub returns-else-book-at : goal.returns-else-book-at
returns-else-book-at c =
    ne_eqb _ _ c.if-book-at.false ∙ below_other c.args.book.now c.args.at (omega arith) c.args.owner _ c.if-book-at.false

pub returns-then-book-at : goal.returns-then-book-at
returns-then-book-at c =
    below-same c.args.book.now c.args.at (omega arith) c.args.owner c.args.parent.now c.if-book-at.true _ (c.same_at.ensures ∙ ap (starts_with c.args.parent.now) c.key_at.ensures.bytes)
