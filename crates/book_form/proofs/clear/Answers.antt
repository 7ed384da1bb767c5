-- `book_form::clear` meets its contract.
use Rattle.std.proofs.Common.{arith}
use Rattle.book_form.specs.FormLaws.{zeros-within}
use Rattle.book_form.proofs.clear.Goals as goal

pub returns : goal.returns
returns c = zeros-within c.args.book.now c.args.from c.args.n _ _ c.requires (omega arith) (c.fill.ensures.after (λ y h. h))
