-- `book_form::raise` meets its contract.
use Rattle.std.proofs.Common.{◌∙◌, arith}
use Rattle.book_form.specs.MovesLaws.{raised-within}
use Rattle.book_form.proofs.raise.Goals as goal

pub returns : goal.returns
returns c = c.copy_within.ensures.after ∙ raised-within c.args.from c.args.to c.args.by c.args.book.now (omega arith) (omega arith)
