-- `book_form::lower` meets its contract.
use Rattle.std.proofs.Common.{◌∙◌, arith}
use Rattle.book_form.specs.MovesLaws.{lowered-within}
use Rattle.book_form.proofs.lower.Goals as goal

pub returns : goal.returns
returns c = c.copy_within.ensures.after ∙ lowered-within c.args.from c.args.to c.args.by c.args.book.now (omega arith) (omega arith) (omega arith)
