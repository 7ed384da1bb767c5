-- `book_form::count_of` meets its contract.
use mathlib.Core.Path.{◌∙◌}
use native.Mathlib.Omega.{arith}
use Rattle.book_form.specs.VersionLaws.{count-read}
use Rattle.book_form.proofs.count_of.Goals as goal

pub returns : goal.returns
returns c = c.read_big_endian.ensures ∙ count-read c.args.book.now (omega arith)
