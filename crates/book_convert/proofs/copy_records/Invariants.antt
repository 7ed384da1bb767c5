-- `book_convert::copy_records` meets its contract.
use mathlib.Core.Path.{◌≡◌}
use lib.ListN.{length}
use Rattle.book_form.specs.Version.{V1, V2}
use Rattle.book_convert.specs.Convert.{same}
use Rattle.book_convert.specs.ConvertLaws.{Copying}
use Rattle.book_convert.proofs.copy_records.Given as goal

abbrev pub invariant-loop-i : goal.invariant-loop-i
invariant-loop-i l = Copying V1 V2 tt same l.old l.i l.new × (length l.new ≡ length l.initial.new)
