-- `book_convert::copy_owned` meets its contract.
use mathlib.Core.Path.{◌≡◌}
use lib.ListN.{length}
use Rattle.book_form.specs.declared.Quotas.{Quotas}
use Rattle.book_form.specs.Version.{V2, V3}
use Rattle.book_convert.specs.Convert.{firsts}
use Rattle.book_convert.specs.ConvertLaws.{Copying}
use Rattle.book_convert.proofs.copy_owned.Given as goal

abbrev pub invariant-loop-i : goal.invariant-loop-i
invariant-loop-i l = ((e : Quotas) → Copying V2 V3 e firsts l.old 0 l.initial.new → Copying V2 V3 e firsts l.old l.i l.new) × (length l.new ≡ length l.initial.new)
