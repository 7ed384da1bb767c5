-- `book::check::rising` meets its contract.
use Rattle.std.specs.Prelude.{ℕ, ◌-◌, ◌<◌}
use Rattle.book_form.specs.Version.{form_of}
use Rattle.book.specs.Check.{Rises}
use Rattle.book.proofs.check.rising.Given as goal

abbrev pub invariant-loop-i : goal.invariant-loop-i
invariant-loop-i l = (j : ℕ) → j < l.i - 1 → Rises (form_of l.version) l.book j
