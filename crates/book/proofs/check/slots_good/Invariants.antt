-- `book::check::slots_good` meets its contract.
use Rattle.std.specs.Prelude.{ℕ, ◌<◌}
use Rattle.book_form.specs.Version.{form_of}
use Rattle.book.specs.Check.{SlotGood}
use Rattle.book.proofs.check.slots_good.Given as goal

abbrev pub invariant-loop-i : goal.invariant-loop-i
invariant-loop-i l = (j : ℕ) → j < l.i → SlotGood (form_of l.version) l.book j
