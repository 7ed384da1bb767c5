-- `book_form::close_gap` meets its contract.
use Prim.Native.Nat.{◌≤◌}
use Rattle.book_form.specs.GapLaws.{Closing}
use Rattle.book_form.proofs.close_gap.Given as goal

abbrev pub invariant-loop-i : goal.invariant-loop-i
invariant-loop-i l = (l.i ≤ l.count) × Closing l.initial.book l.start l.end l.count l.book l.i
