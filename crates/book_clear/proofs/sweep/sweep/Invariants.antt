-- `book_clear::sweep::sweep` meets its contract.
use Prim.Native.Nat.{◌≤◌}
use Rattle.book_clear.specs.SweepLaws.{SweptTo}
use Rattle.book_clear.proofs.sweep.sweep.Given as goal

abbrev pub invariant-loop-i : goal.invariant-loop-i
invariant-loop-i l = (l.kept ≤ l.i) × SweptTo l.initial.book l.roles l.stay l.book l.i l.kept
