-- `book::check::first_count` meets its contract.
use Prim.Native.Nat.{◌-◌, ◌≤◌}
use Rattle.book.specs.ShareLaws.{Halved}
use Rattle.book.proofs.check.first_count.Given as goal

abbrev pub invariant-loop-lo : goal.invariant-loop-lo
invariant-loop-lo l = (l.lo ≤ l.hi) × Halved l.book l.n l.lo l.hi

abbrev pub decreases-loop-lo : goal.decreases-loop-lo
decreases-loop-lo l = l.hi - l.lo
