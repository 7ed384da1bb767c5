-- `book::find::keys_before` meets its contract.
use mathlib.Core.List.{◌∷◌}
use Prim.Native.Nat.{◌-◌, ◌≤◌}
use Rattle.book.specs.Book.{Current}
use Rattle.book.specs.FindLaws.{Narrowed}
use Rattle.book.proofs.find.keys_before.Given as goal

abbrev pub invariant-loop-lo : goal.invariant-loop-lo
invariant-loop-lo l = (l.lo ≤ l.hi) × Narrowed Current l.book (l.owner ∷ l.key) l.n l.lo l.hi

abbrev pub decreases-loop-lo : goal.decreases-loop-lo
decreases-loop-lo l = l.hi - l.lo
