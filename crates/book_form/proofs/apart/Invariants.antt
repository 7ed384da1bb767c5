-- `book_form::apart` meets its contract.
use Prim.Native.Nat.{◌≤◌, ◌+◌, ◌-◌}
use Rattle.book_form.specs.Compare.{Alike}
use Rattle.book_form.proofs.apart.Given as goal

abbrev pub invariant-loop-i : goal.invariant-loop-i
invariant-loop-i l = Alike l.s l.a l.b l.i

abbrev pub decreases-loop-i : goal.decreases-loop-i
decreases-loop-i l = l.m - l.i
