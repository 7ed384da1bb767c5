-- `book_table::many::look_many` meets its contract.
use Rattle.std.proofs.Common.{◌-◌, ◌≤◌, length}
use Rattle.book_table.specs.ManyLaws.{Doing}
use Rattle.book_table.proofs.many.look_many.Given as goal

abbrev pub invariant-loop-i : goal.invariant-loop-i
invariant-loop-i l = (l.i ≤ length l.texts) × Doing l.book l.owner l.texts l.initial.out l.i l.at l.out

abbrev pub decreases-loop-i : goal.decreases-loop-i
decreases-loop-i l = length l.texts - l.i
