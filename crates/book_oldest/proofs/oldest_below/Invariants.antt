-- `book_oldest::oldest_below` meets its contract.
use Rattle.book_oldest.proofs.OldestLaws.{OldestFrom}
use Rattle.book_oldest.proofs.oldest_below.Given as goal

abbrev pub invariant-loop-i : goal.invariant-loop-i
invariant-loop-i l = OldestFrom l.book l.owner l.client l.best l.i
