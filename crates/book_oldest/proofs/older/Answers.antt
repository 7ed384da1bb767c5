-- `book_oldest::older` meets its contract.
use Rattle.book_oldest.proofs.OldestLaws.{none_first, none-second, second-lower, second-no-lower}
use Rattle.book_oldest.proofs.older.Goals as goal

pub returns-in_default : goal.returns-in_default
returns-in_default c = none_first _ _ c.in_default.is

pub returns-in_default-y : goal.returns-in_default-y
returns-in_default-y c = none-second _ _ _ c.in-Some.is c.in_default-y.is

pub returns-then-is_below : goal.returns-then-is_below
returns-then-is_below c = second-lower _ _ _ _ c.in-Some.is c.in-Some-y.is _ c.is_below.ensures c.if-is_below.true

pub returns-else-is_below : goal.returns-else-is_below
returns-else-is_below c = second-no-lower _ _ _ _ c.in-Some.is c.in-Some-y.is _ c.is_below.ensures c.if-is_below.false
