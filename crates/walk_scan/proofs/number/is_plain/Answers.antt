-- `is_plain` meets its contract.
use borrow.Author.Tests.{eq-eqb, ne_eqb}
use Rattle.walk_scan.specs.Number.{plain_of}
use Rattle.walk_scan.proofs.number.is_plain.Goals as goal

pub returns-then-n-eq1 : goal.returns-then-n-eq1
unfolding plain_of
returns-then-n-eq1 c = rw (eq-eqb _ 1 c.if-n-eq1.true)

pub returns-else-n-eq1 : goal.returns-else-n-eq1
unfolding plain_of
returns-else-n-eq1 c = rw (ne_eqb _ 1 c.if-n-eq1.false)
