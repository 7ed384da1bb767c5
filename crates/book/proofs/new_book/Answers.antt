-- `book::new_book` meets its contract.
use Rattle.book.specs.RecordLaws.{new_none, new_small, new-made}
use Rattle.book.proofs.new_book.Goals as goal

pub returns-then-slots-eq0 : goal.returns-then-slots-eq0
returns-then-slots-eq0 c = new_none _ _ c.slots_of-slots.ensures _ c.if-slots-eq0.true

pub returns-then-not-sum_fits : goal.returns-then-not-sum_fits
returns-then-not-sum_fits c = new_small _ _ c.slots_of-slots.ensures _ c.if-slots-eq0.false _ c.sum_fits.ensures (c.if-not-sum_fits.true)

pub returns : goal.returns
returns c = new-made _ _ c.slots_of-slots.ensures _ c.if-slots-eq0.false _ c.sum_fits.ensures (c.if-not-sum_fits.false) _ _ c.clear.ensures c.put_header.ensures
