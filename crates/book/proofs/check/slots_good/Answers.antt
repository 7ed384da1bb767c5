use Rattle.std.proofs.Common.{arith, below_more}
use Rattle.book_form.specs.Tells.{tells_true, tells_false}
use Rattle.book.proofs.check.slots_good.Goals as goal

pub returns-then-not-slot_good : goal.returns-then-not-slot_good
returns-then-not-slot_good c = tells_false (λ g. c.slot_good.ensures.fails (c.if-not-slot_good.true) (g c.loop-i.i (omega arith)))

pub loop-i-preserved : goal.loop-i-preserved
loop-i-preserved c = below_more _ c.loop-i.i c.loop-i.invariant (c.slot_good.ensures.holds (c.if-not-slot_good.false))

pub returns : goal.returns
returns c = tells_true (λ j h. c.loop-i.invariant j (omega arith))
