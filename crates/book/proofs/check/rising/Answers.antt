use Rattle.std.proofs.Common.{◌-◌, sym, ◌∙◌, arith, below_more}
use Rattle.book_form.specs.Tells.{tells_true, tells_false}
use Rattle.book.specs.CheckWayLaws.{rises_yes, rises-no}
use Rattle.book.proofs.check.rising.Goals as goal

pub returns-then-not-is_lt : goal.returns-then-not-is_lt
returns-then-not-is_lt c = tells_false (λ g. rises-no c.args.version _ (c.loop-i.i - 1) _ _ c.slot_at.ensures c.compare_next.ensures (sym c.is_lt.ensures ∙ c.if-not-is_lt.true) (g (c.loop-i.i - 1) (omega arith)))

pub loop-i-preserved : goal.loop-i-preserved
loop-i-preserved c = λ j h. below_more _ (c.loop-i.i - 1) c.loop-i.invariant (rises_yes c.args.version _ (c.loop-i.i - 1) _ _ c.slot_at.ensures c.compare_next.ensures (sym c.is_lt.ensures ∙ c.if-not-is_lt.false)) j (omega arith)

pub returns : goal.returns
returns c = tells_true (λ j h. c.loop-i.invariant j (omega arith))
