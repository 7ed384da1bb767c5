use Rattle.std.proofs.Common.{sym, ◌∙◌, arith}
use Rattle.book.specs.Book.{Current}
use Rattle.book.specs.BookLaws.{lawful}
use Rattle.book.specs.FindLaws.{narrow_start, narrow_up, narrow_down, narrow-end}
use Rattle.book.proofs.find.keys_before.Goals as goal

pub loop-lo-init : goal.loop-lo-init
loop-lo-init c = (omega arith, narrow_start Current lawful _ _ _ c.requires)

pub loop-lo-preserved-then-is_gt : goal.loop-lo-preserved-then-is_gt
loop-lo-preserved-then-is_gt c = (omega arith, narrow_up Current lawful _ _ _ c.requires c.loop-lo.lo c.loop-lo.hi _ _ c.loop-lo.invariant.1 (omega arith) (omega arith) c.compare_key.ensures (sym c.is_gt.ensures ∙ c.if-is_gt.true))

pub loop-lo-preserved : goal.loop-lo-preserved
loop-lo-preserved c = (omega arith, narrow_down Current lawful _ _ _ c.requires c.loop-lo.lo c.loop-lo.hi _ _ c.loop-lo.invariant.1 (omega arith) (omega arith) c.compare_key.ensures (sym c.is_gt.ensures ∙ c.if-is_gt.false))

pub returns : goal.returns
returns c = narrow-end Current lawful _ _ _ c.requires c.loop-lo.lo c.loop-lo.hi c.loop-lo.invariant.1 (omega arith)
