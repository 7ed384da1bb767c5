use Rattle.book.specs.ShareLaws.{halved-start, halved_up, halved_down, halved-end}
use native.Mathlib.Omega.{arith}
use Rattle.book.proofs.check.first_count.Goals as goal

pub loop-lo-init : goal.loop-lo-init
loop-lo-init c = (omega arith, halved-start _ _ c.requires.n_bound.1 c.requires.slots_good.0 c.requires.slots_good.1)

pub loop-lo-preserved-then-book-mid-lt2 : goal.loop-lo-preserved-then-book-mid-lt2
loop-lo-preserved-then-book-mid-lt2 c = (omega arith, halved_up _ _ c.requires.n_bound.1 c.requires.slots_good.0 c.requires.slots_good.1 c.loop-lo.lo c.loop-lo.hi _ c.loop-lo.invariant.1 (omega arith) (omega arith) c.if-book-mid-lt2.true)

pub loop-lo-preserved : goal.loop-lo-preserved
loop-lo-preserved c = (omega arith, halved_down _ _ c.requires.n_bound.1 c.requires.slots_good.0 c.requires.slots_good.1 c.loop-lo.lo c.loop-lo.hi _ c.loop-lo.invariant.1 (omega arith) (omega arith) c.if-book-mid-lt2.false)

pub returns : goal.returns
returns c = halved-end _ _ c.requires.n_bound.1 c.requires.slots_good.0 c.requires.slots_good.1 c.loop-lo.lo c.loop-lo.hi c.loop-lo.invariant.1 (omega arith)
