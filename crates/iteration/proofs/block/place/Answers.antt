use mathlib.Core.Path.{sym, ◌∙◌}
use native.Mathlib.Omega.{arith}
use Rattle.iteration.specs.SearchLaws.{narrow_start, narrow_up, narrow_down, narrow-end}
use Rattle.iteration.proofs.block.place.Goals as goal

pub loop-lo-init : goal.loop-lo-init
loop-lo-init c = (omega arith, narrow_start c.args.equal c.args.pair c.args.block.now)

pub loop-lo-preserved-then-passes : goal.loop-lo-preserved-then-passes
loop-lo-preserved-then-passes c =
    (omega arith, narrow_up c.args.equal c.args.pair c.args.block.now c.requires c.loop-lo.lo c.loop-lo.hi _ c.loop-lo.invariant.1 (omega arith) (omega arith) (rw c.revision_at.ensures at (sym c.passes.ensures ∙ c.if-passes.true)))

pub loop-lo-preserved : goal.loop-lo-preserved
loop-lo-preserved c =
    (omega arith, narrow_down c.args.equal c.args.pair c.args.block.now c.requires c.loop-lo.lo c.loop-lo.hi _ c.loop-lo.invariant.1 (omega arith) (omega arith) (rw c.revision_at.ensures at (sym c.passes.ensures ∙ c.if-passes.false)))

pub returns : goal.returns
returns c =
    narrow-end c.args.equal c.args.pair c.args.block.now c.loop-lo.lo c.loop-lo.hi c.loop-lo.invariant.1 (omega arith)
