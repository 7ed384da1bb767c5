use mathlib.Core.Path.{sym, ap, ◌∙◌}
use mathlib.Core.Bool.{◌&&◌}
use Prim.Native.Nat.{◌+◌}
use lib.Dec.{eqb}
use lib.ListN.{length, drop}
use Rattle.text.specs.Part.{same}
use Rattle.text.specs.PartLaws.{same_none, same_more, same_not}
use native.Mathlib.Omega.{arith}
use Rattle.text.proofs.part.equal.Goals as goal

pub returns-then-a-b : goal.returns-then-a-b
returns-then-a-b c = sym (same_not _ _ (λ e. c.if-a-b.true (ap length e)))

pub loop-i-preserved : goal.loop-i-preserved
loop-i-preserved c = (
  c.loop-i.invariant.0,
  c.loop-i.invariant.1
      ∙ same_more c.args.a.now c.args.b.now c.loop-i.i c.loop-i.differ (omega arith) (omega arith)
      ∙ ap (λ v. eqb v 0 && same (drop (c.loop-i.i + 1) c.args.a.now) (drop (c.loop-i.i + 1) c.args.b.now)) (sym c.unlike-differ.ensures),
)

pub returns : goal.returns
returns c =
    sym (c.loop-i.invariant.1 ∙ same_none _ _ c.loop-i.i c.loop-i.differ (omega arith) (omega arith))
