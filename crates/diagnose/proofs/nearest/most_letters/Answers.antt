use native.Mathlib.Omega.{arith}
use Rattle.diagnose.specs.Diagnosis.{seven}
use Rattle.diagnose.specs.Table.{parts_in}
use Rattle.diagnose.specs.NearestLaws.{letters-none, letters-next, letters-end}
use Rattle.diagnose.proofs.nearest.most_letters.Goals as goal

pub loop-d-init : goal.loop-d-init
loop-d-init c = letters-none (parts_in c.args.kind.text.now) (seven c.args.text.text.now)

pub loop-d-preserved : goal.loop-d-preserved
loop-d-preserved c =
    letters-next (parts_in c.args.kind.text.now) (seven c.args.text.text.now) c.loop-d.d _ _ _ _ _ c.loop-d.invariant c.letters_along-later.ensures c.letters_along-cut_short.ensures c.max.ensures c.max-best.ensures

pub returns : goal.returns
returns c =
    letters-end (parts_in c.args.kind.text.now) (seven c.args.text.text.now) c.loop-d.d _ c.loop-d.invariant (omega arith)
