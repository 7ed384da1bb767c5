use mathlib.Core.Path.{sym, ◌∙◌}
use mathlib.Core.Bool.{false}
use mathlib.Core.List.{reverse}
use native.Mathlib.Omega.{arith}
use Rattle.diagnose.specs.AgreeLaws.{agree-past, agree-other, agree-more, back_at, back-length}
use Rattle.diagnose.proofs.alike.agree_back.Goals as goal

pub returns-then-a-i : goal.returns-then-a-i
returns-then-a-i c =
    omega (arith, c.loop-i.invariant, agree-other false (reverse c.args.a.now) (reverse c.args.b.now) c.loop-i.i (omega (arith, back-length c.args.a.now)) (omega (arith, back-length c.args.b.now)) (λ q. c.if-a-i.true (sym (back_at c.args.a.now c.loop-i.i (omega arith)) ∙ q ∙ back_at c.args.b.now c.loop-i.i (omega arith))))

pub loop-i-preserved : goal.loop-i-preserved
loop-i-preserved c =
    omega (arith, c.loop-i.invariant, agree-more false (reverse c.args.a.now) (reverse c.args.b.now) c.loop-i.i (omega (arith, back-length c.args.a.now)) (omega (arith, back-length c.args.b.now)) (back_at c.args.a.now c.loop-i.i (omega arith) ∙ c.if-a-i.false ∙ sym (back_at c.args.b.now c.loop-i.i (omega arith))))

pub returns : goal.returns
returns c =
    omega (arith, c.loop-i.invariant, agree-past false (reverse c.args.a.now) (reverse c.args.b.now) c.loop-i.i (omega (arith, back-length c.args.a.now, back-length c.args.b.now)))
