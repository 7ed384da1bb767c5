use mathlib.Core.Path.{sym, ◌∙◌}
use native.Mathlib.Omega.{arith}
use Rattle.diagnose.specs.AgreeLaws.{agree-past, agree-other, agree-more}
use Rattle.diagnose.proofs.alike.agree_front.Goals as goal

pub returns-then-cased_byte : goal.returns-then-cased_byte
returns-then-cased_byte c =
    omega (arith, c.loop-i.invariant, agree-other c.args.fold c.args.a.now c.args.b.now c.loop-i.i (omega arith) (omega arith) (λ q. c.if-cased_byte.true (c.cased_byte.ensures ∙ q ∙ sym c.cased_byte-in-loop-i.ensures)))

pub loop-i-preserved : goal.loop-i-preserved
loop-i-preserved c =
    omega (arith, c.loop-i.invariant, agree-more c.args.fold c.args.a.now c.args.b.now c.loop-i.i (omega arith) (omega arith) (sym c.cased_byte.ensures ∙ c.if-cased_byte.false ∙ c.cased_byte-in-loop-i.ensures))

pub returns : goal.returns
returns c =
    omega (arith, c.loop-i.invariant, agree-past c.args.fold c.args.a.now c.args.b.now c.loop-i.i (omega arith))
