use mathlib.Core.Path.{sym, ap, ◌∙◌}
use Prim.Native.Nat.{◌+◌}
use native.Mathlib.Omega.{arith}
use mathlib.Core.Bool.{cond}
use Rattle.identifiers.specs.Owned.{blank}
use Rattle.letters.specs.CharacterLaws.{turn}
use Rattle.letters.specs.TextLaws.{end-start, end-next, end-end}
use Rattle.letters.proofs.trim.text_end.Goals as goal

pub loop-i-init : goal.loop-i-init
loop-i-init c = (omega arith, end-start _)

pub overflow_add-next : goal.overflow_add-next
overflow_add-next c =
    let x = turn c.args.s.now c.loop-i.i (omega arith) c.character_at-c.ensures c.size_of.ensures in
    omega arith

pub loop-i-smaller : goal.loop-i-smaller
loop-i-smaller c =
    let x = turn c.args.s.now c.loop-i.i (omega arith) c.character_at-c.ensures c.size_of.ensures in
    omega arith

pub loop-i-preserved : goal.loop-i-preserved
loop-i-preserved c =
    let x = turn c.args.s.now c.loop-i.i (omega arith) c.character_at-c.ensures c.size_of.ensures in
    let after = c.end_after-end.ensures ∙ ap (λ b. cond (blank b) c.loop-i.end (c.loop-i.i + c.size_of.result)) c.seen_as.ensures in
    (omega arith, c.loop-i.invariant.1 ∙ end-next x c.loop-i.end ∙ rw (← after))

pub returns : goal.returns
returns c = sym (c.loop-i.invariant.1 ∙ end-end c.loop-i.end c.loop-i.i c.args.s.now (omega arith))
