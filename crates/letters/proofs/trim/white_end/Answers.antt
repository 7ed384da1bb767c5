use mathlib.Core.Path.{refl, sym, ap, ◌∙◌}
use native.Mathlib.Omega.{arith}
use Rattle.identifiers.specs.Owned.{blank}
use Rattle.letters.specs.CharacterLaws.{turn}
use Rattle.letters.specs.TextLaws.{white-next, white-stop, white-none, leading_at}
use Rattle.letters.proofs.trim.white_end.Goals as goal

pub loop-i-init : goal.loop-i-init
loop-i-init c = (omega arith, refl)

pub returns-then-not-is_white : goal.returns-then-not-is_white
returns-then-not-is_white c =
    let x = turn c.args.s.now c.loop-i.i (omega arith) c.character_at-c.ensures refl in
    let other = sym (ap blank c.seen_as.ensures) ∙ sym c.is_white.ensures ∙ c.if-not-is_white.true in
    leading_at _ c.loop-i.i (omega arith) (c.loop-i.invariant.1 ∙ white-stop x other)

pub overflow_add-i : goal.overflow_add-i
overflow_add-i c =
    let x = turn c.args.s.now c.loop-i.i (omega arith) c.character_at-c.ensures c.size_of-i.ensures in
    omega arith

pub loop-i-smaller : goal.loop-i-smaller
loop-i-smaller c =
    let x = turn c.args.s.now c.loop-i.i (omega arith) c.character_at-c.ensures c.size_of-i.ensures in
    omega arith

pub loop-i-preserved : goal.loop-i-preserved
loop-i-preserved c =
    let x = turn c.args.s.now c.loop-i.i (omega arith) c.character_at-c.ensures c.size_of-i.ensures in
    let white = sym (ap blank c.seen_as.ensures) ∙ sym c.is_white.ensures ∙ c.if-not-is_white.false in
    (omega arith, c.loop-i.invariant.1 ∙ white-next x white)

pub returns : goal.returns
returns c = leading_at c.args.s.now c.loop-i.i (omega arith) (c.loop-i.invariant.1 ∙ white-none c.args.s.now c.loop-i.i (omega arith))
