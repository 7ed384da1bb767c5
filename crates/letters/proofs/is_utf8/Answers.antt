use mathlib.Core.Path.{refl, sym, ap, ◌∙◌}
use Rattle.letters.specs.Character.{size_of, whole}
use native.Mathlib.Omega.{arith}
use Rattle.letters.specs.CharacterLaws.{ascii-utf8, turn, utf8-next, utf8-end}
use Rattle.letters.proofs.is_utf8.Goals as goal

pub returns-then-all_ascii : goal.returns-then-all_ascii
returns-then-all_ascii c = sym (ascii-utf8 c.args.s.now (sym c.all_ascii.ensures ∙ c.if-all_ascii.true))

pub loop-i-init : goal.loop-i-init
loop-i-init c = (omega arith, refl)

pub returns-in_default : goal.returns-in_default
returns-in_default c =
    let x = turn c.args.s.now c.loop-i.i (omega arith) c.character_at.ensures refl in
    sym (c.loop-i.invariant.1 ∙ utf8-next x ∙ rw c.in_default.is)

pub overflow_add-i : goal.overflow_add-i
overflow_add-i c =
    let x = turn c.args.s.now c.loop-i.i (omega arith) c.character_at.ensures (sym (ap size_of c.in-Some.is)) in
    omega arith

pub loop-i-smaller : goal.loop-i-smaller
loop-i-smaller c =
    let x = turn c.args.s.now c.loop-i.i (omega arith) c.character_at.ensures (sym (ap size_of c.in-Some.is)) in
    omega arith

pub loop-i-preserved : goal.loop-i-preserved
loop-i-preserved c =
    let x = turn c.args.s.now c.loop-i.i (omega arith) c.character_at.ensures (sym (ap size_of c.in-Some.is)) in
    (omega arith, c.loop-i.invariant.1 ∙ utf8-next x ∙ rw (ap whole c.in-Some.is))

pub returns : goal.returns
returns c = sym (c.loop-i.invariant.1 ∙ utf8-end c.args.s.now c.loop-i.i (omega arith))
