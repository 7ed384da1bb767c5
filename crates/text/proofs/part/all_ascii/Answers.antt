use Rattle.std.proofs.Common.{refl, sym, ◌∙◌, ◌+◌, ◌-◌, arith, length}
use lib.Dec.{ltb}
use Rattle.text.specs.Part.{every, ascii}
use Rattle.text.specs.PartLaws.{ascii-match, run_more, run-stop, run-last, run-ends}
use Rattle.text.proofs.part.all_ascii.Goals as goal
use Rattle.text.proofs.part.all_ascii.Goals.{else-loop-i-test, then-loop-i-test+else-not-sixteen_ascii+else-last-i-gt16}

pub returns-then-s-lt8 : goal.returns-then-s-lt8
returns-then-s-lt8 c = ascii-match _ _ c.is_ascii.ensures.cases

pub returns-then-s-lt16 : goal.returns-then-s-lt16
unfolding ascii
returns-then-s-lt16 c = rw (c.eight_ascii.ensures, c.eight_ascii-then-s-lt16.ensures) (run-ends (λ b. ltb b 128) c.args.s.now 8 (omega arith) (omega arith))

pub loop-i-init : goal.loop-i-init
unfolding ascii every
loop-i-init c = refl

pub returns-then-not-sixteen_ascii : goal.returns-then-not-sixteen_ascii
unfolding ascii
returns-then-not-sixteen_ascii c = sym (run-stop (λ b. ltb b 128) _ c.loop-i.i 16 (sym c.sixteen_ascii.ensures ∙ c.if-not-sixteen_ascii.true))

pub loop-i-preserved : goal.loop-i-preserved
unfolding ascii
loop-i-preserved c =
    run_more (λ b. ltb b 128) _ c.loop-i.i 16 c.loop-i.invariant (sym c.sixteen_ascii.ensures ∙ c.if-not-sixteen_ascii.false)

pub returns : goal.returns
unfolding ascii
returns c =
    let last = length c.args.s.now - 16 in
    c.sixteen_ascii-2.ensures
    ∙ sym (elim c.loop-i-test.branch [
      | else-loop-i-test w ↦ run-last (λ b. ltb b 128) _ last 16 c.loop-i.i (omega arith) w.loop-i-test.false c.loop-i.invariant
      | then-loop-i-test+else-not-sixteen_ascii+else-last-i-gt16 w ↦
          run-last (λ b. ltb b 128) _ last 16 (c.loop-i.i + 16) (omega arith) (omega arith) (run_more (λ b. ltb b 128) _ c.loop-i.i 16 c.loop-i.invariant (sym w.sixteen_ascii.ensures ∙ w.if-not-sixteen_ascii.false))
    ])
