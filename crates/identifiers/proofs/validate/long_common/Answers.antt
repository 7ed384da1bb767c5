use Rattle.std.proofs.Common.{◌≡◌, refl, ◌∙◌, ◌+◌, ◌-◌, arith, length}
use Rattle.text.specs.Part.{every}
use Rattle.text.specs.PartLaws.{run_more, run-last}
use Rattle.identifiers.specs.Check.{identifier_byte}
use Rattle.identifiers.proofs.validate.long_common.Goals as goal
use Rattle.identifiers.proofs.validate.long_common.Goals.{else-loop-i-test, then-loop-i-test+else-not-none_rare+else-last-i-gt16}

pub loop-i-init : goal.loop-i-init
unfolding every
loop-i-init c = refl

pub loop-i-preserved : goal.loop-i-preserved
loop-i-preserved c =
    let n : c.loop-i.i + 16 - c.loop-i.i ≡ 16 = omega arith in
    run_more identifier_byte _ c.loop-i.i 16 c.loop-i.invariant (rw n at (c.none_rare.ensures c.if-not-none_rare.false))

pub returns : goal.returns
returns c =
    let last = length c.args.id.now - 16 in
    let rest = length c.args.id.now - last in
    λ z.
    (elim c.loop-i-test.branch [
      | else-loop-i-test w ↦ run-last identifier_byte _ last rest c.loop-i.i (omega arith) w.loop-i-test.false c.loop-i.invariant
      | then-loop-i-test+else-not-none_rare+else-last-i-gt16 w ↦
          let n : c.loop-i.i + 16 - c.loop-i.i ≡ 16 = omega arith in
          run-last identifier_byte _ last rest (c.loop-i.i + 16) (omega arith) (omega arith) (run_more identifier_byte _ c.loop-i.i 16 c.loop-i.invariant (rw n at (w.none_rare.ensures w.if-not-none_rare.false)))
    ])
    ∙ c.none_rare-2.ensures z
