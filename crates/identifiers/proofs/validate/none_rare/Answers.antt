use Rattle.std.proofs.Common.{refl, arith}
use Rattle.text.specs.Part.{every}
use Rattle.identifiers.specs.Check.{identifier_byte}
use Rattle.identifiers.specs.CheckLaws.{run-one}
use Rattle.identifiers.proofs.validate.none_rare.Goals as goal

pub loop-b-init : goal.loop-b-init
unfolding every
loop-b-init c = λ z. refl

pub loop-b-preserved : goal.loop-b-preserved
loop-b-preserved c =
    λ z. run-one identifier_byte c.args.s.now c.loop-b.b-index c.loop-b-test.true (c.loop-b.invariant (omega (arith, c.max-most.ensures))) (c.rare.ensures (omega (arith, c.max-most.ensures)))
