use Rattle.std.proofs.Common.{◌≡◌, ◌∙◌, ◌+◌, ◌-◌, ℕ, arith, add-one, sym, pow-suc, length-take}
use Rattle.text.specs.WordLaws.{byte-room}
use Rattle.text.proofs.Steps.{big-next, big-end}
use Rattle.text.proofs.read_big_endian.Goals as goal

pub overflow_mul-v : goal.overflow_mul-v
overflow_mul-v c = omega (arith, byte-room _ c.loop-b.v (omega (arith, length-take {A = ℕ})) c.loop-b.invariant.0)

pub overflow_add-v : goal.overflow_add-v
overflow_add-v c = omega (arith, byte-room _ c.loop-b.v (omega (arith, length-take {A = ℕ})) c.loop-b.invariant.0)

pub loop-b-preserved : goal.loop-b-preserved
loop-b-preserved c =
    (rw (add-one, pow-suc) (omega arith), c.loop-b.invariant.1 ∙ rw c.from.ensures (big-next c.loop-b.v c.loop-b.b-index _ c.loop-b-test.true))

pub returns : goal.returns
returns c =
    let n : c.args.at + c.args.width - c.args.at ≡ c.args.width = omega arith in
    sym (rw n at (c.loop-b.invariant.1 ∙ big-end c.loop-b.v c.loop-b.b-index _ (omega arith)))
