use mathlib.Core.Path.{sym, ◌∙◌}
use Prim.Native.Nat.{◌+◌, ◌-◌}
use native.Mathlib.Omega.{arith}
use lib.ListN.{drop}
use Rattle.letters.specs.CharacterLaws.{turn-none, turn_low, turn-high, turn_more, turn_end, bits-room, bits-more}
use Rattle.letters.proofs.goes_on.Goals as goal

pub returns-then-s-at : goal.returns-then-s-at
returns-then-s-at c =
    sym (c.loop-i.invariant.2 ∙ turn-none c.args.s.now (c.args.n - c.loop-i.i) (c.args.n - (c.loop-i.i + 1)) (omega arith) (c.args.n + 1) c.args.least c.loop-i.value (c.args.at + c.loop-i.i) (omega arith))

pub returns-then-b-lt128 : goal.returns-then-b-lt128
returns-then-b-lt128 c =
    sym (c.loop-i.invariant.2 ∙ turn_low c.args.s.now (c.args.n - c.loop-i.i) (c.args.n - (c.loop-i.i + 1)) (omega arith) (c.args.n + 1) c.args.least c.loop-i.value (c.args.at + c.loop-i.i) (omega arith) c.from-b.result c.from-b.ensures (omega arith))

pub returns-then-b-gt191 : goal.returns-then-b-gt191
returns-then-b-gt191 c =
    sym (c.loop-i.invariant.2 ∙ turn-high c.args.s.now (c.args.n - c.loop-i.i) (c.args.n - (c.loop-i.i + 1)) (omega arith) (c.args.n + 1) c.args.least c.loop-i.value (c.args.at + c.loop-i.i) (omega arith) c.from-b.result c.from-b.ensures (omega arith))

pub overflow_mul-value : goal.overflow_mul-value
overflow_mul-value c = omega (arith, bits-room c.loop-i.i c.loop-i.value (omega arith) c.loop-i.invariant.1)

pub overflow_add-value : goal.overflow_add-value
overflow_add-value c = omega (arith, bits-room c.loop-i.i c.loop-i.value (omega arith) c.loop-i.invariant.1)

pub loop-i-preserved : goal.loop-i-preserved
loop-i-preserved c = (
  omega arith,
  bits-more c.loop-i.i c.loop-i.value (c.from-b.result - 128) c.loop-i.invariant.1 (omega arith),
  c.loop-i.invariant.2 ∙ turn_more c.args.s.now (c.args.n - c.loop-i.i) (c.args.n - (c.loop-i.i + 1)) (omega arith) (c.args.n + 1) c.args.least c.loop-i.value (c.args.at + c.loop-i.i) (omega arith) c.from-b.result c.from-b.ensures (c.args.at + (c.loop-i.i + 1)) (omega arith) (omega arith) (omega arith),
)

pub returns : goal.returns
returns c =
    c.scalar.ensures ∙ sym (c.loop-i.invariant.2 ∙ turn_end (c.args.n - c.loop-i.i) (c.args.n + 1) c.args.least c.loop-i.value (drop (c.args.at + c.loop-i.i) c.args.s.now) (omega arith))
