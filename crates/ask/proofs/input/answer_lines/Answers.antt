use mathlib.Core.Path.{refl}
use Rattle.ask.specs.StepLaws.{before-first, before-fits, before-next, before-end}
use borrow.Author.Rules.{rules}
use native.Mathlib.Omega.{arith}
use Rattle.ask.proofs.input.answer_lines.Goals as goal

pub loop-i-init : goal.loop-i-init
loop-i-init c = (omega arith, refl, before-first c.args.why c.args.input.now c.args.out.now c.args.from)

pub answer_byte-spot-requires : goal.answer_byte-spot-requires
answer_byte-spot-requires c = record {
  start_le_i = search rules;
  input_in_bounds = omega (arith, before-fits c.args.why c.args.input.now c.args.out.now c.loop-i.out c.args.from c.loop-i.i c.args.end c.loop-i.spot.start c.loop-i.spot.used (omega arith) (omega arith) (omega arith) c.requires.from_in_bounds c.loop-i.invariant.2);
}

pub loop-i-preserved : goal.loop-i-preserved
loop-i-preserved c = let n = before-next c.args.why c.args.input.now c.args.out.now c.loop-i.out c.args.from c.loop-i.i c.loop-i.spot.start c.loop-i.spot.used (omega arith) (omega arith) c.loop-i.invariant.2 c.answer_byte-spot.result.start c.answer_byte-spot.result.used c.answer_byte-spot.new.out c.answer_byte-spot.ensures.input_value c.answer_byte-spot.ensures.wrote in
    (c.answer_byte-spot.ensures.start_bound, search rules, n)

pub returns : goal.returns
returns c = before-end c.args.why c.args.input.now c.args.out.now c.loop-i.out c.args.from c.loop-i.i c.args.end c.loop-i.spot.start c.loop-i.spot.used (omega arith) c.loop-i.invariant.2 c.keep-held.result c.keep-held.new.input c.keep-held.ensures
