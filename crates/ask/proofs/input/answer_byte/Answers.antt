use borrow.Author.Tests.{eq-eqb, ne_eqb}
use Rattle.ask.specs.StepLaws.{answer-fits, taken-inside, taken-end}
use Rattle.ask.proofs.input.answer_byte.Goals as goal

pub returns-then-input-i-ne10 : goal.returns-then-input-i-ne10
returns-then-input-i-ne10 c =
    let p = taken-inside c.args.why c.args.input.now c.args.out.now c.args.start c.args.i c.args.used c.requires.start_le_i c.requires.input_in_bounds (ne_eqb _ _ c.if-input-i-ne10.true) in record { start_bound = p.0; input_value = p.1.0; wrote = p.1.1 }

pub answer_line-after-requires : goal.answer_line-after-requires
answer_line-after-requires c = answer-fits c.args.why c.args.input.now c.args.out.now c.args.start c.args.i c.args.used c.requires.start_le_i c.requires.input_in_bounds (eq-eqb _ _ c.if-input-i-ne10.false)

pub returns : goal.returns
returns c =
    let p = taken-end c.args.why c.args.input.now c.args.out.now c.args.start c.args.i c.args.used c.requires.start_le_i c.requires.input_in_bounds (eq-eqb _ _ c.if-input-i-ne10.false) c.answer_line-after.result c.answer_line-after.new.out c.answer_line-after.ensures.value c.answer_line-after.ensures.out_after in record { start_bound = p.0; input_value = p.1.0; wrote = p.1.1 }
