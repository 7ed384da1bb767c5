use mathlib.Core.Path.{sym, ◌∙◌}
use borrow.Author.Tests.{eqb-true, eqb-false}
use Rattle.ask.specs.AnswerLaws.{answer-length}
use Rattle.ask.specs.StepLaws.{last_none, last_some}
use native.Mathlib.Omega.{arith}
use Rattle.ask.proofs.input.answer_last.Goals as goal

pub returns-then-is_empty : goal.returns-then-is_empty
returns-then-is_empty c = last_none c.args.why c.args.line.now c.args.out.now (eqb-true _ 0 (sym c.is_empty.ensures ∙ c.if-is_empty.true))

pub answer_line-requires : goal.answer_line-requires
answer_line-requires c = omega (arith, answer-length c.args.why c.args.line.now)

pub returns : goal.returns
returns c = last_some c.args.why c.args.line.now c.args.out.now (eqb-false _ 0 (sym c.is_empty.ensures ∙ c.if-is_empty.false)) c.requires c.answer_line.result c.answer_line.new.out c.answer_line.ensures.value c.answer_line.ensures.out_after
