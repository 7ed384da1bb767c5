use Rattle.std.proofs.Common.{sym, ◌∙◌, arith}
use Rattle.book_form.specs.BlankLaws.{or-none, or-more}
use Rattle.book_form.proofs.blank.Goals as goal

pub loop-b-preserved : goal.loop-b-preserved
loop-b-preserved c = c.loop-b.invariant ∙ or-more c.loop-b.all c.args.s.now c.loop-b.b-index (omega arith)

pub returns : goal.returns
returns c = sym (c.loop-b.invariant ∙ or-none c.loop-b.all c.args.s.now c.loop-b.b-index (omega arith))
