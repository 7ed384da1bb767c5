use Rattle.std.proofs.Common.{ap, ◌∙◌, arith}
use Rattle.book_form.specs.Form.{removed}
use Rattle.book_form.specs.declared.Quotas.{Quotas}
use Rattle.book_form.specs.Version.{V3}
use Rattle.book_form.specs.GapLaws.{closing-start, closing-next, closing_end}
use Rattle.book_form.proofs.close_gap.Goals as goal

pub loop-i-init : goal.loop-i-init
loop-i-init c =
    (omega arith, closing-start c.args.book.now c.args.start c.args.end c.args.count (omega arith) (omega arith) (omega arith))

pub loop-i-preserved : goal.loop-i-preserved
loop-i-preserved c =
    (omega arith, closing-next c.args.book.now c.args.start c.args.end c.args.count (omega arith) (omega arith) (omega arith) c.loop-i.book _ c.loop-i.i c.loop-i.invariant.1 (omega arith) (omega arith) c.fill_slot.ensures)

pub returns : goal.returns
returns c =
    c.put_header.ensures
    ∙ closing_end c.args.book.now c.args.start c.args.end c.args.count (omega arith) (omega arith) (omega arith) c.loop-i.book c.loop-i.i c.loop-i.invariant.1 (omega arith) c.quotas_of-quotas.result
    ∙ ap (λ (q : Quotas). removed V3 q c.args.start c.args.end c.args.count c.args.book.now) c.quotas_of-quotas.ensures.0
