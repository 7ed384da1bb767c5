-- `book_form::slot_ok` meets its contract.
use mathlib.Core.Path.{sym, ◌∙◌}
use Rattle.book_form.specs.VersionLaws.{tells-no-key, tells-plain, tells-sized}
use Rattle.book_form.proofs.slot_ok.Goals as goal

pub returns-then-not-counted_ok : goal.returns-then-not-counted_ok
returns-then-not-counted_ok c = tells-no-key c.args.version c.args.book.now c.args.at _ c.lead.ensures c.requires _ c.counted_ok.ensures (c.if-not-counted_ok.true)

pub returns-then-is_plain : goal.returns-then-is_plain
returns-then-is_plain c = tells-plain c.args.version c.args.book.now c.args.at _ c.lead.ensures c.requires (sym c.is_plain.ensures ∙ c.if-is_plain.true) (c.counted_ok.ensures.holds (c.if-not-counted_ok.false))

pub returns : goal.returns
returns c = tells-sized c.args.version c.args.book.now c.args.at _ c.lead.ensures c.requires (sym c.is_plain.ensures ∙ c.if-is_plain.false) (c.counted_ok.ensures.holds (c.if-not-counted_ok.false)) _ c.value_ok.ensures
