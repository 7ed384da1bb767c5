use Rattle.std.proofs.Common.{sym, ◌∙◌, arith}
use Rattle.book.specs.RecordLaws.{judged-holds}
use Rattle.book_table.specs.LineLaws.{next-within}
use Rattle.book_table.specs.ManyLaws.{doing-start, doing-room, doing-more, doing-done, many-no_book, many-no_owner, many-bad_table, table_good, many-no_room, many-done}
use Rattle.book_table.proofs.many.look_many.Goals as goal

pub returns-in_default : goal.returns-in_default
returns-in_default c = many-no_book _ _ _ _ _ _ c.check_book.ensures c.in_default.is

pub returns-then-not-is_owner : goal.returns-then-not-is_owner
returns-then-not-is_owner c = many-no_owner _ _ _ _ _ _ (judged-holds _ _ _ c.check_book.ensures c.in-Some.is) _ c.is_owner.ensures c.if-not-is_owner.true

pub returns-then-not-table_ok : goal.returns-then-not-table_ok
returns-then-not-table_ok c = many-bad_table _ _ _ _ _ _ (judged-holds _ _ _ c.check_book.ensures c.in-Some.is) (sym c.is_owner.ensures ∙ c.if-not-is_owner.false) _ c.table_ok.ensures c.if-not-table_ok.true

pub returns-then-out-count_lines : goal.returns-then-out-count_lines
returns-then-out-count_lines c = many-no_room _ _ _ _ _ _ (judged-holds _ _ _ c.check_book.ensures c.in-Some.is) (sym c.is_owner.ensures ∙ c.if-not-is_owner.false) _ c.table_ok.ensures c.if-not-table_ok.false _ c.count_lines.ensures c.if-out-count_lines.true

pub loop-i-init : goal.loop-i-init
loop-i-init c = (omega arith, doing-start _ _ _ _ (omega (arith, c.count_lines.ensures, c.if-out-count_lines.false)))

pub put_entry-requires : goal.put_entry-requires
put_entry-requires c = record {
  counts = (judged-holds _ _ _ c.check_book.ensures c.in-Some.is, table_good _ _ _ _ c.table_ok.ensures c.if-not-table_ok.false);
  owner_value = (sym c.is_owner.ensures ∙ c.if-not-is_owner.false, doing-room _ _ _ _ _ _ _ _ c.loop-i.invariant.1 (omega arith) c.line_end-end.ensures);
}

pub loop-i-preserved : goal.loop-i-preserved
loop-i-preserved c = (
  (next-within _ _ _ c.line_end-end.ensures _ c.line_next-i.ensures).0,
  doing-more _ _ _ _ _ _ _ _ _ c.loop-i.invariant.1 (omega arith) c.line_end-end.ensures c.line_next-i.ensures _ c.put_entry.ensures,
)

pub returns : goal.returns
returns c =
    let h = judged-holds _ _ _ c.check_book.ensures c.in-Some.is in
    many-done _ _ _ _ _ _ h (sym c.is_owner.ensures ∙ c.if-not-is_owner.false) _ c.table_ok.ensures c.if-not-table_ok.false _ _ (doing-done _ _ _ _ _ _ _ c.loop-i.invariant.1 (omega arith) h.0)
