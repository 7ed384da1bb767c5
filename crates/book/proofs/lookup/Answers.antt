-- `book::lookup` meets its contract.
use mathlib.Core.Path.{refl}
use Rattle.book_records.specs.Calls.{to_look}
use Rattle.book_records.proofs.TextLaws.{look-short}
use Rattle.book.specs.Book.{Current}
use Rattle.book.specs.FindLaws.{looked-refused}
use Rattle.book.specs.OpenLaws.{open-found, open-counts, open-keyed, open-owner}
use Rattle.book.specs.RecordLaws.{look-text}
use Rattle.book.proofs.lookup.Goals as goal

pub returns-in-Err : goal.returns-in-Err
returns-in-Err c = open-found _ _ _ _ _ c.open_call.ensures _ c.in-Err.is (to_look _) _

pub returns-then-out-lt64 : goal.returns-then-out-lt64
returns-then-out-lt64 c = looked-refused Current _ _ (open-counts _ _ _ _ _ c.open_call.ensures _ c.in-Ok.is) _ _ (look-short _ _ (open-owner _ _ _ _ _ c.open_call.ensures _ c.in-Ok.is) _ _ _ (open-keyed _ _ _ _ _ c.open_call.ensures _ c.in-Ok.is) _ c.if-out-lt64.true) _

pub slice_bounds-look_record-end : goal.slice_bounds-look_record-end
slice_bounds-look_record-end c = (open-keyed _ _ _ _ _ c.open_call.ensures _ c.in-Ok.is).room

pub look_record-requires : goal.look_record-requires
look_record-requires c = record {
  counts = (open-counts _ _ _ _ _ c.open_call.ensures _ c.in-Ok.is);
  in_bounds = c.if-out-lt64.false;
}

pub returns : goal.returns
returns c = look-text _ _ _ (open-owner _ _ _ _ _ c.open_call.ensures _ c.in-Ok.is) _ _ _ (open-keyed _ _ _ _ _ c.open_call.ensures _ c.in-Ok.is) _ refl _ _ _ c.if-out-lt64.false c.look_record.ensures
