-- `book::remove` meets its contract.
use mathlib.Core.Path.{refl}
use Rattle.book_records.specs.Calls.{to_remove}
use Rattle.book.specs.OpenLaws.{open_changed, open-counts, open-keyed, open-owner}
use Rattle.book.specs.RecordLaws.{remove-text}
use Rattle.book.proofs.remove.Goals as goal

pub returns-in-Err : goal.returns-in-Err
returns-in-Err c = open_changed _ _ _ _ _ c.open_call.ensures _ c.in-Err.is to_remove

pub slice_bounds-take_record-end : goal.slice_bounds-take_record-end
slice_bounds-take_record-end c = (open-keyed _ _ _ _ _ c.open_call.ensures _ c.in-Ok.is).room

pub take_record-requires : goal.take_record-requires
take_record-requires c = (open-counts _ _ _ _ _ c.open_call.ensures _ c.in-Ok.is)

pub returns : goal.returns
returns c = remove-text _ _ _ (open-owner _ _ _ _ _ c.open_call.ensures _ c.in-Ok.is) _ _ _ (open-keyed _ _ _ _ _ c.open_call.ensures _ c.in-Ok.is) _ refl _ _ c.take_record.ensures
