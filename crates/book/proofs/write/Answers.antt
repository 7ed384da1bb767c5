-- `book::write` meets its contract.
use mathlib.Core.Path.{refl}
use Rattle.book_records.specs.Calls.{to_write}
use Rattle.book_records.proofs.TextLaws.{write-retired, write-bad}
use Rattle.book.specs.Book.{Current}
use Rattle.book.specs.FindLaws.{changed-refused}
use Rattle.book.specs.OpenLaws.{open_changed, open-counts, open-owner, open-keyed, open-retired, open_live}
use Rattle.book.specs.RecordLaws.{write-text, key_short}
use native.Mathlib.Omega.{arith}
use Rattle.book.proofs.write.Goals as goal

pub returns-in-Err : goal.returns-in-Err
returns-in-Err c = open_changed _ _ _ _ _ c.open_call.ensures _ c.in-Err.is (to_write _)

pub returns-then-opened-eq8 : goal.returns-then-opened-eq8
returns-then-opened-eq8 c =
    changed-refused Current _ _ (open-counts _ _ _ _ _ c.open_call.ensures _ c.in-Ok.is) _ _ (write-retired _ _ (open-owner _ _ _ _ _ c.open_call.ensures _ c.in-Ok.is) _ _ _ (open-keyed _ _ _ _ _ c.open_call.ensures _ c.in-Ok.is) _ (open-retired _ _ _ _ _ c.open_call.ensures _ c.in-Ok.is c.if-opened-eq8.true))

pub returns-then-value-lt1 : goal.returns-then-value-lt1
returns-then-value-lt1 c =
    changed-refused Current _ _ (open-counts _ _ _ _ _ c.open_call.ensures _ c.in-Ok.is) _ _ (write-bad _ _ (open-owner _ _ _ _ _ c.open_call.ensures _ c.in-Ok.is) _ _ _ (open-keyed _ _ _ _ _ c.open_call.ensures _ c.in-Ok.is) c.args.value.now (open_live _ _ _ _ _ c.open_call.ensures _ c.in-Ok.is c.if-opened-eq8.false) (λ f. omega (arith, f.least)))

pub returns-then-value-gt64 : goal.returns-then-value-gt64
returns-then-value-gt64 c =
    changed-refused Current _ _ (open-counts _ _ _ _ _ c.open_call.ensures _ c.in-Ok.is) _ _ (write-bad _ _ (open-owner _ _ _ _ _ c.open_call.ensures _ c.in-Ok.is) _ _ _ (open-keyed _ _ _ _ _ c.open_call.ensures _ c.in-Ok.is) c.args.value.now (open_live _ _ _ _ _ c.open_call.ensures _ c.in-Ok.is c.if-opened-eq8.false) (λ f. omega (arith, f.most)))

pub slice_bounds-put_record-end : goal.slice_bounds-put_record-end
slice_bounds-put_record-end c = (open-keyed _ _ _ _ _ c.open_call.ensures _ c.in-Ok.is).room

pub put_record-requires : goal.put_record-requires
put_record-requires c =
    let w = open-owner _ _ _ _ _ c.open_call.ensures _ c.in-Ok.is in
    record {
      counts = (open-counts _ _ _ _ _ c.open_call.ensures _ c.in-Ok.is, w);
      key_len_bound = (key_short _ c.args.book.now c.args.owner w _ _ _ (open-keyed _ _ _ _ _ c.open_call.ensures _ c.in-Ok.is) _ refl, record { least = c.if-value-lt1.false; most = c.if-value-gt64.false });
    }

pub returns : goal.returns
returns c =
    write-text _ _ _ (open-owner _ _ _ _ _ c.open_call.ensures _ c.in-Ok.is) _ _ _ (open-keyed _ _ _ _ _ c.open_call.ensures _ c.in-Ok.is) _ refl _ _ _ (open_live _ _ _ _ _ c.open_call.ensures _ c.in-Ok.is c.if-opened-eq8.false) (record { least = c.if-value-lt1.false; most = c.if-value-gt64.false }) c.put_record.ensures
