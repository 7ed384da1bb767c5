-- `book_table::look::look_text` meets its contract.
use Rattle.std.proofs.Common.{refl}
use Rattle.book_records.specs.Calls.{to_look}
use Rattle.book_key.specs.MadeLaws.{made-refuses, made-keyed}
use Rattle.book.specs.Book.{Current}
use Rattle.book.specs.FindLaws.{looked-refused}
use Rattle.book.specs.RecordLaws.{look-text}
use Rattle.book_table.proofs.look.look_text.Goals as goal

pub returns-in-Err : goal.returns-in-Err
returns-in-Err c = looked-refused Current _ _ c.requires.counts.0 _ _ (made-refuses _ _ _ c.key_of.ensures _ c.in-Err.is _ c.requires.owner_value.0 (to_look _)) _

pub slice_bounds-look_key-end : goal.slice_bounds-look_key-end
slice_bounds-look_key-end c = (made-keyed _ _ _ c.key_of.ensures _ c.in-Ok.is).room

pub returns : goal.returns
returns c = look-text _ _ _ c.requires.owner_value.0 _ _ _ (made-keyed _ _ _ c.key_of.ensures _ c.in-Ok.is) _ refl _ _ _ c.requires.owner_value.1 c.look_key.ensures
