-- `book_convert::convert` meets its contract.
use Rattle.book_form.specs.declared.Version.TheVariants.{One}
use Rattle.book_form.specs.Version.{V1, V2}
use Rattle.book_form.specs.VersionLaws.{version_lawful}
use Rattle.book_convert.specs.ConvertLaws.{no-older, older, size_ready, convert-none, convert-other, convert-done}
use Rattle.book_convert.proofs.convert.Goals as goal

pub returns-in_default : goal.returns-in_default
returns-in_default c = convert-none _ _ (no-older V1 _ _ c.check_book.ensures c.in_default.is)

pub returns-then-new-slot_at : goal.returns-then-new-slot_at
returns-then-new-slot_at c = convert-other _ _ _ (older V1 _ _ _ c.check_book.ensures c.in-Some.is) _ c.slots_of.ensures _ c.slot_at.ensures c.if-new-slot_at.true

pub copy_records-requires : goal.copy_records-requires
copy_records-requires c = size_ready V1 (version_lawful One) _ _ (older V1 _ _ _ c.check_book.ensures c.in-Some.is) _ c.slots_of.ensures V2 _ _ c.slot_at.ensures c.if-new-slot_at.false

pub returns : goal.returns
returns c = convert-done _ _ _ (size_ready V1 (version_lawful One) _ _ (older V1 _ _ _ c.check_book.ensures c.in-Some.is) _ c.slots_of.ensures V2 _ _ c.slot_at.ensures c.if-new-slot_at.false) _ c.copy_records.ensures
