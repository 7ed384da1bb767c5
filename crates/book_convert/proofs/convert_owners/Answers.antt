-- `book_convert::convert_owners` meets its contract.
use Rattle.book_form.specs.declared.Version.TheVariants.{Two}
use Rattle.book_form.specs.Version.{V2, V3}
use Rattle.book_form.specs.VersionLaws.{version_lawful}
use Rattle.book_convert.specs.ConvertLaws.{no-older, older, size_ready}
use Rattle.book_convert.specs.OwnersLaws.{owners-none, owners-other, owners-sum, owners_many, owners-done}
use native.Mathlib.Omega.{arith}
use Rattle.book_convert.proofs.convert_owners.Goals as goal

pub returns-in_default : goal.returns-in_default
returns-in_default c = owners-none _ _ _ (no-older V2 _ _ c.check_book.ensures c.in_default.is)

pub returns-then-new-slot_at : goal.returns-then-new-slot_at
returns-then-new-slot_at c = owners-other _ _ _ _ (older V2 _ _ _ c.check_book.ensures c.in-Some.is) _ c.slots_of-slots.ensures _ c.slot_at.ensures c.if-new-slot_at.true

pub returns-then-not-sum_fits : goal.returns-then-not-sum_fits
returns-then-not-sum_fits c = owners-sum _ _ _ _ (size_ready V2 (version_lawful Two) _ _ (older V2 _ _ _ c.check_book.ensures c.in-Some.is) _ c.slots_of-slots.ensures V3 _ _ c.slot_at.ensures c.if-new-slot_at.false) _ c.slots_of-slots.ensures _ c.sum_fits.ensures (c.if-not-sum_fits.true)

pub returns-then-one-n : goal.returns-then-one-n
returns-then-one-n c = owners_many _ _ _ _ (size_ready V2 (version_lawful Two) _ _ (older V2 _ _ _ c.check_book.ensures c.in-Some.is) _ c.slots_of-slots.ensures V3 _ _ c.slot_at.ensures c.if-new-slot_at.false) _ c.slots_of-slots.ensures _ c.sum_fits.ensures c.if-one-n.true

pub copy_owned-requires : goal.copy_owned-requires
copy_owned-requires c = record {
  ready = (size_ready V2 (version_lawful Two) _ _ (older V2 _ _ _ c.check_book.ensures c.in-Some.is) _ c.slots_of-slots.ensures V3 _ _ c.slot_at.ensures c.if-new-slot_at.false);
  one_bound = (omega arith, omega arith);
}

pub returns : goal.returns
returns c = owners-done _ _ _ _ (size_ready V2 (version_lawful Two) _ _ (older V2 _ _ _ c.check_book.ensures c.in-Some.is) _ c.slots_of-slots.ensures V3 _ _ c.slot_at.ensures c.if-new-slot_at.false) _ c.slots_of-slots.ensures _ c.sum_fits.ensures (c.if-not-sum_fits.false) c.if-one-n.false _ c.copy_owned.ensures
