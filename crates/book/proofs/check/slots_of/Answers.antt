-- `book::check::slots_of` meets its contract.
use mathlib.Core.Path.{refl}
use Rattle.book_form.specs.Version.{form_of}
use Rattle.book_form.specs.VersionLaws.{version_lawful}
use Rattle.book.specs.SizeLaws.{slots-short, slots_odd, slots_many, slots_are}
use Rattle.book.proofs.check.slots_of.Goals as goal

pub returns-then-size-head : goal.returns-then-size-head
returns-then-size-head c = slots-short (form_of c.args.version) (version_lawful c.args.version) _ _ (form_of c.args.version).width c.head-head.ensures refl c.if-size-head.true

pub returns-then-size-head-ne0 : goal.returns-then-size-head-ne0
returns-then-size-head-ne0 c = slots_odd (form_of c.args.version) (version_lawful c.args.version) _ _ _ c.head-head.ensures c.width-width.ensures c.if-size-head-ne0.true

pub returns-then-slots-gt200 : goal.returns-then-slots-gt200
returns-then-slots-gt200 c = slots_many (form_of c.args.version) (version_lawful c.args.version) _ _ _ c.head-head.ensures c.width-width.ensures _ refl c.if-slots-gt200.true

pub returns : goal.returns
returns c = slots_are (form_of c.args.version) (version_lawful c.args.version) _ _ _ c.head-head.ensures c.width-width.ensures _ c.if-size-head.false c.if-size-head-ne0.false refl c.if-slots-gt200.false
