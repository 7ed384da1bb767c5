-- `book_form::compare_owners` meets its contract.
use Rattle.book_form.specs.NextLaws.{owners-one, owners-two, owners-three}
use Rattle.book_form.proofs.compare_owners.Goals as goal

pub returns-in-One : goal.returns-in-One
returns-in-One c = owners-one c.args.version c.args.book.now c.args.at c.in-One.is

pub returns-in-Two : goal.returns-in-Two
returns-in-Two c = owners-two c.args.version c.args.book.now c.args.at c.in-Two.is

pub returns-in-Three : goal.returns-in-Three
returns-in-Three c = owners-three c.args.version c.args.book.now c.args.at c.requires c.in-Three.is _ c.cmp.ensures
