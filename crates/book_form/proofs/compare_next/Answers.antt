-- `book_form::compare_next` meets its contract.
use Rattle.book_form.specs.NextLaws.{next-owners, next-stored}
use Rattle.book_form.proofs.compare_next.Goals as goal

pub returns-in-Equal : goal.returns-in-Equal
returns-in-Equal c = next-stored c.args.version c.args.book.now c.args.at c.requires _ c.compare_owners.ensures c.in-Equal.is _ _ c.lead.ensures c.width.ensures _ c.compare_stored.ensures

pub returns-in_default : goal.returns-in_default
returns-in_default c = next-owners c.args.version c.args.book.now c.args.at c.requires _ c.compare_owners.ensures c.in_default.not-Equal
