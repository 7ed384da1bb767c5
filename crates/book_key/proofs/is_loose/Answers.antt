-- `book_key::is_loose` meets its contract.
use Rattle.book_key.specs.FieldLaws.{unread-taken, plain-by-mark, lenient-taken}
use Rattle.book_key.proofs.is_loose.Goals as goal

pub returns-in_default : goal.returns-in_default
returns-in_default c = unread-taken c.args.manner c.args.read _ c.in_default.is

pub returns-in-Plain : goal.returns-in-Plain
returns-in-Plain c = plain-by-mark c.args.manner c.args.read _ c.in-Ok.is c.in-Plain.is

pub returns-in-Lenient : goal.returns-in-Lenient
returns-in-Lenient c = lenient-taken c.args.manner c.args.read c.in-Lenient.is
