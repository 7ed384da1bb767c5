-- `book_form::put_fields` meets its contract.
use Rattle.book_form.specs.VersionLaws.{fields_pieces}
use native.Mathlib.Omega.{arith}
use Rattle.book_form.proofs.put_fields.Goals as goal

pub returns : goal.returns
returns c = let e = fields_pieces c.args.book.now c.args.at c.args.key.now c.args.value.now (omega arith) (omega arith) in
    cc e
