-- `book_form::put_slot` meets its contract.
use Rattle.book_form.specs.VersionLaws.{slot_pieces}
use native.Mathlib.Omega.{arith}
use Rattle.book_form.proofs.put_slot.Goals as goal

pub returns : goal.returns
returns c = let e = slot_pieces c.args.book.now c.args.at c.args.owner c.args.key.now c.args.value.now (omega arith) in
    cc e
