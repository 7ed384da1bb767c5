-- `book_form::put_counted` meets its contract.
use Rattle.book_form.specs.CountedLaws.{counted_pieces}
use native.Mathlib.Omega.{arith}
use Rattle.book_form.proofs.put_counted.Goals as goal

pub returns : goal.returns
returns c = let e = counted_pieces c.args.book.now c.args.at c.args.most c.args.s.now (omega arith) (omega arith) in
    cc e
