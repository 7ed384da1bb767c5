-- `book_form::counted_ok` meets its contract.
use Prim.Native.Nat.{◌+◌, ◌-◌}
use Rattle.book_form.specs.CountedLaws.{tells-long, tells-blank}
use native.Mathlib.Omega.{arith}
use Rattle.book_form.proofs.counted_ok.Goals as goal

pub returns-then-most-n : goal.returns-then-most-n
returns-then-most-n c = tells-long c.args.book.now c.args.at c.args.most (omega arith) (omega (arith, c.from-n.ensures))

pub returns : goal.returns
returns c = tells-blank c.args.book.now c.args.at c.args.most (omega arith) (omega (arith, c.from-n.ensures)) (c.args.at + 1 + c.from-n.result) (c.args.at + 1 + c.args.most - (c.args.at + 1 + c.from-n.result)) (omega (arith, c.from-n.ensures)) (omega (arith, c.from-n.ensures)) c.all_zero.result c.all_zero.ensures
