-- `book_form::text_at` meets its contract.
use Prim.Native.Nat.{◌+◌, ◌-◌}
use lib.ListN.{get_or}
use native.Mathlib.Omega.{arith}
use mathlib.Core.Path.{◌≡◌, refl}
use Rattle.book_form.specs.CompareLaws.{stored-part}
use Rattle.book_form.proofs.text_at.Goals as goal

pub returns : goal.returns
returns c =
    let q : c.args.at + 1 + c.from.result - (c.args.at + 1) ≡ get_or c.args.book.now c.args.at 0 = omega (arith, c.from.ensures) in
    record { bytes = stored-part c.args.book.now c.args.at _ q; block = refl; offset = omega arith }
