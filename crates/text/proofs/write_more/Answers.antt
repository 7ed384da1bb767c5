-- `text::write_more` meets its contract.
use mathlib.Core.Path.{◌≡◌}
use Prim.Native.Nat.{◌+◌, ◌/◌}
use borrow.Author.Rules.{rules}
use native.Mathlib.Omega.{arith}
use lib.ListN.{length}
use Rattle.text.specs.Number.{decimal}
use Rattle.text.specs.WidthLaws.{length-parts, decimal-written}
use Rattle.text.proofs.write_more.Goals as goal

pub write_few-next-requires : goal.write_few-next-requires
write_few-next-requires c =
    let l : length (decimal c.args.n) ≡ length (decimal (c.args.n / 10000)) + 4 = length-parts 4 c.args.n (omega arith) in
    search rules

pub write_four-requires : goal.write_four-requires
write_four-requires c =
    let l : length (decimal c.args.n) ≡ length (decimal (c.args.n / 10000)) + 4 = length-parts 4 c.args.n (omega arith) in
    search rules

pub returns : goal.returns
returns c =
    let p = decimal-written 4 _ _ c.args.n _ _ _ _ (omega arith) (omega arith) (c.write_few-next.ensures.value, c.write_few-next.ensures.out_after) (c.write_four.ensures.value, c.write_four.ensures.out_after) in record { value = p.0; out_after = p.1 }
