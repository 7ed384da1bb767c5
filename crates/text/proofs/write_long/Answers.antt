-- `text::write_long` meets its contract.
use mathlib.Core.Path.{◌≡◌}
use Prim.Native.Nat.{◌+◌, ◌/◌}
use borrow.Author.Rules.{rules}
use native.Mathlib.Omega.{arith}
use lib.ListN.{length}
use Rattle.text.specs.Number.{decimal}
use Rattle.text.specs.WidthLaws.{length-parts, decimal-written}
use Rattle.text.proofs.write_long.Goals as goal

pub write_more-next-requires : goal.write_more-next-requires
write_more-next-requires c =
    let l : length (decimal c.args.n) ≡ length (decimal (c.args.n / 100000000)) + 8 = length-parts 8 c.args.n (omega arith) in
    search rules

pub write_eight-requires : goal.write_eight-requires
write_eight-requires c =
    let l : length (decimal c.args.n) ≡ length (decimal (c.args.n / 100000000)) + 8 = length-parts 8 c.args.n (omega arith) in
    search rules

pub returns : goal.returns
returns c =
    let p = decimal-written 8 _ _ c.args.n _ _ _ _ (omega arith) (omega arith) (c.write_more-next.ensures.value, c.write_more-next.ensures.out_after) (c.write_eight.ensures.value, c.write_eight.ensures.out_after) in record { value = p.0; out_after = p.1 }
