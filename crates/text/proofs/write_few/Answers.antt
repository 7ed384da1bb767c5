-- `text::write_few` meets its contract.
use mathlib.Core.Path.{◌≡◌}
use Prim.Native.Nat.{◌+◌, ◌/◌}
use borrow.Author.Rules.{rules}
use native.Mathlib.Omega.{arith}
use lib.ListN.{length}
use Rattle.text.specs.Number.{decimal}
use Rattle.text.specs.WidthLaws.{length-parts, decimal-written}
use Rattle.text.proofs.write_few.Goals as goal

pub write_first-next-requires : goal.write_first-next-requires
write_first-next-requires c =
    let l : length (decimal c.args.n) ≡ length (decimal (c.args.n / 100)) + 2 = length-parts 2 c.args.n (omega arith) in
    search rules

pub write_pair-requires : goal.write_pair-requires
write_pair-requires c =
    let l : length (decimal c.args.n) ≡ length (decimal (c.args.n / 100)) + 2 = length-parts 2 c.args.n (omega arith) in
    search rules

pub returns : goal.returns
returns c =
    let p = decimal-written 2 _ _ c.args.n _ _ _ _ (omega arith) (omega arith) (c.write_first-next.ensures.value, c.write_first-next.ensures.out_after) (c.write_pair.ensures.value, c.write_pair.ensures.out_after) in record { value = p.0; out_after = p.1 }
