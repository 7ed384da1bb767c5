-- `text::write_eight` meets its contract.
use native.Mathlib.Omega.{arith}
use Rattle.text.specs.WidthLaws.{digits-written}
use Rattle.text.proofs.write_eight.Goals as goal

pub returns : goal.returns
returns c =
    let p = digits-written 4 4 _ _ c.args.r _ _ _ _ (omega arith) (c.write_four-next.ensures.value, c.write_four-next.ensures.out_after) (c.write_four.ensures.value, c.write_four.ensures.out_after) in record { value = p.0; out_after = p.1 }
