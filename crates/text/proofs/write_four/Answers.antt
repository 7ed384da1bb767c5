-- `text::write_four` meets its contract.
use native.Mathlib.Omega.{arith}
use Rattle.text.specs.WidthLaws.{digits-written}
use Rattle.text.proofs.write_four.Goals as goal

pub returns : goal.returns
returns c =
    let p = digits-written 2 2 _ _ c.args.r _ _ _ _ (omega arith) (c.write_pair-next.ensures.value, c.write_pair-next.ensures.out_after) (c.write_pair.ensures.value, c.write_pair.ensures.out_after) in record { value = p.0; out_after = p.1 }
