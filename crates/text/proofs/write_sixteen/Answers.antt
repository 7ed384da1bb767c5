-- `text::write_sixteen` meets its contract.
use native.Mathlib.Omega.{arith}
use Rattle.text.specs.WidthLaws.{digits-written}
use Rattle.text.proofs.write_sixteen.Goals as goal

pub returns : goal.returns
returns c =
    let p = digits-written 8 8 _ _ c.args.r _ _ _ _ (omega arith) (c.write_eight-next.ensures.value, c.write_eight-next.ensures.out_after) (c.write_eight.ensures.value, c.write_eight.ensures.out_after) in record { value = p.0; out_after = p.1 }
