-- `text::write_pair` meets its contract.
use mathlib.Core.Path.{◌≡◌}
use Prim.Native.Nat.{◌+◌, ◌*◌, ◌/◌, ◌%◌}
use native.Mathlib.Omega.{arith}
use Rattle.text.specs.PutLaws.{put_then}
use Rattle.text.specs.WidthLaws.{digits-two}
use Rattle.text.proofs.write_pair.Goals as goal

pub returns : goal.returns
returns c =
    let tens : (12336 + c.args.r / 10 + c.args.r % 10 * 256) % 256 ≡ 48 + c.args.r / 10 = omega arith in
    let ones : (12336 + c.args.r / 10 + c.args.r % 10 * 256) / 256 ≡ 48 + c.args.r % 10 = omega arith in
    record {
      value = omega arith;
      out_after = rw (digits-two c.args.r (omega arith), ← tens, ← ones) (put_then _ _ _ _ _ _ _ c.write_byte-next.ensures.out_after c.write_byte-next.ensures.value (omega arith) c.write_byte.ensures.out_after);
    }
