-- `packet::put_key` meets its contract.
use native.Mathlib.Omega.{arith}
use Rattle.text.specs.Put.{Wrote}
use Rattle.text.specs.PutLaws.{both}
use Rattle.packet.specs.Key.{packet_key}
use Rattle.packet.proofs.put_key.Goals as goal

pub returns : goal.returns
unfolding packet_key
returns c =
    let client : Wrote c.args.out.now 0 c.args.client.now c.write_text-at.result c.write_text-at.new.out = record { next = c.write_text-at.ensures.value; after = c.write_text-at.ensures.out_after; room = omega arith } in
    both client c.put_nine.ensures
