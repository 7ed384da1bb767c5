use Rattle.text.specs.Bytes.{bytes}
use Rattle.text.specs.Number.{big_endian}
use Rattle.text.specs.NumberLaws.{length_big}
use Rattle.text.specs.Put.{Wrote}
use Rattle.text.specs.PutLaws.{both, gives-short, gives-text}
use Rattle.iteration.specs.Key.{iteration_key}
use Rattle.iteration.specs.KeyLaws.{key-length}
use native.Mathlib.Omega.{arith}
use Rattle.iteration.proofs.iteration_key.Goals as goal

pub returns-then-out-lt38 : goal.returns-then-out-lt38
returns-then-out-lt38 c =
    let p = gives-short (iteration_key c.args.number.0 c.args.height.0) c.args.out.now (omega (arith, key-length c.args.number.0 c.args.height.0)) in record { value = p.0; out_after = p.1 }

pub returns : goal.returns
unfolding iteration_key
returns c =
    let m = length_big 8 c.args.number.0 in
    let n = length_big 8 c.args.height.0 in
    let w1 : Wrote c.args.out.now 0 (bytes "iterateConsensusStates") c.write_text-first.result c.write_text-first.new.out = record { next = c.write_text-first.ensures.value; after = c.write_text-first.ensures.out_after; room = omega arith } in
    let w2 : Wrote c.write_text-first.new.out c.write_text-first.result (big_endian 8 c.args.number.0) c.write_big_endian-second.result c.write_big_endian-second.new.out = record { next = rw m c.write_big_endian-second.ensures.value; after = c.write_big_endian-second.ensures.out_after; room = omega arith } in
    let w3 : Wrote c.write_big_endian-second.new.out c.write_big_endian-second.result (big_endian 8 c.args.height.0) c.write_big_endian-end.result c.write_big_endian-end.new.out = record { next = rw n c.write_big_endian-end.ensures.value; after = c.write_big_endian-end.ensures.out_after; room = omega arith } in
    let p = gives-text (iteration_key c.args.number.0 c.args.height.0) c.args.out.now (both w1 (both w2 w3)) in record { value = p.0; out_after = p.1 }
