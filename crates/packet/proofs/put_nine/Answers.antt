-- `packet::put_nine` meets its contract.
use mathlib.Core.Path.{ap, ◌∙◌}
use mathlib.Core.List.{[], ◌∷◌}
use Prim.Native.Nat.{ℕ}
use native.Mathlib.Omega.{arith}
use Rattle.text.specs.Number.{big_endian}
use Rattle.text.specs.NumberLaws.{length_big}
use Rattle.text.specs.Put.{put, Wrote}
use Rattle.text.specs.PutLaws.{both}
use Rattle.packet.specs.Key.{marker_of}
use Rattle.packet.proofs.put_nine.Goals as goal

pub returns : goal.returns
returns c =
    let n : ℕ = c.args.sequence.0 in
    let one : Wrote c.args.out.now c.args.at (marker_of c.args.kind ∷ []) c.write_byte-next.result c.write_byte-next.new.out =
    record { next = c.write_byte-next.ensures.value; after = c.write_byte-next.ensures.out_after ∙ ap (λ (b : ℕ). put c.args.out.now c.args.at (b ∷ [])) c.marker_of.ensures; room = omega arith } in
    let eight : Wrote c.write_byte-next.new.out c.write_byte-next.result (big_endian 8 n) c.write_big_endian.result c.write_big_endian.new.out = record { next = rw (length_big 8 n) c.write_big_endian.ensures.value; after = c.write_big_endian.ensures.out_after; room = omega (arith, length_big 8 n) } in
    both one eight
