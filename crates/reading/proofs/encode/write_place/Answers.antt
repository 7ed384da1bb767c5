-- `encode::write_place` meets its contract.
use native.Mathlib.Omega.{arith}
use Rattle.text.specs.NumberLaws.{length_big}
use Rattle.text.specs.PutLaws.{both}
use Rattle.reading.specs.EncodeLaws.{wrote}
use Rattle.reading.proofs.encode.write_place.Goals as goal

pub returns : goal.returns
returns c =
    both (wrote 2 (length_big 2 _) c.write_big_endian-next.ensures.value c.write_big_endian-next.ensures.out_after (omega arith)) (wrote 2 (length_big 2 _) c.write_big_endian.ensures.value c.write_big_endian.ensures.out_after (omega arith))
