-- `encode::write_head` meets its contract.
use native.Mathlib.Omega.{arith}
use mathlib.Core.Path.{refl}
use Rattle.text.specs.PutLaws.{both}
use Rattle.reading.specs.EncodeLaws.{wrote}
use Rattle.reading.proofs.encode.write_head.Goals as goal

pub returns : goal.returns
returns c =
    both (wrote 1 refl c.write_byte-next.ensures.value c.write_byte-next.ensures.out_after (omega arith)) (wrote 1 refl c.write_byte.ensures.value c.write_byte.ensures.out_after (omega arith))
