-- `encode::write_places` meets its contract.
use native.Mathlib.Omega.{arith}
use Rattle.text.specs.PutLaws.{both}
use Rattle.reading.specs.EncodeLaws.{length-place}
use Rattle.reading.proofs.encode.write_places.Goals as goal

pub write_place-requires : goal.write_place-requires
write_place-requires c = omega (arith, length-place c.args.first, c.write_place-next.ensures.next)

pub returns : goal.returns
returns c = both c.write_place-next.ensures c.write_place.ensures
