-- `encode::write_carried` meets its contract.
use native.Mathlib.Omega.{arith}
use Rattle.text.specs.PutLaws.{both}
use Rattle.reading.specs.EncodeLaws.{length-places}
use Rattle.reading.proofs.encode.write_carried.Goals as goal

pub write_numbers-requires : goal.write_numbers-requires
write_numbers-requires c = omega (arith, length-places c.args.v.first c.args.v.second, c.write_places-next.ensures.next)

pub returns : goal.returns
returns c = both c.write_places-next.ensures c.write_numbers.ensures
