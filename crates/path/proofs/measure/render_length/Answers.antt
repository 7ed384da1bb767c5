-- `measure::render_length` meets its contract.
use native.Mathlib.Omega.{arith}
use Rattle.path.specs.MeasureLaws.{length-by}
use Rattle.path.proofs.measure.render_length.Goals as goal

pub returns : goal.returns
returns c =
    rw (length-by c.args.kind c.requires.0 c.requires.1, ← c.sizes_of-sizes.ensures.fixed, ← c.sizes_of-sizes.ensures.names, ← c.sizes_of-sizes.ensures.numbers, ← c.name_bytes-names.ensures.value, ← c.digits.ensures.value) (omega arith)
