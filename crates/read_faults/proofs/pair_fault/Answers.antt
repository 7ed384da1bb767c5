-- `fault::pair_fault` meets its contract.
use mathlib.Core.Path.{◌∙◌}
use native.Mathlib.Omega.{arith}
use Rattle.read_pieces.specs.CutLaws.{component-ends}
use Rattle.read_faults.proofs.pair_fault.Goals as goal

pub pair_fault_at-requires : goal.pair_fault_at-requires
pair_fault_at-requires c = omega (arith, component-ends _ _ _ _ c.place-place.ensures c.component.ensures.bytes)

pub returns : goal.returns
returns c = c.pair_fault_at.ensures ∙ rw (c.component.ensures.bytes, c.place-place.ensures)
