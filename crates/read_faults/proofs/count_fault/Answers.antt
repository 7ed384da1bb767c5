-- `fault::count_fault` meets its contract.
use mathlib.Core.Path.{◌∙◌}
use native.Mathlib.Omega.{arith}
use Rattle.path.specs.Read.{part_faults}
use Rattle.read_pieces.specs.CutLaws.{component-ends}
use Rattle.read_faults.proofs.count_fault.Goals as goal

pub fault_at-requires : goal.fault_at-requires
fault_at-requires c = omega (arith, component-ends _ _ _ _ c.place-place.ensures c.component.ensures.bytes)

pub returns : goal.returns
unfolding part_faults
returns c = c.fault_at.ensures ∙ rw (c.component.ensures.bytes, c.place-place.ensures)
