-- `cutter::CutText::component` meets its contract.
use native.Mathlib.Omega.{arith}
use mathlib.Core.Path.{refl, ap}
use Rattle.path.specs.declared.Place.{Place}
use Rattle.read_pieces.specs.CutLaws.{place-ends, place-shows}
use Rattle.read_pieces.proofs.cutter.CutText.component.Goals as goal

pub overflow_add-end : goal.overflow_add-end
overflow_add-end c = omega (arith, place-ends _ _ _ c.place-p.ensures)

pub slice_bounds-result-end : goal.slice_bounds-result-end
slice_bounds-result-end c = omega (arith, place-ends _ _ _ c.place-p.ensures)

pub returns : goal.returns
returns c =
    record { bytes = place-shows _ _ _ c.place-p.ensures; block = refl; offset = omega (arith, ap (λ (p : Place). p.start) c.place-p.ensures) }
