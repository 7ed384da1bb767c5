-- `shape::is_pair` meets its contract.
use native.Mathlib.Omega.{arith}
use Rattle.read_pieces.specs.PairLaws.{dash-inside}
use Rattle.diagnose.specs.ShapeLaws.{pair-no-dash, pair-no_number, pair-by-height}
use mathlib.Core.Path.{ap}
use mathlib.Core.Bool.{not}
use Rattle.diagnose.proofs.shape.is_pair.Goals as goal

pub returns-then-dash-c : goal.returns-then-dash-c
returns-then-dash-c c = pair-no-dash _ _ c.first_dash-dash.ensures c.if-dash-c.true

pub slice_bounds-is_number-end : goal.slice_bounds-is_number-end
slice_bounds-is_number-end c = omega (arith, dash-inside _ _ c.first_dash-dash.ensures c.if-dash-c.false)

pub returns-then-not-is_number : goal.returns-then-not-is_number
returns-then-not-is_number c =
    pair-no_number _ _ c.first_dash-dash.ensures c.if-dash-c.false _ c.is_number.ensures (ap not c.if-not-is_number.true)

pub overflow_add-after : goal.overflow_add-after
overflow_add-after c = omega (arith, dash-inside _ _ c.first_dash-dash.ensures c.if-dash-c.false)

pub slice_bounds-is_number-count-2 : goal.slice_bounds-is_number-count-2
slice_bounds-is_number-count-2 c = omega (arith, dash-inside _ _ c.first_dash-dash.ensures c.if-dash-c.false)

pub slice_bounds-is_number-start-2 : goal.slice_bounds-is_number-start-2
slice_bounds-is_number-start-2 c = omega (arith, dash-inside _ _ c.first_dash-dash.ensures c.if-dash-c.false)

pub returns : goal.returns
returns c =
    pair-by-height _ _ c.first_dash-dash.ensures c.if-dash-c.false _ c.is_number.ensures (ap not c.if-not-is_number.false) _ c.is_number-2.ensures
