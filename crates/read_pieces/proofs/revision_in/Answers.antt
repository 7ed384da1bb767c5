-- `read_pieces::revision_in` meets its contract.
use Rattle.read_pieces.specs.PairLaws.{dash-inside, revision-none, revision-no_number, revision-no-height, revision-some}
use Rattle.read_pieces.proofs.Steps.{no_value}
use native.Mathlib.Omega.{arith}
use Rattle.std.proofs.Common.{length-take}
use Rattle.read_pieces.proofs.revision_in.Goals as goal

pub returns-then-dash-s : goal.returns-then-dash-s
returns-then-dash-s c = revision-none _ _ c.first_dash-dash.ensures c.if-dash-s.true

pub slice_bounds-read_number-end : goal.slice_bounds-read_number-end
slice_bounds-read_number-end c = omega (arith, length-take c.first_dash-dash.result c.args.s.now, dash-inside _ _ c.first_dash-dash.ensures c.if-dash-s.false)

pub returns-in_default : goal.returns-in_default
returns-in_default c = revision-no_number _ _ c.first_dash-dash.ensures c.if-dash-s.false _ c.read_number.ensures (no_value c.read_number.result c.in_default.not-Ok)

pub overflow_add-after : goal.overflow_add-after
overflow_add-after c = omega (arith, dash-inside _ _ c.first_dash-dash.ensures c.if-dash-s.false)

pub slice_bounds-read_number-count : goal.slice_bounds-read_number-count
slice_bounds-read_number-count c = omega (arith, dash-inside _ _ c.first_dash-dash.ensures c.if-dash-s.false)

pub slice_bounds-read_number-start : goal.slice_bounds-read_number-start
slice_bounds-read_number-start c = omega (arith, dash-inside _ _ c.first_dash-dash.ensures c.if-dash-s.false)

pub returns-in_default-read_number : goal.returns-in_default-read_number
returns-in_default-read_number c = revision-no-height _ _ c.first_dash-dash.ensures c.if-dash-s.false _ c.read_number.ensures _ c.read_number-2.ensures (no_value c.read_number-2.result c.in_default-read_number.not-Ok)

pub returns : goal.returns
returns c = revision-some _ _ c.first_dash-dash.ensures c.if-dash-s.false _ c.read_number.ensures _ c.read_number-2.ensures _ _ c.in-Ok.is c.in-Ok-read_number.is
