-- `fault::pair_fault_at` meets its contract.
use Prim.Native.Nat.{◌-◌}
use native.Mathlib.Omega.{arith}
use Rattle.text.specs.PartLaws.{part-rest}
use mathlib.Core.Path.{◌∙◌}
use Rattle.read_pieces.specs.PairLaws.{dash-inside}
use Rattle.read_faults.specs.FaultLaws.{first-room, second-room, pair_undashed, pair_redashed, pair-both}
use Rattle.read_faults.proofs.pair_fault_at.Goals as goal

-- s is cut at its first dash, and what is behind it starts in s
pub returns-then-dash-s : goal.returns-then-dash-s
returns-then-dash-s c = pair_undashed _ _ _ c.first_dash-dash.ensures c.if-dash-s.true

pub overflow_add-after : goal.overflow_add-after
overflow_add-after c = omega (arith, dash-inside _ _ c.first_dash-dash.ensures c.if-dash-s.false)

pub slice_bounds-height-count : goal.slice_bounds-height-count
slice_bounds-height-count c = omega (arith, dash-inside _ _ c.first_dash-dash.ensures c.if-dash-s.false)

pub slice_bounds-height-start : goal.slice_bounds-height-start
slice_bounds-height-start c = omega (arith, dash-inside _ _ c.first_dash-dash.ensures c.if-dash-s.false)

pub returns-then-first_dash-height : goal.returns-then-first_dash-height
returns-then-first_dash-height c =
    pair_redashed c.args.s.now c.args.at _ c.first_dash-dash.ensures c.if-dash-s.false _ (part-rest _ c.args.s.now) _ c.first_dash.ensures c.if-first_dash-height.true

pub slice_bounds-fault_at-end : goal.slice_bounds-fault_at-end
slice_bounds-fault_at-end c = omega (arith, dash-inside _ _ c.first_dash-dash.ensures c.if-dash-s.false)

pub fault_at-number-requires : goal.fault_at-number-requires
fault_at-number-requires c = first-room c.args.s.now c.args.at (c.first_dash-dash.result - 0) c.requires

pub overflow_add-at : goal.overflow_add-at
overflow_add-at c = omega (arith, dash-inside _ _ c.first_dash-dash.ensures c.if-dash-s.false)

pub fault_at-requires : goal.fault_at-requires
fault_at-requires c = second-room c.args.s.now c.args.at c.first_dash-dash.result c.requires (dash-inside _ _ c.first_dash-dash.ensures c.if-dash-s.false)

pub returns : goal.returns
returns c =
    c.or_fault.ensures ∙ pair-both c.args.s.now c.args.at _ c.first_dash-dash.ensures c.if-dash-s.false _ (part-rest _ c.args.s.now) _ c.first_dash.ensures c.if-first_dash-height.false _ _ c.fault_at-number.ensures c.fault_at.ensures
