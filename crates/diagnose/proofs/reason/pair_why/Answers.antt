-- `reason::pair_why` meets its contract.
use Prim.Native.Nat.{◌+◌}
use mathlib.Core.Path.{ap, ◌∙◌}
use native.Mathlib.Omega.{arith}
use lib.ListN.{length, drop, length-drop}
use Rattle.text.specs.PartLaws.{part-rest}
use Rattle.read_pieces.specs.Pieces.{first_dash}
use Rattle.read_pieces.specs.PairLaws.{dash-inside, dash-within}
use Rattle.diagnose.specs.ReasonLaws.{pair_undashed, pair-second, pair-numbers}
use Rattle.diagnose.proofs.reason.pair_why.Goals as goal

pub returns-then-dash-c : goal.returns-then-dash-c
returns-then-dash-c c = pair_undashed c.args.c.now c.first_dash-dash.result c.first_dash-dash.ensures (omega arith)

pub overflow_add-after : goal.overflow_add-after
overflow_add-after c = omega (arith, dash-inside _ _ c.first_dash-dash.ensures c.if-dash-c.false)

pub slice_bounds-height-count : goal.slice_bounds-height-count
slice_bounds-height-count c = omega (arith, dash-inside _ _ c.first_dash-dash.ensures c.if-dash-c.false)

pub slice_bounds-height-start : goal.slice_bounds-height-start
slice_bounds-height-start c = omega (arith, dash-inside _ _ c.first_dash-dash.ensures c.if-dash-c.false)

pub overflow_add-result : goal.overflow_add-result
overflow_add-result c =
    let g = c.first_dash-second.ensures ∙ ap first_dash (part-rest (c.first_dash-dash.result + 1) c.args.c.now) in
    omega (arith, dash-inside _ _ c.first_dash-dash.ensures c.if-dash-c.false, dash-within (drop (c.first_dash-dash.result + 1) c.args.c.now), length-drop (c.first_dash-dash.result + 1) c.args.c.now)

pub returns-then-second-height : goal.returns-then-second-height
returns-then-second-height c =
    let g = c.first_dash-second.ensures ∙ ap first_dash (part-rest (c.first_dash-dash.result + 1) c.args.c.now) in
    pair-second c.args.c.now c.first_dash-dash.result c.first_dash-dash.ensures (dash-inside _ _ c.first_dash-dash.ensures c.if-dash-c.false) c.first_dash-second.result g (omega (arith, dash-within (drop (c.first_dash-dash.result + 1) c.args.c.now), ap length (part-rest (c.first_dash-dash.result + 1) c.args.c.now)))

pub numbers_why-requires : goal.numbers_why-requires
numbers_why-requires c = dash-inside _ _ c.first_dash-dash.ensures c.if-dash-c.false

pub returns : goal.returns
returns c =
    let g = c.first_dash-second.ensures ∙ ap first_dash (part-rest (c.first_dash-dash.result + 1) c.args.c.now) in
    c.numbers_why.ensures ∙ pair-numbers c.args.c.now c.first_dash-dash.result c.first_dash-dash.ensures (dash-inside _ _ c.first_dash-dash.ensures c.if-dash-c.false) c.first_dash-second.result g (omega (arith, ap length (part-rest (c.first_dash-dash.result + 1) c.args.c.now)))
