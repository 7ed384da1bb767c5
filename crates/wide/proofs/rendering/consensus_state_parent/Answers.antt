-- `wide::rendering::consensus_state_parent` meets its contract.
use mathlib.Core.List.{[]}
use Rattle.text.specs.PutLaws.{gives_same}
use Rattle.path.specs.Kinds.{carried}
use Rattle.path.specs.Parents.{consensus_parent}
use Rattle.wide.specs.Mode.{wide}
use Rattle.wide.specs.Render.{name_fault_in, text_in}
use Rattle.wide.specs.StepLaws.{parent-wanted}
use Rattle.wide.proofs.rendering.consensus_state_parent.Goals as goal

pub returns : goal.returns
unfolding name_fault_in
returns c =
    let v = carried c.args.client.now [] 0 0 in
    let p = gives_same (text_in wide consensus_parent v) c.args.out.now (parent-wanted wide v) (c.checked_parent.ensures.value, c.checked_parent.ensures.out_after) in record { value = p.0; out_after = p.1 }
