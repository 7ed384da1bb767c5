use mathlib.Core.List.{[]}
use Rattle.text.specs.PutLaws.{gives_same}
use Rattle.path.specs.Kinds.{carried}
use Rattle.path.specs.Parents.{text_of, consensus_parent}
use Rattle.path.specs.Read.{name_fault}
use Rattle.render.specs.ParentLaws.{parent-wanted}
use Rattle.render.proofs.texts.consensus_state_parent.Goals as goal

pub returns : goal.returns
unfolding name_fault
returns c =
    let v = carried c.args.client.now [] 0 0 in
    let p = gives_same (text_of consensus_parent v) c.args.out.now (parent-wanted v) (c.checked_parent.ensures.value, c.checked_parent.ensures.out_after) in record { value = p.0; out_after = p.1 }
