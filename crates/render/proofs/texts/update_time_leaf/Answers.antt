use mathlib.Core.List.{[], ◌∷◌}
use Rattle.text.specs.Bytes.{bytes}
use Rattle.text.specs.PutLaws.{gives_same}
use Rattle.path.specs.Kinds.{word, carried}
use Rattle.path.specs.Parents.{text_of, consensus_leaf}
use Rattle.render.specs.ParentLaws.{below-wanted}
use Rattle.render.proofs.texts.update_time_leaf.Goals as goal

pub returns : goal.returns
returns c =
    let v = carried [] [] c.args.number.0 c.args.height.0 in
    let p = gives_same (text_of (consensus_leaf (word (bytes "processedTime") ∷ [])) v) c.args.out.now (below-wanted v (bytes "processedTime")) (c.fit_leaf.ensures.value, c.fit_leaf.ensures.out_after) in record { value = p.0; out_after = p.1 }
