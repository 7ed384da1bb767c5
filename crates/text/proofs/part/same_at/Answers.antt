use Rattle.std.proofs.Common.{◌∙◌}
use Rattle.text.specs.PartLaws.{part-rest, starts-pointwise}
use Rattle.text.proofs.part.same_at.Goals as goal

pub returns : goal.returns
returns c = rw (part-rest c.args.at c.args.s.now) at c.starts_with.ensures.value ∙ starts-pointwise _ _
