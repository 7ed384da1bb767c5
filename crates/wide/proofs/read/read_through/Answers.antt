-- `wide::read::read_through` meets its contract.
use mathlib.Core.Path.{ap, ◌∙◌}
use Rattle.path.specs.Read.{read_path}
use Rattle.wide.specs.StepLaws.{picture-part}
use Rattle.wide.proofs.read.read_through.Goals as goal

pub returns : goal.returns
returns c =
    c.walk_path.ensures ∙ ap read_path (picture-part _ _ _ _ c.narrow-end.ensures.value c.narrow-end.ensures.out_after)
