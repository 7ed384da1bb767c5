-- `first_identifier` meets its contract.
use mathlib.Core.Path.{sym, ap, ◌∙◌}
use Rattle.path.specs.View.{first_place}
use Rattle.path.specs.ViewLaws.{shows-at, view_first}
use Rattle.reading.proofs.first_identifier.Goals as goal

pub returns-in_default : goal.returns-in_default
returns-in_default c = shows-at _ _ _ _ (sym (ap first_place c.in_default.is)) c.part.ensures

pub returns : goal.returns
returns c = shows-at _ _ _ _ (view_first _ _ _ c.view-v.ensures ∙ sym (ap first_place c.in-Ok.is)) c.part-2.ensures
