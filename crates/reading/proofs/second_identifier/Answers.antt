-- `second_identifier` meets its contract.
use mathlib.Core.Path.{sym, ap, ◌∙◌}
use Rattle.path.specs.View.{second_place}
use Rattle.path.specs.ViewLaws.{shows-at, view-second}
use Rattle.reading.proofs.second_identifier.Goals as goal

pub returns-in_default : goal.returns-in_default
returns-in_default c = shows-at _ _ _ _ (sym (ap second_place c.in_default.is)) c.part.ensures

pub returns : goal.returns
returns c = shows-at _ _ _ _ (view-second _ _ _ c.view-v.ensures ∙ sym (ap second_place c.in-Ok.is)) c.part-2.ensures
