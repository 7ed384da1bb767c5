-- `packet::client_identifier` meets its contract.
use mathlib.Core.Path.{sym, ap}
use Rattle.path.specs.ViewLaws.{shows-at}
use Rattle.packet.specs.Key.{client_place}
use Rattle.packet.proofs.client_identifier.Goals as goal

pub returns-in_default : goal.returns-in_default
returns-in_default c = shows-at _ _ _ _ (sym (ap client_place c.in_default.is)) c.part.ensures

pub returns : goal.returns
returns c = shows-at _ _ _ _ (sym (ap client_place c.in-Ok.is)) c.part-2.ensures
