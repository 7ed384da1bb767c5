-- `connections` meets its contract.
use mathlib.Core.Path.{refl, sym, ◌∙◌}
use Rattle.text.specs.Bytes.{bytes}
use Rattle.walk_scan.specs.WordLaws.{starts-room}
use Rattle.walk.specs.ArmLaws.{is_9, not_9}
use Rattle.walk.proofs.dispatch.connections.Goals as goal

pub connection-requires : goal.connection-requires
connection-requires c = starts-room (bytes "connections/") c.args.text.now (sym c.is_connections.ensures ∙ c.if-is_connections.true)

pub returns-then-is_connections : goal.returns-then-is_connections
returns-then-is_connections c = is_9 c.args.text.now c.connection.result (sym c.is_connections.ensures ∙ c.if-is_connections.true) c.connection.ensures

pub returns : goal.returns
returns c = not_9 c.args.text.now _ c.requires (sym c.is_connections.ensures ∙ c.if-is_connections.false) refl
