-- `ports` meets its contract.
use mathlib.Core.Path.{refl, sym, ◌∙◌}
use Rattle.text.specs.Bytes.{bytes}
use Rattle.walk_scan.specs.WordLaws.{starts-room}
use Rattle.walk.specs.ArmLaws.{is_10, not_10}
use Rattle.walk.proofs.dispatch.ports.Goals as goal

pub port-requires : goal.port-requires
port-requires c = starts-room (bytes "ports/") c.args.text.now (sym c.is_ports.ensures ∙ c.if-is_ports.true)

pub returns-then-is_ports : goal.returns-then-is_ports
returns-then-is_ports c = is_10 c.args.text.now c.port.result (sym c.is_ports.ensures ∙ c.if-is_ports.true) c.port.ensures

pub returns : goal.returns
returns c = not_10 c.args.text.now _ (sym c.is_ports.ensures ∙ c.if-is_ports.false) refl
