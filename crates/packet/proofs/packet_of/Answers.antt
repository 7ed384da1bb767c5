-- `packet::packet_of` meets its contract.
use mathlib.Core.Path.{sym, ap}
use Rattle.packet.specs.Key.{packet_of}
use Rattle.packet.proofs.packet_of.Goals as goal

pub returns-in-Ok : goal.returns-in-Ok
returns-in-Ok c = rw c.marker_of.ensures (sym (ap packet_of c.in-Ok.is))

pub returns-in-Err : goal.returns-in-Err
returns-in-Err c = sym (ap packet_of c.in-Err.is)
