use mathlib.Core.Path.{◌≡◌}
use native.Mathlib.Omega.{arith}
use Rattle.writers.proofs.kinds.write_packets.Goals as goal

pub write_packet-requires : goal.write_packet-requires
write_packet-requires c = rw c.in-15.is at c.requires.2

pub write_packet-requires-in-16 : goal.write_packet-requires-in-16
write_packet-requires-in-16 c = rw c.in-16.is at c.requires.2

pub write_packet-requires-in_default : goal.write_packet-requires-in_default
write_packet-requires-in_default c = let e : c.args.kind ≡ 17 = omega arith in rw e at c.requires.2

pub returns-in-15 : goal.returns-in-15
returns-in-15 c = rw c.in-15.is c.write_packet.ensures

pub returns-in-16 : goal.returns-in-16
returns-in-16 c = rw c.in-16.is c.write_packet-in-16.ensures

pub returns-in_default : goal.returns-in_default
returns-in_default c = let e : c.args.kind ≡ 17 = omega arith in rw e c.write_packet-in_default.ensures
