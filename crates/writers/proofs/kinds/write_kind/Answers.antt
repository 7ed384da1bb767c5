use Rattle.path.specs.Kinds.{carried}
use Rattle.writers.specs.TextLaws.{sequence-text, client-text, channel-text, packet-text, upgrade-text}
use native.Mathlib.Omega.{arith}
use Rattle.writers.proofs.kinds.write_kind.Goals as goal

pub write_next_sequence-requires : goal.write_next_sequence-requires
write_next_sequence-requires c = (omega arith, omega arith, rw (sequence-text (carried c.args.first.now c.args.second.now c.args.a c.args.b) c.args.kind (omega arith) (omega arith)) at c.requires.2)

pub returns-then-kind-lt4 : goal.returns-then-kind-lt4
returns-then-kind-lt4 c = rw (sequence-text (carried c.args.first.now c.args.second.now c.args.a c.args.b) c.args.kind (omega arith) (omega arith)) c.write_next_sequence.ensures

pub write_clients-requires : goal.write_clients-requires
write_clients-requires c = (omega arith, omega arith, rw (client-text (carried c.args.first.now c.args.second.now c.args.a c.args.b) c.args.kind (omega arith) (omega arith)) at c.requires.2)

pub returns-then-kind-lt9 : goal.returns-then-kind-lt9
returns-then-kind-lt9 c = rw (client-text (carried c.args.first.now c.args.second.now c.args.a c.args.b) c.args.kind (omega arith) (omega arith)) c.write_clients.ensures

pub write_channels-requires : goal.write_channels-requires
write_channels-requires c = (omega arith, omega arith, rw (channel-text (carried c.args.first.now c.args.second.now c.args.a c.args.b) c.args.kind (omega arith) (omega arith)) at c.requires.2)

pub returns-then-kind-lt15 : goal.returns-then-kind-lt15
returns-then-kind-lt15 c = rw (channel-text (carried c.args.first.now c.args.second.now c.args.a c.args.b) c.args.kind (omega arith) (omega arith)) c.write_channels.ensures

pub write_packets-requires : goal.write_packets-requires
write_packets-requires c = (omega arith, omega arith, rw (packet-text (carried c.args.first.now c.args.second.now c.args.a c.args.b) c.args.kind (omega arith) (omega arith)) at c.requires.2)

pub returns-then-kind-lt18 : goal.returns-then-kind-lt18
returns-then-kind-lt18 c = rw (packet-text (carried c.args.first.now c.args.second.now c.args.a c.args.b) c.args.kind (omega arith) (omega arith)) c.write_packets.ensures

pub write_upgrades-requires : goal.write_upgrades-requires
write_upgrades-requires c = (omega arith, omega arith, rw (upgrade-text (carried c.args.first.now c.args.second.now c.args.a c.args.b) c.args.kind (omega arith) (omega arith)) at c.requires.2)

pub returns : goal.returns
returns c = rw (upgrade-text (carried c.args.first.now c.args.second.now c.args.a c.args.b) c.args.kind (omega arith) (omega arith)) c.write_upgrades.ensures
