use mathlib.Core.Path.{◌≡◌}
use native.Mathlib.Omega.{arith}
use Rattle.writers.proofs.kinds.write_clients.Goals as goal

pub write_client-requires : goal.write_client-requires
write_client-requires c = rw c.in-4.is at c.requires.2

pub write_consensus-requires : goal.write_consensus-requires
write_consensus-requires c = rw c.in-5.is at c.requires.2

pub write_consensus-requires-in-6 : goal.write_consensus-requires-in-6
write_consensus-requires-in-6 c = rw c.in-6.is at c.requires.2

pub write_consensus-requires-in-7 : goal.write_consensus-requires-in-7
write_consensus-requires-in-7 c = rw c.in-7.is at c.requires.2

pub write_client-requires-in_default : goal.write_client-requires-in_default
write_client-requires-in_default c = let e : c.args.kind ≡ 8 = omega arith in rw e at c.requires.2

pub returns-in-4 : goal.returns-in-4
returns-in-4 c = rw c.in-4.is c.write_client.ensures

pub returns-in-5 : goal.returns-in-5
returns-in-5 c = rw c.in-5.is c.write_consensus.ensures

pub returns-in-6 : goal.returns-in-6
returns-in-6 c = rw c.in-6.is c.write_consensus-in-6.ensures

pub returns-in-7 : goal.returns-in-7
returns-in-7 c = rw c.in-7.is c.write_consensus-in-7.ensures

pub returns-in_default : goal.returns-in_default
returns-in_default c = let e : c.args.kind ≡ 8 = omega arith in rw e c.write_client-in_default.ensures
