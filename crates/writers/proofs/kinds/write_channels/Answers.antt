use mathlib.Core.Path.{◌≡◌}
use native.Mathlib.Omega.{arith}
use Rattle.writers.proofs.kinds.write_channels.Goals as goal

pub write_two-requires : goal.write_two-requires
write_two-requires c = rw c.in-9.is at c.requires.2

pub write_two-requires-in-10 : goal.write_two-requires-in-10
write_two-requires-in-10 c = rw c.in-10.is at c.requires.2

pub write_ends-requires : goal.write_ends-requires
write_ends-requires c = rw c.in-11.is at c.requires.2

pub write_ends-requires-in-12 : goal.write_ends-requires-in-12
write_ends-requires-in-12 c = rw c.in-12.is at c.requires.2

pub write_ends-requires-in-13 : goal.write_ends-requires-in-13
write_ends-requires-in-13 c = rw c.in-13.is at c.requires.2

pub write_ends-requires-in_default : goal.write_ends-requires-in_default
write_ends-requires-in_default c = let e : c.args.kind ≡ 14 = omega arith in rw e at c.requires.2

pub returns-in-9 : goal.returns-in-9
returns-in-9 c = rw c.in-9.is c.write_two.ensures

pub returns-in-10 : goal.returns-in-10
returns-in-10 c = rw c.in-10.is c.write_two-in-10.ensures

pub returns-in-11 : goal.returns-in-11
returns-in-11 c = rw c.in-11.is c.write_ends.ensures

pub returns-in-12 : goal.returns-in-12
returns-in-12 c = rw c.in-12.is c.write_ends-in-12.ensures

pub returns-in-13 : goal.returns-in-13
returns-in-13 c = rw c.in-13.is c.write_ends-in-13.ensures

pub returns-in_default : goal.returns-in_default
returns-in_default c = let e : c.args.kind ≡ 14 = omega arith in rw e c.write_ends-in_default.ensures
