use mathlib.Core.Path.{◌≡◌}
use native.Mathlib.Omega.{arith}
use Rattle.writers.proofs.kinds.write_upgrades.Goals as goal

pub write_upgrade-requires : goal.write_upgrade-requires
write_upgrade-requires c = rw c.in-18.is at c.requires.2

pub write_upgrade-requires-in_default : goal.write_upgrade-requires-in_default
write_upgrade-requires-in_default c = let e : c.args.kind ≡ 19 = omega arith in rw e at c.requires.2

pub returns-in-18 : goal.returns-in-18
returns-in-18 c = rw c.in-18.is c.write_upgrade.ensures

pub returns-in_default : goal.returns-in_default
returns-in_default c = let e : c.args.kind ≡ 19 = omega arith in rw e c.write_upgrade-in_default.ensures
