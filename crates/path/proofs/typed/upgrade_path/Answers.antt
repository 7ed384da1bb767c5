-- `typed::upgrade_path` meets its contract.
use mathlib.Core.Path.{◌≡◌}
use Rattle.path.specs.Kinds.{carried, kinds}
use Rattle.path.specs.TypedLaws.{by_kind}
use native.Mathlib.Omega.{arith}
use Rattle.path.proofs.typed.upgrade_path.Goals as goal

pub returns-in-18 : goal.returns-in-18
unfolding kinds
returns-in-18 c = by_kind c.args.v.kind 18 (carried c.args.v.first c.args.v.second c.args.v.a c.args.v.b) c.in-18.is

pub returns-in_default : goal.returns-in_default
unfolding kinds
returns-in_default c = let e : c.args.v.kind ≡ 19 = omega arith in by_kind c.args.v.kind 19 (carried c.args.v.first c.args.v.second c.args.v.a c.args.v.b) e
