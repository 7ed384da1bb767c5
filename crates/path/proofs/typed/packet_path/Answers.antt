-- `typed::packet_path` meets its contract.
use mathlib.Core.Path.{◌≡◌}
use Rattle.path.specs.Kinds.{carried, kinds}
use Rattle.path.specs.TypedLaws.{by_kind}
use native.Mathlib.Omega.{arith}
use Rattle.path.proofs.typed.packet_path.Goals as goal

pub returns-in-15 : goal.returns-in-15
unfolding kinds
returns-in-15 c = by_kind c.args.v.kind 15 (carried c.args.v.first c.args.v.second c.args.v.a c.args.v.b) c.in-15.is

pub returns-in-16 : goal.returns-in-16
unfolding kinds
returns-in-16 c = by_kind c.args.v.kind 16 (carried c.args.v.first c.args.v.second c.args.v.a c.args.v.b) c.in-16.is

pub returns-in_default : goal.returns-in_default
unfolding kinds
returns-in_default c = let e : c.args.v.kind ≡ 17 = omega arith in by_kind c.args.v.kind 17 (carried c.args.v.first c.args.v.second c.args.v.a c.args.v.b) e
