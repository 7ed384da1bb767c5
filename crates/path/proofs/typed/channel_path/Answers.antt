-- `typed::channel_path` meets its contract.
use mathlib.Core.Path.{◌≡◌}
use Rattle.path.specs.Kinds.{carried, kinds}
use Rattle.path.specs.TypedLaws.{by_kind}
use native.Mathlib.Omega.{arith}
use Rattle.path.proofs.typed.channel_path.Goals as goal

pub returns-in-9 : goal.returns-in-9
unfolding kinds
returns-in-9 c = by_kind c.args.v.kind 9 (carried c.args.v.first c.args.v.second c.args.v.a c.args.v.b) c.in-9.is

pub returns-in-10 : goal.returns-in-10
unfolding kinds
returns-in-10 c = by_kind c.args.v.kind 10 (carried c.args.v.first c.args.v.second c.args.v.a c.args.v.b) c.in-10.is

pub returns-in-11 : goal.returns-in-11
unfolding kinds
returns-in-11 c = by_kind c.args.v.kind 11 (carried c.args.v.first c.args.v.second c.args.v.a c.args.v.b) c.in-11.is

pub returns-in-12 : goal.returns-in-12
unfolding kinds
returns-in-12 c = by_kind c.args.v.kind 12 (carried c.args.v.first c.args.v.second c.args.v.a c.args.v.b) c.in-12.is

pub returns-in-13 : goal.returns-in-13
unfolding kinds
returns-in-13 c = by_kind c.args.v.kind 13 (carried c.args.v.first c.args.v.second c.args.v.a c.args.v.b) c.in-13.is

pub returns-in_default : goal.returns-in_default
unfolding kinds
returns-in_default c = let e : c.args.v.kind ≡ 14 = omega arith in by_kind c.args.v.kind 14 (carried c.args.v.first c.args.v.second c.args.v.a c.args.v.b) e
