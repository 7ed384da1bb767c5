-- `typed::client_path` meets its contract.
use mathlib.Core.Path.{◌≡◌}
use Rattle.path.specs.Kinds.{carried, kinds}
use Rattle.path.specs.TypedLaws.{by_kind}
use native.Mathlib.Omega.{arith}
use Rattle.path.proofs.typed.client_path.Goals as goal

pub returns-in-4 : goal.returns-in-4
unfolding kinds
returns-in-4 c = by_kind c.args.v.kind 4 (carried c.args.v.first c.args.v.second c.args.v.a c.args.v.b) c.in-4.is

pub returns-in-5 : goal.returns-in-5
unfolding kinds
returns-in-5 c = by_kind c.args.v.kind 5 (carried c.args.v.first c.args.v.second c.args.v.a c.args.v.b) c.in-5.is

pub returns-in-6 : goal.returns-in-6
unfolding kinds
returns-in-6 c = by_kind c.args.v.kind 6 (carried c.args.v.first c.args.v.second c.args.v.a c.args.v.b) c.in-6.is

pub returns-in-7 : goal.returns-in-7
unfolding kinds
returns-in-7 c = by_kind c.args.v.kind 7 (carried c.args.v.first c.args.v.second c.args.v.a c.args.v.b) c.in-7.is

pub returns-in_default : goal.returns-in_default
unfolding kinds
returns-in_default c = let e : c.args.v.kind ≡ 8 = omega arith in by_kind c.args.v.kind 8 (carried c.args.v.first c.args.v.second c.args.v.a c.args.v.b) e
