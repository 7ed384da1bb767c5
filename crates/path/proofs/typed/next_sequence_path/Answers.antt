-- `typed::next_sequence_path` meets its contract.
use mathlib.Core.Path.{◌≡◌}
use Rattle.path.specs.Kinds.{carried, kinds}
use Rattle.path.specs.TypedLaws.{by_kind}
use native.Mathlib.Omega.{arith}
use Rattle.path.proofs.typed.next_sequence_path.Goals as goal

pub returns-in-1 : goal.returns-in-1
unfolding kinds
returns-in-1 c = by_kind c.args.v.kind 1 (carried c.args.v.first c.args.v.second c.args.v.a c.args.v.b) c.in-1.is

pub returns-in-2 : goal.returns-in-2
unfolding kinds
returns-in-2 c = by_kind c.args.v.kind 2 (carried c.args.v.first c.args.v.second c.args.v.a c.args.v.b) c.in-2.is

pub returns-in_default : goal.returns-in_default
unfolding kinds
returns-in_default c = let e : c.args.v.kind ≡ 3 = omega arith in by_kind c.args.v.kind 3 (carried c.args.v.first c.args.v.second c.args.v.a c.args.v.b) e
