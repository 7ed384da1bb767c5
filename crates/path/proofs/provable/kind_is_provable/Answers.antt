-- `provable::kind_is_provable` meets its contract.
use Rattle.std.specs.Prelude.{◌≡◌, refl, Bool, true, false, cond}
use mir.Val.{bool_byte}
use native.Mathlib.Omega.{arith}
use borrow.Author.Tests.{le-leb, lt-leb}
use Rattle.path.specs.View.{provable_flag}
use Rattle.path.proofs.provable.kind_is_provable.Goals as goal

as_byte : (b : Bool) → bool_byte b ≡ cond b 1 0
as_byte true = refl
as_byte false = refl

pub returns-in-1-to-19 : goal.returns-in-1-to-19
unfolding provable_flag
returns-in-1-to-19 c = rw (le-leb 1 c.args.kind (omega arith), le-leb c.args.kind 19 (omega arith), c.from.ensures, as_byte, c.provable_kind.ensures)

pub returns-in_default : goal.returns-in_default
unfolding provable_flag
returns-in_default c = rw (lt-leb 1 c.args.kind (omega arith))

pub returns-in_default-2 : goal.returns-in_default-2
unfolding provable_flag
returns-in_default-2 c = rw (le-leb 1 c.args.kind (omega arith), lt-leb c.args.kind 19 (omega arith))
