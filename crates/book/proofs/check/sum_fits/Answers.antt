-- `book::check::sum_fits` meets its contract.
use Prim.Native.Nat.{◌+◌, ◌-◌, ◌≤◌}
use Rattle.book_form.specs.Tells.{tells_false}
use Rattle.book.specs.CheckWayLaws.{tells-leb}
use native.Mathlib.Omega.{arith}
use Rattle.book.proofs.check.sum_fits.Goals as goal

pub returns-then-slots-one : goal.returns-then-slots-one
returns-then-slots-one c = tells_false (λ s. let q : c.args.quotas.one + c.args.quotas.two ≤ c.args.slots = s in omega arith)

pub returns : goal.returns
returns c = tells-leb c.args.quotas.two (c.args.slots - c.args.quotas.one) _ (λ l. let q : c.args.quotas.one + c.args.quotas.two ≤ c.args.slots = omega arith in q) (λ s. let q : c.args.quotas.one + c.args.quotas.two ≤ c.args.slots = s in omega arith)
