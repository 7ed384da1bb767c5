-- `book::check::shares_fit` meets its contract.
use Prim.Native.Nat.{◌-◌}
use Rattle.book_form.specs.Tells.{tells_false}
use Rattle.book.specs.CheckWayLaws.{tells-leb}
use native.Mathlib.Omega.{arith}
use Rattle.book.proofs.check.shares_fit.Goals as goal

pub returns-then-quotas-first : goal.returns-then-quotas-first
returns-then-quotas-first c = tells_false (λ s. omega (arith, s.one, c.if-quotas-first.true))

pub returns : goal.returns
returns c = tells-leb (c.args.n - c.args.first) c.args.quotas.two _ (λ l. record { one = omega arith; two = omega arith }) (λ s. omega (arith, s.two))
