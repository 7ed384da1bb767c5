-- `unsigned` meets its contract.
use mathlib.Core.Path.{sym, ◌∙◌}
use lib.ListN.{drop}
use Rattle.walk_scan.specs.CountLaws.{free-none, free-empty, free-some, first-at}
use native.Mathlib.Omega.{arith}
use Rattle.walk_scan.proofs.number.unsigned.Goals as goal

pub returns-in_err-f : goal.returns-in_err-f
returns-in_err-f c = c.from_residual.ensures ∙ free-none c.args.at (drop c.args.at c.args.s.now) c.requires.s_value (sym c.in_err-f.was ∙ c.digits.ensures)

pub returns-then-f-at : goal.returns-then-f-at
returns-then-f-at c = free-empty c.args.at (drop c.args.at c.args.s.now) c.requires.s_value c.in_ok-f.f (sym c.in_ok-f.was ∙ c.digits.ensures) c.if-f-at.true

pub returns : goal.returns
returns c = free-some c.args.at (drop c.args.at c.args.s.now) c.requires.s_value c.in_ok-f.f (sym c.in_ok-f.was ∙ c.digits.ensures) (λ e. omega (arith, c.if-f-at.false)) _ (first-at c.args.s.now c.args.at) _ c.is_plain.ensures
