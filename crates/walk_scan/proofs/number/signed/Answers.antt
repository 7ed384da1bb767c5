-- `signed` meets its contract.
use mathlib.Core.Path.{sym, ◌∙◌}
use lib.ListN.{drop}
use lib.Seq.{drop-drop}
use Rattle.walk_scan.specs.CountLaws.{sign-none, sign-empty, sign-some}
use Rattle.walk_scan.proofs.number.signed.Goals as goal

pub returns-in_err-f : goal.returns-in_err-f
returns-in_err-f c = c.from_residual.ensures ∙ sign-none c.args.at (drop c.args.at c.args.s.now) c.requires.s_value (sym c.in_err-f.was ∙ c.digits.ensures ∙ rw (drop-drop 1 c.args.at c.args.s.now))

pub returns-then-f-at : goal.returns-then-f-at
returns-then-f-at c = sign-empty c.args.at (drop c.args.at c.args.s.now) c.requires.s_value c.in_ok-f.f (sym c.in_ok-f.was ∙ c.digits.ensures ∙ rw (drop-drop 1 c.args.at c.args.s.now)) c.if-f-at.true

pub returns : goal.returns
returns c = sign-some c.args.at (drop c.args.at c.args.s.now) c.requires.s_value c.in_ok-f.f (sym c.in_ok-f.was ∙ c.digits.ensures ∙ rw (drop-drop 1 c.args.at c.args.s.now)) c.if-f-at.false
