use mathlib.Core.Path.{sym, ◌∙◌}
use Rattle.path.specs.Read.{name_fault}
use Rattle.path.proofs.name.upgrade_fault.Goals as goal

pub returns-then-not-all_ascii : goal.returns-then-not-all_ascii
unfolding name_fault
returns-then-not-all_ascii c = let e = sym c.all_ascii.ensures ∙ c.if-not-all_ascii.true in rw e

pub returns-then-not-no_slash : goal.returns-then-not-no_slash
unfolding name_fault
returns-then-not-no_slash c = let e = sym c.all_ascii.ensures ∙ c.if-not-all_ascii.false in let f = sym c.no_slash.ensures ∙ c.if-not-no_slash.true in rw (e, f)

pub returns : goal.returns
unfolding name_fault
returns c = let e = sym c.all_ascii.ensures ∙ c.if-not-all_ascii.false in let f = sym c.no_slash.ensures ∙ c.if-not-no_slash.false in rw (e, f)
