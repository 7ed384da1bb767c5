-- `wide::rendering::upgrade_fault` meets its contract.
use mathlib.Core.Path.{sym, ◌∙◌}
use Rattle.wide.specs.Mode.{wide}
use Rattle.wide.specs.Render.{name_fault_in}
use Rattle.wide.proofs.rendering.upgrade_fault.Goals as goal

pub returns-then-not-is_utf8 : goal.returns-then-not-is_utf8
unfolding wide name_fault_in
returns-then-not-is_utf8 c = let e = sym c.is_utf8.ensures ∙ c.if-not-is_utf8.true in rw e

pub returns-then-not-no_slash : goal.returns-then-not-no_slash
unfolding wide name_fault_in
returns-then-not-no_slash c = let e = sym c.is_utf8.ensures ∙ c.if-not-is_utf8.false in let f = sym c.no_slash.ensures ∙ c.if-not-no_slash.true in rw (e, f)

pub returns : goal.returns
unfolding wide name_fault_in
returns c = let e = sym c.is_utf8.ensures ∙ c.if-not-is_utf8.false in let f = sym c.no_slash.ensures ∙ c.if-not-no_slash.false in rw (e, f)
