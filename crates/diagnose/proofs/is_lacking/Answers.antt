-- `is_lacking` meets its contract.
use mathlib.Core.Path.{sym, ◌∙◌}
use borrow.Author.Tests.{eqb-true, eqb-false}
use Rattle.diagnose.specs.ShapeLaws.{lacks-nothing, lacks-count, lacks-other}
use Rattle.diagnose.specs.Table.{part_in}
use Rattle.diagnose.proofs.is_lacking.Goals as goal

pub returns-then-not-is_empty : goal.returns-then-not-is_empty
returns-then-not-is_empty c = lacks-nothing (part_in c.args.w.now) c.args.c.now (eqb-false _ 0 (sym c.is_empty.ensures ∙ c.if-not-is_empty.true))

pub returns-in-Count : goal.returns-in-Count
returns-in-Count c = lacks-count c.args.w.now c.args.c.now _ c.shape_of.ensures (eqb-true _ 0 (sym c.is_empty.ensures ∙ c.if-not-is_empty.false)) c.in-Count.is

pub returns-in_default : goal.returns-in_default
returns-in_default c = lacks-other c.args.w.now c.args.c.now _ c.shape_of.ensures (eqb-true _ 0 (sym c.is_empty.ensures ∙ c.if-not-is_empty.false)) c.in_default.not-Count
