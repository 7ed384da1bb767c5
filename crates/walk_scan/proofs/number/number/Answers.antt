-- `number` meets its contract.
use mathlib.Core.Path.{◌∙◌}
use borrow.Author.Tests.{eq-eqb, ne_eqb}
use Rattle.walk_scan.specs.CountLaws.{count-end, count-byte}
use native.Mathlib.Omega.{arith}
use Rattle.walk_scan.proofs.number.number.Goals as goal

pub returns-then-at-s : goal.returns-then-at-s
returns-then-at-s c = count-end c.args.s.now c.args.at (omega arith)

pub signed-requires : goal.signed-requires
signed-requires c = record {
  at_in_bounds = omega arith;
  s_value = count-byte c.args.s.now c.args.at (omega arith) ∙ eq-eqb _ 43 c.if-s-at-eq43.true;
}

pub unsigned-requires : goal.unsigned-requires
unsigned-requires c = record {
  at_in_bounds = omega arith;
  s_value = count-byte c.args.s.now c.args.at (omega arith) ∙ ne_eqb _ 43 c.if-s-at-eq43.false;
}
