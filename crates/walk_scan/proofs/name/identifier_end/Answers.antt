use mathlib.Core.Path.{refl, sym, ◌∙◌}
use Rattle.identifiers.specs.Check.{identifier_byte}
use Rattle.walk_scan.specs.RunLaws.{run_none, run-stop, run_more}
use native.Mathlib.Omega.{arith}
use Rattle.walk_scan.proofs.name.identifier_end.Goals as goal

pub loop-i-init : goal.loop-i-init
loop-i-init c = refl

pub loop-i-preserved : goal.loop-i-preserved
loop-i-preserved c = omega (arith, run_more identifier_byte c.args.s.now c.loop-i.i (omega arith) (sym c.is_identifier_byte.ensures ∙ c.if-not-is_identifier_byte.false), c.loop-i.invariant)

pub returns-then-not-is_identifier_byte : goal.returns-then-not-is_identifier_byte
returns-then-not-is_identifier_byte c = let e = run-stop identifier_byte c.args.s.now c.loop-i.i (omega arith) (sym c.is_identifier_byte.ensures ∙ c.if-not-is_identifier_byte.true) in (omega arith, omega arith, omega (arith, e, c.loop-i.invariant))

pub returns : goal.returns
returns c = let e = run_none identifier_byte c.args.s.now c.loop-i.i (omega arith) in (omega arith, omega arith, omega (arith, e, c.loop-i.invariant))
