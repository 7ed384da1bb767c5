use mathlib.Core.Bool.{not}
use borrow.Author.Tests.{eq-eqb, ne_eqb}
use mathlib.Core.Path.{refl, ap}
use Rattle.walk_scan.specs.Number.{no_slash}
use Rattle.walk_scan.specs.RunLaws.{run_none, run-stop, run_more}
use native.Mathlib.Omega.{arith}
use Rattle.walk_scan.proofs.name.slash.Goals as goal

pub loop-i-init : goal.loop-i-init
loop-i-init c = refl

pub loop-i-preserved : goal.loop-i-preserved
loop-i-preserved c = omega (arith, run_more no_slash c.args.s.now c.loop-i.i (omega arith) (ap not (ne_eqb _ _ c.if-s-i-eq47.false)), c.loop-i.invariant)

pub returns-then-s-i-eq47 : goal.returns-then-s-i-eq47
returns-then-s-i-eq47 c = let e = run-stop no_slash c.args.s.now c.loop-i.i (omega arith) (ap not (eq-eqb _ _ c.if-s-i-eq47.true)) in (omega arith, omega arith, omega (arith, e, c.loop-i.invariant))

pub returns : goal.returns
returns c = let e = run_none no_slash c.args.s.now c.loop-i.i (omega arith) in (omega arith, omega arith, omega (arith, e, c.loop-i.invariant))
