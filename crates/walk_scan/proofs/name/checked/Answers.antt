-- `checked` meets its contract.
use Prim.Native.Nat.{◌-◌}
use mathlib.Core.Path.{◌≡◌}
use lib.ListN.{drop}
use Rattle.identifiers.specs.Check.{identifier_byte}
use Rattle.walk_scan.specs.Run.{run}
use Rattle.walk_scan.specs.RunLaws.{nonzero-none, nonzero-some}
use Rattle.walk_scan.specs.NameLaws.{name_empty, name-refused, name-accepted}
use native.Mathlib.Omega.{arith}
use Rattle.walk_scan.proofs.name.checked.Goals.{then-end-at-via-then-end-at, then-end-at-via-else-end-at+then-name_fault-ne0}
use Rattle.walk_scan.proofs.name.checked.Goals as goal

pub returns-then-end-at : goal.returns-then-end-at
returns-then-end-at c =
    let n : c.identifier_end-end.result - c.args.at ≡ run identifier_byte (drop c.args.at c.args.s.now) = omega (arith, c.identifier_end-end.ensures.2) in (
      tt,
      nonzero-none _ (elim c.then-end-at.branch [
        | then-end-at-via-then-end-at w ↦ name_empty c.args.name (drop c.args.at c.args.s.now) (omega (arith, n, w.if-end-at.true))
        | then-end-at-via-else-end-at+then-name_fault-ne0 w ↦ name-refused c.args.name (drop c.args.at c.args.s.now) _ _ n w.name_fault.ensures w.if-name_fault-ne0.true
      ]),
    )

pub returns : goal.returns
returns c =
    let n : c.identifier_end-end.result - c.args.at ≡ run identifier_byte (drop c.args.at c.args.s.now) = omega (arith, c.identifier_end-end.ensures.2) in
    (omega (arith, c.identifier_end-end.ensures.1, c.identifier_end-end.ensures.0), nonzero-some _ _ (λ z. omega (arith, z, c.if-end-at.false, c.identifier_end-end.ensures.0)) (name-accepted c.args.name (drop c.args.at c.args.s.now) _ _ n c.name_fault.ensures c.if-name_fault-ne0.false))
