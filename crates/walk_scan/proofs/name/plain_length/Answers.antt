-- `plain_length` meets its contract.
use lib.ListN.{drop}
use Rattle.identifiers.specs.Check.{plain}
use Rattle.walk_scan.specs.RunLaws.{nonzero-none, nonzero-some}
use Rattle.walk_scan.specs.NameLaws.{rule_empty, rule-less, rule-more, rule-plain}
use native.Mathlib.Omega.{arith}
use Rattle.walk_scan.proofs.name.plain_length.Goals.{then-n-eq0-via-then-n-eq0, then-n-eq0-via-else-n-eq0+then-n-least, then-n-eq0-via-else-n-eq0+else-n-least+then-most-n}
use Rattle.walk_scan.proofs.name.plain_length.Goals as goal

pub returns-then-n-eq0 : goal.returns-then-n-eq0
returns-then-n-eq0 c = (
  tt,
  nonzero-none _ (elim c.then-n-eq0.branch [
    | then-n-eq0-via-then-n-eq0 w ↦ rule_empty (record { least = c.args.least; most = c.args.most; form = plain }) (drop c.args.at c.args.s.now) (omega (arith, c.identifier_end.ensures.2, w.if-n-eq0.true))
    | then-n-eq0-via-else-n-eq0+then-n-least w ↦ rule-less (record { least = c.args.least; most = c.args.most; form = plain }) (drop c.args.at c.args.s.now) (omega (arith, c.identifier_end.ensures.2, w.if-n-least.true))
    | then-n-eq0-via-else-n-eq0+else-n-least+then-most-n w ↦ rule-more (record { least = c.args.least; most = c.args.most; form = plain }) (drop c.args.at c.args.s.now) (omega (arith, c.identifier_end.ensures.2, w.if-most-n.true))
  ]),
)

pub returns : goal.returns
returns c =
    let f = rule-plain c.args.least c.args.most (drop c.args.at c.args.s.now) (omega (arith, c.identifier_end.ensures.2)) (omega (arith, c.identifier_end.ensures.2)) in
    (omega (arith, c.identifier_end.ensures.1), nonzero-some _ _ c.if-n-eq0.false (omega (arith, c.identifier_end.ensures.2, f)))
