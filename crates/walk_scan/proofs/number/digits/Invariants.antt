-- `digits` meets its contract.
use mathlib.Core.Path.{◌≡◌}
use lib.ListN.{drop}
use Rattle.walk_scan.specs.Number.{figures}
use Rattle.walk_scan.proofs.number.digits.Given as goal

abbrev pub invariant-loop-i : goal.invariant-loop-i
invariant-loop-i l = figures 0 l.at (drop l.at l.s) ≡ figures l.value l.i (drop l.i l.s)
