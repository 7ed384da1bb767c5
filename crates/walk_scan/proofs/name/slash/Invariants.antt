-- `slash` meets its contract.
use Prim.Native.Nat.{◌+◌}
use mathlib.Core.Path.{◌≡◌}
use lib.ListN.{drop}
use Rattle.walk_scan.specs.Number.{no_slash}
use Rattle.walk_scan.specs.Run.{run}
use Rattle.walk_scan.proofs.name.slash.Given as goal

abbrev pub invariant-loop-i : goal.invariant-loop-i
invariant-loop-i l = l.at + run no_slash (drop l.at l.s) ≡ l.i + run no_slash (drop l.i l.s)
