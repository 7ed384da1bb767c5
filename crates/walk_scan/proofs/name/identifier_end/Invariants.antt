-- `identifier_end` meets its contract.
use Prim.Native.Nat.{◌+◌}
use mathlib.Core.Path.{◌≡◌}
use lib.ListN.{drop}
use Rattle.identifiers.specs.Check.{identifier_byte}
use Rattle.walk_scan.specs.Run.{run}
use Rattle.walk_scan.proofs.name.identifier_end.Given as goal

abbrev pub invariant-loop-i : goal.invariant-loop-i
invariant-loop-i l = l.at + run identifier_byte (drop l.at l.s) ≡ l.i + run identifier_byte (drop l.i l.s)
