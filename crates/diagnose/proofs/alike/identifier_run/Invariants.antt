-- `alike::identifier_run` meets its contract. The invariant: the run is i bytes longer than that of what is left.
use Prim.Native.Nat.{◌+◌}
use mathlib.Core.Path.{◌≡◌}
use lib.ListN.{drop}
use Rattle.identifiers.specs.Check.{identifier_byte}
use Rattle.diagnose.specs.Diagnosis.{until}
use Rattle.diagnose.proofs.alike.identifier_run.Given as goal

abbrev pub invariant-loop-i : goal.invariant-loop-i
invariant-loop-i l = until identifier_byte l.c ≡ l.i + until identifier_byte (drop l.i l.c)
