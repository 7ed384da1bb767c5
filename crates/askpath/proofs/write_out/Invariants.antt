use Prim.Native.Nat.{◌≤◌}
use Rattle.askpath.proofs.write_out.Given as goal

abbrev pub invariant-loop-turns : goal.invariant-loop-turns
invariant-loop-turns g l = l.p.done ≤ l.used

abbrev pub decreases-loop-turns : goal.decreases-loop-turns
decreases-loop-turns g l = l.turns
