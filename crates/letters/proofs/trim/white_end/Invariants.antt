-- `letters::trim::white_end` meets its contract.
use mathlib.Core.Path.{◌≡◌}
use Prim.Native.Nat.{◌-◌, ◌≤◌}
use lib.ListN.{length, drop}
use Rattle.identifiers.specs.Owned.{trim_start}
use Rattle.letters.specs.Narrow.{narrow}
use Rattle.letters.proofs.trim.white_end.Given as goal

abbrev pub invariant-loop-i : goal.invariant-loop-i
invariant-loop-i l = (l.i ≤ length l.s) × (trim_start (narrow l.s) ≡ trim_start (narrow (drop l.i l.s)))

abbrev pub decreases-loop-i : goal.decreases-loop-i
decreases-loop-i l = length l.s - l.i
