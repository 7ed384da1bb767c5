-- `letters::trim::text_end` meets its contract.
use mathlib.Core.Path.{◌≡◌}
use Prim.Native.Nat.{◌-◌, ◌≤◌}
use lib.ListN.{length, drop}
use Rattle.identifiers.specs.Owned.{trim_end}
use Rattle.letters.specs.Narrow.{narrow}
use Rattle.letters.specs.TextLaws.{end_at}
use Rattle.letters.proofs.trim.text_end.Given as goal

abbrev pub invariant-loop-i : goal.invariant-loop-i
invariant-loop-i l = (l.i ≤ length l.s) × (length (trim_end (narrow l.s)) ≡ end_at l.end l.i (length (trim_end (narrow (drop l.i l.s)))))

abbrev pub decreases-loop-i : goal.decreases-loop-i
decreases-loop-i l = length l.s - l.i
