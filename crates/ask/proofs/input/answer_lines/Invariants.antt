use mathlib.Core.Path.{◌≡◌}
use Prim.Native.Nat.{◌≤◌}
use lib.ListN.{length}
use Rattle.ask.specs.StepLaws.{Before}
use Rattle.ask.proofs.input.answer_lines.Given as goal

abbrev pub invariant-loop-i : goal.invariant-loop-i
invariant-loop-i l = (l.spot.start ≤ l.i) × (length l.out ≡ length l.initial.out) × Before l.why l.input l.initial.out l.from l.i l.spot.start l.spot.used l.out
