use mathlib.Core.Path.{◌≡◌}
use mathlib.Core.Bool.{◌&&◌}
use lib.Dec.{eqb}
use lib.ListN.{length, drop}
use Rattle.text.specs.Part.{same}
use Rattle.text.proofs.part.equal.Given as goal

abbrev pub invariant-loop-i : goal.invariant-loop-i
invariant-loop-i l = (length l.a ≡ length l.b) × (same l.a l.b ≡ (eqb l.differ 0 && same (drop l.i l.a) (drop l.i l.b)))
