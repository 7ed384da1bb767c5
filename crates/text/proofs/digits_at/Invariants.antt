-- `text::digits_at` meets its contract.
use mathlib.Core.Path.{◌≡◌}
use Prim.Native.Nat.{◌<◌, ◌^◌}
use lib.ListN.{drop}
use Rattle.text.specs.Number.{digits_from, digits_at}
use Rattle.text.proofs.digits_at.Given as goal

-- what the whole says is what the rest says after the value so far
abbrev pub invariant-loop-i : goal.invariant-loop-i
invariant-loop-i l = (l.v < 2 ^ 64) × (digits_at l.start (drop l.start l.s) ≡ digits_from l.v l.i (drop l.i l.s))
