-- `text::part::all_ascii` meets its contract.
use mathlib.Core.Path.{◌≡◌}
use mathlib.Core.Bool.{true}
use Prim.Native.Nat.{◌-◌}
use lib.ListN.{take}
use Rattle.text.specs.Part.{ascii}
use Rattle.text.proofs.part.all_ascii.Given as goal

-- what stands before i is ASCII
abbrev pub invariant-loop-i : goal.invariant-loop-i
invariant-loop-i l = ascii (take l.i l.s) ≡ true

abbrev pub decreases-loop-i : goal.decreases-loop-i
decreases-loop-i l = l.last - l.i
