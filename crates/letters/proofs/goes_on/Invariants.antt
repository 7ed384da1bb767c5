-- `letters::goes_on` meets its contract.
use mathlib.Core.Path.{◌≡◌}
use Prim.Native.Nat.{◌+◌, ◌-◌, ◌^◌, ◌≤◌, ◌<◌}
use lib.ListN.{length, drop}
use Rattle.letters.specs.Character.{goes_on}
use Rattle.letters.proofs.goes_on.Given as goal

abbrev pub invariant-loop-i : goal.invariant-loop-i
invariant-loop-i l =
    (l.at + l.i ≤ length l.s) × (l.value < 64 ^ (l.i + 1)) × (goes_on l.n (l.n + 1) l.least l.first (drop l.at l.s) ≡ goes_on (l.n - l.i) (l.n + 1) l.least l.value (drop (l.at + l.i) l.s))
