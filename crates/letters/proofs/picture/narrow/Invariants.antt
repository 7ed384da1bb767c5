-- `letters::picture::narrow` meets its contract.
use mathlib.Core.Path.{◌≡◌}
use Prim.Native.Nat.{◌-◌, ◌≤◌}
use lib.ListN.{length, drop}
use Rattle.text.specs.Put.{put}
use Rattle.letters.specs.Narrow.{narrow}
use Rattle.letters.proofs.picture.narrow.Given as goal

abbrev pub invariant-loop-i : goal.invariant-loop-i
invariant-loop-i l = (l.i ≤ length l.t) × (length l.out ≡ length l.initial.out) × (put l.initial.out 0 (narrow l.t) ≡ put l.out l.i (narrow (drop l.i l.t)))

abbrev pub decreases-loop-i : goal.decreases-loop-i
decreases-loop-i l = length l.t - l.i
