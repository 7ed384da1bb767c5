use mathlib.Core.Path.{◌≡◌}
use mathlib.Core.List.{◌++◌}
use Prim.Native.Nat.{◌+◌}
use lib.ListN.{length, take, drop}
use Rattle.text.proofs.put.write_text.Given as goal

abbrev pub invariant-loop-i : goal.invariant-loop-i
invariant-loop-i l =
    (length l.out ≡ length l.initial.out)
    × (take l.at l.initial.out ++ (l.src ++ drop (l.at + length l.src) l.initial.out) ≡ take (l.at + l.i) l.out ++ (drop l.i l.src ++ drop (l.at + length l.src) l.out))
