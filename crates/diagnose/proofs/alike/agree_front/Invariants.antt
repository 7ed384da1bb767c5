-- `alike::agree_front` meets its contract. The invariant: the texts agree i bytes before what is left of them.
use Prim.Native.Nat.{◌+◌}
use mathlib.Core.Path.{◌≡◌}
use lib.ListN.{drop}
use Rattle.diagnose.specs.Diagnosis.{agree}
use Rattle.diagnose.proofs.alike.agree_front.Given as goal

abbrev pub invariant-loop-i : goal.invariant-loop-i
invariant-loop-i l = agree l.fold l.a l.b ≡ l.i + agree l.fold (drop l.i l.a) (drop l.i l.b)
