-- `alike::agree_back` meets its contract. The invariant: turned round, the texts agree i bytes before what is left of them.
use Prim.Native.Nat.{◌+◌}
use mathlib.Core.Path.{◌≡◌}
use mathlib.Core.Bool.{false}
use mathlib.Core.List.{reverse}
use lib.ListN.{drop}
use Rattle.diagnose.specs.Diagnosis.{agree}
use Rattle.diagnose.proofs.alike.agree_back.Given as goal

abbrev pub invariant-loop-i : goal.invariant-loop-i
invariant-loop-i l = agree false (reverse l.a) (reverse l.b) ≡ l.i + agree false (drop l.i (reverse l.a)) (drop l.i (reverse l.b))
