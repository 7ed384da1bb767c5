-- `nearest::front_of` meets its contract. The invariant: i components fit, and those that fit from there on are the rest.
use Prim.Native.Nat.{◌+◌}
use mathlib.Core.Path.{◌≡◌}
use lib.ListN.{drop}
use Rattle.diagnose.specs.Diagnosis.{front, seven}
use Rattle.diagnose.specs.Table.{parts_in}
use Rattle.diagnose.proofs.nearest.front_of.Given as goal

abbrev pub invariant-loop-i : goal.invariant-loop-i
invariant-loop-i l = front (parts_in l.kind.text.now) (seven l.text.text.now) ≡ l.i + front (drop l.i (parts_in l.kind.text.now)) (drop l.i (seven l.text.text.now))
