-- `nearest::all_placed` meets its contract. The invariant: what is left of parts and components decides.
use mathlib.Core.Path.{◌≡◌}
use lib.ListN.{drop}
use Rattle.diagnose.specs.Diagnosis.{placed, seven}
use Rattle.diagnose.specs.Table.{parts_in}
use Rattle.diagnose.proofs.nearest.all_placed.Given as goal

abbrev pub invariant-loop-i : goal.invariant-loop-i
invariant-loop-i l = placed (parts_in l.kind.text.now) (seven l.text.text.now) ≡ placed (drop l.i (parts_in l.kind.text.now)) (drop l.i (seven l.text.text.now))
