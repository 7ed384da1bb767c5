-- `nearest::nearest_kind` meets its contract. The invariant: the best so far, against the kinds from the k-th on.
use Prim.Native.Nat.{◌-◌}
use mathlib.Core.Path.{◌≡◌}
use lib.ListN.{drop}
use Rattle.path.specs.Kinds.{kinds}
use Rattle.diagnose.specs.Diagnosis.{nearest_from, nearest, seven, how_many}
use Rattle.diagnose.proofs.nearest.nearest_kind.Given as goal

abbrev pub invariant-loop-k : goal.invariant-loop-k
invariant-loop-k l = nearest_from l.k l.kind l.best (how_many l.text.text.now) (drop (l.k - 1) kinds) (seven l.text.text.now) ≡ nearest (how_many l.text.text.now) (seven l.text.text.now)
