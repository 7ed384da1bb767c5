-- `nearest::kind_at` meets its contract.
use mathlib.Core.Path.{ap}
use mathlib.Core.List.{List}
use Prim.Native.Nat.{ℕ}
use lib.ListN.{length}
use native.Mathlib.Omega.{arith}
use Rattle.diagnose.specs.Table.{starts, kind_text}
use Rattle.diagnose.specs.NearestLaws.{rise_one, rise-next, rise-end, table-length}
use Rattle.diagnose.proofs.nearest.kind_at.Goals as goal

pub overflow_sub-result : goal.overflow_sub-result
unfolding starts
overflow_sub-result c = rise_one c.args.k c.requires.1 c.requires.2

pub slice_bounds-result-count : goal.slice_bounds-result-count
unfolding starts
slice_bounds-result-count c = rise-next c.args.k c.requires.1 c.requires.2

pub slice_bounds-result-start : goal.slice_bounds-result-start
unfolding starts
slice_bounds-result-start c = rise-next c.args.k c.requires.1 c.requires.2

pub slice_bounds-result-end : goal.slice_bounds-result-end
unfolding starts
slice_bounds-result-end c = omega (arith, rise-end c.args.k c.requires.1 c.requires.2, ap (λ (l : List ℕ). length l) c.requires.0, table-length)

pub returns : goal.returns
unfolding starts kind_text
returns c = rw c.requires.0
