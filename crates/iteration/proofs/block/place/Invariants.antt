-- `iteration::block::place` meets its contract.
use Prim.Native.Nat.{◌/◌, ◌-◌, ◌≤◌}
use lib.ListN.{length}
use Rattle.iteration.specs.Search.{passed}
use Rattle.iteration.specs.SearchLaws.{Narrowed}
use Rattle.iteration.proofs.block.place.Given as goal

abbrev pub invariant-loop-lo : goal.invariant-loop-lo
invariant-loop-lo l = ((l.lo ≤ l.hi) × (l.hi ≤ length l.block / 38)) × Narrowed (passed l.equal l.pair) l.block l.lo l.hi

abbrev pub decreases-loop-lo : goal.decreases-loop-lo
decreases-loop-lo l = l.hi - l.lo
