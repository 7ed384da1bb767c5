-- `iteration::block::check_block` meets its contract.
use mathlib.Core.Path.{◌≡◌}
use Prim.Native.Nat.{◌*◌, ◌-◌}
use lib.ListN.{drop}
use Rattle.iteration.specs.Block.{block_of, is_block, keys_in}
use Rattle.iteration.specs.Key.{revision_of}
use Rattle.iteration.specs.BlockLaws.{rising_in}
use Rattle.iteration.proofs.block.check_block.Given as goal

-- the keys from i on rise from the last one on
abbrev pub invariant-loop-i : goal.invariant-loop-i
invariant-loop-i l = is_block (block_of l.block) ≡ rising_in (revision_of l.last) (keys_in (l.i-end - l.i) (drop (38 * l.i) l.block))
