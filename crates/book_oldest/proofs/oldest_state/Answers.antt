-- `book_oldest::oldest_state` meets its contract.
use Prim.Native.Nat.{◌-◌}
use native.Mathlib.Omega.{arith}
use lib.Seq.{take_at}
use Rattle.text.specs.PutLaws.{put-zero}
use Rattle.writers.specs.Texts.{parent_text}
use Rattle.book_oldest.proofs.oldest_state.Goals as goal

pub oldest_below-requires : goal.oldest_below-requires
oldest_below-requires c = record {
  counts = c.requires.counts;
  parent_value = rw (c.write_consensus_parent-end.ensures.after, put-zero) (take_at (parent_text c.args.client.now) _ (c.write_consensus_parent-end.result - 0) (omega (arith, c.write_consensus_parent-end.ensures.next)));
}

pub returns : goal.returns
returns c = c.oldest_below.ensures
