-- `book_clear::stretch::write_stem` meets its contract.
use Rattle.writers.specs.Texts.{parent_text}
use Rattle.text.specs.PutLaws.{both, length-put}
use lib.ListN.{length}
use mathlib.Core.Path.{ap, ◌∙◌}
use native.Mathlib.Omega.{arith}
use Rattle.book_clear.proofs.stretch.write_stem.Goals as goal

pub returns : goal.returns
returns c = both c.write_consensus_parent-end.ensures (record { next = c.write_byte.ensures.value; after = c.write_byte.ensures.out_after; room = omega (arith, c.requires, c.write_consensus_parent-end.ensures.next, ap length c.write_consensus_parent-end.ensures.after ∙ length-put c.args.out.now 0 (parent_text c.args.client.now) c.write_consensus_parent-end.ensures.room) })
