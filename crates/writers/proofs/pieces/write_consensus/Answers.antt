use lib.ListN.{length-append}
use Rattle.text.specs.PutLaws.{both}
use native.Mathlib.Omega.{arith}
use Rattle.writers.proofs.pieces.write_consensus.Goals as goal

pub write_client-next-requires : goal.write_client-next-requires
write_client-next-requires c = simp length-append (omega (arith, simp length-append at c.requires))

pub write_revision-requires : goal.write_revision-requires
write_revision-requires c = simp length-append (omega (arith, simp length-append at c.requires, simp length-append at c.write_client-next.ensures.next))

pub returns : goal.returns
returns c = both c.write_client-next.ensures c.write_revision.ensures
