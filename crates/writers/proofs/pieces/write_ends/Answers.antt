use lib.ListN.{length-append}
use Rattle.text.specs.PutLaws.{both}
use native.Mathlib.Omega.{arith}
use Rattle.writers.proofs.pieces.write_ends.Goals as goal

pub write_two-next-requires : goal.write_two-next-requires
write_two-next-requires c = simp length-append (omega (arith, simp length-append at c.requires))

pub write_two-requires : goal.write_two-requires
write_two-requires c = simp length-append (omega (arith, simp length-append at c.requires, simp length-append at c.write_two-next.ensures.next))

pub returns : goal.returns
returns c = both c.write_two-next.ensures c.write_two.ensures
