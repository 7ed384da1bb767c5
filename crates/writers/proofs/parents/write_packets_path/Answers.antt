use lib.ListN.{length-append}
use Rattle.text.specs.PutLaws.{both}
use native.Mathlib.Omega.{arith}
use Rattle.writers.proofs.parents.write_packets_path.Goals as goal

pub write_ends-next-requires : goal.write_ends-next-requires
write_ends-next-requires c = simp length-append (omega (arith, simp length-append at c.requires))

pub put_text-requires : goal.put_text-requires
put_text-requires c = omega (arith, simp length-append at c.requires, simp length-append at c.write_ends-next.ensures.next)

pub returns : goal.returns
returns c = both c.write_ends-next.ensures c.put_text.ensures
