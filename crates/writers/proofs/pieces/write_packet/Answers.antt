use lib.ListN.{length-append}
use Rattle.text.specs.PutLaws.{both}
use native.Mathlib.Omega.{arith}
use Rattle.writers.proofs.pieces.write_packet.Goals as goal

pub write_ends-next-requires : goal.write_ends-next-requires
write_ends-next-requires c = simp length-append (omega (arith, simp length-append at c.requires))

pub put_text-number-requires : goal.put_text-number-requires
put_text-number-requires c = omega (arith, simp length-append at c.requires, simp length-append at c.write_ends-next.ensures.next)

pub put_number-requires : goal.put_number-requires
put_number-requires c = omega (arith, simp length-append at c.requires, simp length-append at c.write_ends-next.ensures.next)

pub returns : goal.returns
returns c = both c.write_ends-next.ensures (both c.put_text-number.ensures c.put_number.ensures)
