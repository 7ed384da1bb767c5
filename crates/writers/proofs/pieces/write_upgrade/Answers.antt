use lib.ListN.{length-append}
use Rattle.text.specs.PutLaws.{both}
use native.Mathlib.Omega.{arith}
use Rattle.writers.proofs.pieces.write_upgrade.Goals as goal

pub write_two-next-requires : goal.write_two-next-requires
write_two-next-requires c = simp length-append (omega (arith, simp length-append at c.requires))

pub put_number-last-requires : goal.put_number-last-requires
put_number-last-requires c = omega (arith, simp length-append at c.requires, simp length-append at c.write_two-next.ensures.next)

pub put_text-requires : goal.put_text-requires
put_text-requires c = omega (arith, simp length-append at c.requires, simp length-append at c.write_two-next.ensures.next)

pub returns : goal.returns
returns c = both c.write_two-next.ensures (both c.put_number-last.ensures c.put_text.ensures)
