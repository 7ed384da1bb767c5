use lib.ListN.{length-append}
use Rattle.text.specs.PutLaws.{both}
use native.Mathlib.Omega.{arith}
use Rattle.writers.proofs.pieces.write_two.Goals as goal

pub put_text-next-requires : goal.put_text-next-requires
put_text-next-requires c = omega (arith, simp length-append at c.requires)

pub put_text-requires : goal.put_text-requires
put_text-requires c = omega (arith, simp length-append at c.requires)

pub returns : goal.returns
returns c = both c.put_text-next.ensures c.put_text.ensures
