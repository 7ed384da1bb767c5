use lib.ListN.{length-append}
use Rattle.text.specs.PutLaws.{both}
use native.Mathlib.Omega.{arith}
use Rattle.writers.proofs.pieces.write_client.Goals as goal

pub put_text-name-requires : goal.put_text-name-requires
put_text-name-requires c = omega (arith, simp length-append at c.requires)

pub write_two-requires : goal.write_two-requires
write_two-requires c = omega (arith, simp length-append at c.requires)

pub returns : goal.returns
returns c = both c.put_text-name.ensures c.write_two.ensures
