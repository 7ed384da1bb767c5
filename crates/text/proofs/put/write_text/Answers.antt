use mathlib.Core.Path.{sym, ◌∙◌}
use Prim.Native.Nat.{◌+◌}
use lib.ListN.{length}
use Rattle.text.specs.Put.{put}
use Rattle.text.specs.PutLaws as puts
use native.Mathlib.Omega.{arith}
use Rattle.text.proofs.put.write_text.Goals as goal

pub returns-clause-out_after : goal.returns-clause-out_after
unfolding put
returns-clause-out_after c = sym (c.loop-i.invariant.1 ∙ puts.copy-none c.loop-i.out c.args.src.now c.args.at c.loop-i.i (c.args.at + length c.args.src.now) (omega arith) (omega arith))
