use mathlib.Core.Path.{◌≡◌}
use native.Mathlib.Omega.{arith}
use Rattle.writers.proofs.kinds.write_next_sequence.Goals as goal

pub put_text-requires : goal.put_text-requires
put_text-requires c = rw c.in-1.is at c.requires.2

pub put_text-requires-in-2 : goal.put_text-requires-in-2
put_text-requires-in-2 c = rw c.in-2.is at c.requires.2

pub put_text-requires-in_default : goal.put_text-requires-in_default
put_text-requires-in_default c = let e : c.args.kind ≡ 3 = omega arith in rw e at c.requires.2

pub returns-in-1 : goal.returns-in-1
returns-in-1 c = rw c.in-1.is c.put_text.ensures

pub returns-in-2 : goal.returns-in-2
returns-in-2 c = rw c.in-2.is c.put_text-in-2.ensures

pub returns-in_default : goal.returns-in_default
returns-in_default c = let e : c.args.kind ≡ 3 = omega arith in rw e c.put_text-in_default.ensures
