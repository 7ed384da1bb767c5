-- `iteration::key_at` meets its contract.
use native.Mathlib.Omega.{arith}
use Rattle.iteration.specs.ReadLaws.{key-none, key_here}
use Rattle.iteration.proofs.key_at.Goals as goal

pub returns-then-not-same_at : goal.returns-then-not-same_at
returns-then-not-same_at c = key-none c.args.at c.args.s.now (omega arith) _ c.same_at.ensures c.if-not-same_at.true

pub returns : goal.returns
returns c = key_here c.args.at c.args.s.now (omega arith) _ c.same_at.ensures _ c.if-not-same_at.false c.revision_at.ensures
