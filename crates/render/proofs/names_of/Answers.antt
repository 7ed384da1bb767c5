-- `names_of` meets its contract.
use borrow.Author.Tests.{lt-ltb, le-ltb}
use native.Mathlib.Omega.{arith}
use Rattle.render.specs.Render.{names_of}
use Rattle.render.proofs.names_of.Goals as goal

pub returns-in-0-to-8 : goal.returns-in-0-to-8
unfolding names_of
returns-in-0-to-8 c = rw (lt-ltb c.args.kind 9 (omega arith))

pub returns-in-9 : goal.returns-in-9
unfolding names_of
returns-in-9 c = rw c.in-9.is

pub returns-in-10 : goal.returns-in-10
unfolding names_of
returns-in-10 c = rw c.in-10.is

pub returns-in-11-to-17 : goal.returns-in-11-to-17
unfolding names_of
returns-in-11-to-17 c = rw (le-ltb c.args.kind 9 (omega arith), le-ltb c.args.kind 10 (omega arith), le-ltb 17 c.args.kind (omega arith), le-ltb c.args.kind 11 (omega arith))

pub returns-in_default : goal.returns-in_default
unfolding names_of
returns-in_default c = rw (le-ltb c.args.kind 9 (omega arith), le-ltb c.args.kind 10 (omega arith), lt-ltb 17 c.args.kind (omega arith))
