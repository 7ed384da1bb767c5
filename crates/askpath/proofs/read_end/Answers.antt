use native.Mathlib.Omega.{arith}
use Rattle.ask.specs.Answer.{extra}
use Rattle.askpath.proofs.read_end.Goals as goal

pub returns-then-why-clause-held_bound : goal.returns-then-why-clause-held_bound
unfolding extra
returns-then-why-clause-held_bound c = rw c.if-why.true (omega arith)

pub returns-clause-held_bound : goal.returns-clause-held_bound
unfolding extra
returns-clause-held_bound c = rw c.if-why.false (omega arith)
