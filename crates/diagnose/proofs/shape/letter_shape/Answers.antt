-- `shape::letter_shape` meets its contract.
use borrow.Author.Tests.{ne_eqb}
use native.Mathlib.Omega.{arith}
use Rattle.diagnose.specs.Table.{letter_shape}
use Rattle.diagnose.proofs.shape.letter_shape.Goals as goal

pub returns-in-67 : goal.returns-in-67
unfolding letter_shape
returns-in-67 c = rw c.in-67.is

pub returns-in-75 : goal.returns-in-75
unfolding letter_shape
returns-in-75 c = rw c.in-75.is

pub returns-in-80 : goal.returns-in-80
unfolding letter_shape
returns-in-80 c = rw c.in-80.is

pub returns-in-72 : goal.returns-in-72
unfolding letter_shape
returns-in-72 c = rw c.in-72.is

pub returns-in-85 : goal.returns-in-85
unfolding letter_shape
returns-in-85 c = rw c.in-85.is

pub returns-in-82 : goal.returns-in-82
unfolding letter_shape
returns-in-82 c = rw c.in-82.is

pub returns-in_default : goal.returns-in_default
unfolding letter_shape
returns-in_default c = rw (ne_eqb c.args.b 67 (λ z. omega (arith, z)), ne_eqb c.args.b 75 (λ z. omega (arith, z)), ne_eqb c.args.b 80 (λ z. omega (arith, z)), ne_eqb c.args.b 72 (λ z. omega (arith, z)), ne_eqb c.args.b 85 (λ z. omega (arith, z)), ne_eqb c.args.b 82 (λ z. omega (arith, z)))
