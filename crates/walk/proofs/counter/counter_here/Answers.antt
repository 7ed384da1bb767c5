-- `counter_here` meets its contract.
use Rattle.walk.specs.ArmLaws.{counts_1, counts_2, counts_3, no-counter}
use mathlib.Core.Path.{refl}
use native.Mathlib.Omega.{arith}
use Rattle.walk.proofs.counter.counter_here.Goals as goal

pub returns-in-18 : goal.returns-in-18
returns-in-18 c = counts_1 c.args.text.now _ c.in-18.is _ c.is_next_client_sequence.ensures _ c.bare.ensures c.then_some.ensures

pub returns-in-22 : goal.returns-in-22
returns-in-22 c = counts_2 c.args.text.now _ c.in-22.is _ c.is_next_connection_sequence.ensures _ c.bare-in-22.ensures c.then_some-in-22.ensures

pub returns-in-19 : goal.returns-in-19
returns-in-19 c = counts_3 c.args.text.now _ c.in-19.is _ c.is_next_channel_sequence.ensures _ c.bare-in-19.ensures c.then_some-in-19.ensures

pub returns-in_default : goal.returns-in_default
returns-in_default c = no-counter c.args.text.now _ (λ z. omega (arith, z)) (λ z. omega (arith, z)) (λ z. omega (arith, z)) refl
