-- `update_kind` meets its contract.
use Rattle.walk_families.specs.ClientLaws.{update-over, update-time, update-height, update_other}
use native.Mathlib.Omega.{arith}
use Rattle.walk_families.proofs.client.update_kind.Goals as goal

pub returns-in-0 : goal.returns-in-0
returns-in-0 c = update-over c.args.text.now c.args.q c.requires c.in-0.is

pub returns-in-14 : goal.returns-in-14
returns-in-14 c = update-time c.args.text.now c.args.q c.requires c.in-14.is _ c.is_processed_time.ensures _ c.then_some.ensures

pub returns-in-16 : goal.returns-in-16
returns-in-16 c = update-height c.args.text.now c.args.q c.requires c.in-16.is _ c.is_processed_height.ensures _ c.then_some-in-16.ensures

pub returns-in_default : goal.returns-in_default
returns-in_default c = update_other c.args.text.now c.args.q c.requires (λ z. omega (arith, z)) (λ z. omega (arith, z)) (λ z. omega (arith, z))
