-- `upgrade_kind` meets its contract.
use Rattle.walk_families.specs.UpgradeLaws.{kind-client, kind-cons, kind-neither}
use native.Mathlib.Omega.{arith}
use Rattle.walk_families.proofs.upgrade.upgrade_kind.Goals as goal

pub returns-in-15 : goal.returns-in-15
returns-in-15 c = kind-client c.args.text.now c.args.q c.requires c.in-15.is _ c.is_upgraded_client.ensures _ c.then_some.ensures

pub returns-in-18 : goal.returns-in-18
returns-in-18 c = kind-cons c.args.text.now c.args.q c.requires c.in-18.is _ c.is_upgraded_cons_state.ensures _ c.then_some-in-18.ensures

pub returns-in_default : goal.returns-in_default
returns-in_default c = kind-neither c.args.text.now c.args.q c.requires (λ z. omega (arith, z)) (λ z. omega (arith, z))
