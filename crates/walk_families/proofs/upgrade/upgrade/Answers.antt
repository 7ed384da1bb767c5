-- `upgrade` meets its contract.
use Prim.Native.Nat.{◌+◌}
use mathlib.Core.Path.{sym, ◌∙◌}
use Rattle.walk_scan.specs.CountLaws.{count-within}
use Rattle.walk_families.specs.UpgradeLaws.{upgrade-end, upgrade-no_number, upgrade-no_kind, upgrade-high, upgrade_read}
use native.Mathlib.Omega.{arith}
use Rattle.walk_families.proofs.upgrade.upgrade.Goals as goal

pub returns-then-e-text : goal.returns-then-e-text
returns-then-e-text c = upgrade-end c.args.text.now c.slash-e.result c.slash-e.ensures.2 c.if-e-text.true

pub returns-in_err-n : goal.returns-in_err-n
returns-in_err-n c = c.from_residual.ensures ∙ upgrade-no_number c.args.text.now c.slash-e.result c.slash-e.ensures.2 (omega (arith, c.slash-e.ensures.1, c.if-e-text.false)) (sym c.in_err-n.was ∙ c.number.ensures)

pub upgrade_kind-requires : goal.upgrade_kind-requires
upgrade_kind-requires c = (count-within c.args.text.now (c.slash-e.result + 1) c.in_ok-n.n c.in_ok-n.ensures (omega (arith, c.slash-e.ensures.1, c.if-e-text.false))).1

pub returns-in_err-kind : goal.returns-in_err-kind
returns-in_err-kind c = c.from_residual-in_err-kind.ensures ∙ upgrade-no_kind c.args.text.now c.slash-e.result c.slash-e.ensures.2 (omega (arith, c.slash-e.ensures.1, c.if-e-text.false)) c.in_ok-n.n c.in_ok-n.ensures c.in_err-kind.ensures

pub returns-then-not-all_ascii : goal.returns-then-not-all_ascii
returns-then-not-all_ascii c = upgrade-high c.args.text.now c.slash-e.result c.slash-e.ensures.2 (omega (arith, c.slash-e.ensures.1, c.if-e-text.false)) c.in_ok-n.n c.in_ok-n.ensures c.all_ascii.result c.all_ascii.ensures c.if-not-all_ascii.true

pub returns : goal.returns
returns c = upgrade_read c.args.text.now c.slash-e.result c.slash-e.ensures.2 (omega (arith, c.slash-e.ensures.1, c.if-e-text.false)) c.in_ok-n.n c.in_ok-n.ensures c.all_ascii.result c.all_ascii.ensures c.if-not-all_ascii.false c.in_ok-kind.kind c.in_ok-kind.ensures
