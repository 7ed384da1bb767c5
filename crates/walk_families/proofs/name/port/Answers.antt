-- `port` meets its contract.
use mathlib.Core.Path.{sym, ap, ◌∙◌}
use Rattle.std.specs.Prelude.{Some}
use Rattle.identifiers.specs.Check as check
use Rattle.path.specs.declared.PathView.{PathView}
use Rattle.path.specs.declared.name.Name.TheVariants.{Port}
use Rattle.walk_scan.specs.NameLaws.{scans-port}
use Rattle.walk_families.specs.NameLaws.{last_none, last-longer, last_name}
use Rattle.walk_families.proofs.name.port.Goals as goal

pub returns-in_err-n : goal.returns-in_err-n
returns-in_err-n c = c.from_residual.ensures ∙ last_none 10 Port check.port scans-port c.args.text.now c.args.at (sym c.in_err-n.was ∙ c.plain_length.ensures.1)

pub returns-then-at-n : goal.returns-then-at-n
returns-then-at-n c = last-longer 10 Port check.port scans-port c.args.text.now c.args.at c.in_ok-n.n c.in_ok-n.ensures.1 c.in_ok-n.ensures.0 c.if-at-n.true

pub returns : goal.returns
returns c = ap (λ (v : PathView). Some v) c.bare.ensures ∙ last_name 10 Port check.port scans-port c.args.text.now c.args.at c.in_ok-n.n c.in_ok-n.ensures.1 c.if-at-n.false
