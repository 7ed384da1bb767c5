-- `after_ports` meets its contract.
use mathlib.Core.Path.{◌∙◌}
use borrow.Author.Tests.{lt-ltb, le-ltb}
use Rattle.walk_families.specs.NameLaws.{after_nothing}
use Rattle.walk_families.proofs.ends.after_ports.Goals as goal

pub returns-in_err-e : goal.returns-in_err-e
returns-in_err-e c = c.from_residual.ensures ∙ after_nothing c.args.kind c.args.text.now c.args.at c.in_err-e.ensures

pub returns-then-kind-lt15 : goal.returns-then-kind-lt15
returns-then-kind-lt15 c = rw (lt-ltb c.args.kind 15 c.if-kind-lt15.true) c.channel.ensures

pub returns : goal.returns
returns c = rw (le-ltb c.args.kind 15 c.if-kind-lt15.false) c.packet.ensures
