use mathlib.Core.Path.{sym, ap, ◌∙◌}
use Rattle.render.specs.declared.Names.{Names}
use Rattle.render.specs.Render.{fault_by}
use Rattle.render.proofs.checks.kind_fault.Goals as goal

pub returns-in-One : goal.returns-in-One
returns-in-One g c =
    let e = sym c.in-One.is ∙ c.names_of.ensures in
    c.name_fault.ensures ∙ ap (λ (n : Names). fault_by g.C.NameCheck.fault n c.args.first.now c.args.second.now) e

pub returns-in-PortAndChannel : goal.returns-in-PortAndChannel
returns-in-PortAndChannel g c =
    let e = sym c.in-PortAndChannel.is ∙ c.names_of.ensures in
    c.ends_fault.ensures ∙ ap (λ (n : Names). fault_by g.C.NameCheck.fault n c.args.first.now c.args.second.now) e
