use mathlib.Core.Path.{sym, ◌∙◌}
use Rattle.text.specs.Put.{accepted}
use Rattle.text.specs.PutLaws.{gives-refusal, gives_same}
use Rattle.writers.specs.Texts.{packets_text}
use Rattle.render.specs.declared.Names.TheVariants.{PortAndChannel}
use Rattle.render.specs.Render.{fault_by}
use Rattle.render.specs.ParentLaws.{accepted-not, accepted-text}
use Rattle.render.proofs.checks.checked_packets.Goals as goal

pub returns-then-refusal-ne0 : goal.returns-then-refusal-ne0
returns-then-refusal-ne0 g c =
    let w = packets_text c.args.first.now c.args.port.now c.args.channel.now in
    let p = gives-refusal (accepted (fault_by g.C.NameCheck.fault PortAndChannel c.args.port.now c.args.channel.now) w) c.args.out.now _ (accepted-not w c.ends_fault-refusal.ensures c.if-refusal-ne0.true) in record { value = p.0; out_after = p.1 }

pub returns : goal.returns
returns g c =
    let w = packets_text c.args.first.now c.args.port.now c.args.channel.now in
    let p = gives_same (accepted (fault_by g.C.NameCheck.fault PortAndChannel c.args.port.now c.args.channel.now) w) c.args.out.now (accepted-text w c.ends_fault-refusal.ensures c.if-refusal-ne0.false) (c.fit_packets_path.ensures.value, c.fit_packets_path.ensures.out_after) in record { value = p.0; out_after = p.1 }
