use Rattle.text.specs.Put.{accepted}
use Rattle.text.specs.PutLaws.{gives-refusal, gives_same}
use Rattle.path.specs.declared.name.Name.TheVariants.{Client}
use Rattle.writers.specs.Texts.{parent_text}
use Rattle.render.specs.ParentLaws.{accepted-not, accepted-text}
use Rattle.render.proofs.checks.checked_parent.Goals as goal

pub returns-then-refusal-ne0 : goal.returns-then-refusal-ne0
returns-then-refusal-ne0 g c =
    let w = parent_text c.args.client.now in
    let p = gives-refusal (accepted (g.C.NameCheck.fault Client c.args.client.now) w) c.args.out.now _ (accepted-not w c.name_fault-refusal.ensures c.if-refusal-ne0.true) in record { value = p.0; out_after = p.1 }

pub returns : goal.returns
returns g c =
    let w = parent_text c.args.client.now in
    let p = gives_same (accepted (g.C.NameCheck.fault Client c.args.client.now) w) c.args.out.now (accepted-text w c.name_fault-refusal.ensures c.if-refusal-ne0.false) (c.fit_parent.ensures.value, c.fit_parent.ensures.out_after) in record { value = p.0; out_after = p.1 }
