use mathlib.Core.Path.{sym, ◌∙◌}
use Rattle.path.specs.Read.{render, parts_of}
use Rattle.path.specs.Kinds.{carried}
use Rattle.text.specs.PutLaws.{gives-refusal, gives_same}
use Rattle.render.specs.Render.{names_of, fault_by, short, checked}
use Rattle.render.specs.RenderLaws.{checked-refused, checked-wanted}
use Rattle.render.proofs.checks.checked_kind.Goals as goal

pub returns-then-refusal-ne0 : goal.returns-then-refusal-ne0
returns-then-refusal-ne0 g c =
    let w = short (render (parts_of c.args.kind) (carried c.args.first.now c.args.second.now c.args.a c.args.b)) in
    let n = fault_by g.C.NameCheck.fault (names_of c.args.kind) c.args.first.now c.args.second.now in
    let p = gives-refusal (checked n w) c.args.out.now c.kind_fault-refusal.result (checked-refused w c.kind_fault-refusal.ensures c.if-refusal-ne0.true) in record { value = p.0; out_after = p.1 }

pub returns : goal.returns
returns g c =
    let w = short (render (parts_of c.args.kind) (carried c.args.first.now c.args.second.now c.args.a c.args.b)) in
    let n = fault_by g.C.NameCheck.fault (names_of c.args.kind) c.args.first.now c.args.second.now in
    let p = gives_same (checked n w) c.args.out.now (checked-wanted w c.kind_fault-refusal.ensures c.if-refusal-ne0.false) (c.fit_kind.ensures.value, c.fit_kind.ensures.out_after) in record { value = p.0; out_after = p.1 }
