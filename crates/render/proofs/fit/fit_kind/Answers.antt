use Rattle.path.specs.Kinds.{carried}
use Rattle.path.specs.Read.{render, parts_of}
use Rattle.render.specs.RenderLaws.{fit-long, fit-short, fit-done}
use native.Mathlib.Omega.{arith}
use Rattle.render.proofs.fit.fit_kind.Goals as goal

pub returns-then-need-gt4096 : goal.returns-then-need-gt4096
returns-then-need-gt4096 c =
    let p = fit-long (render (parts_of c.args.kind) (carried c.args.first.now c.args.second.now c.args.a c.args.b)) c.args.out.now c.length_of-need.result c.length_of-need.ensures (omega arith) in record { value = p.0; out_after = p.1 }

pub returns-then-out-need : goal.returns-then-out-need
returns-then-out-need c =
    let p = fit-short (render (parts_of c.args.kind) (carried c.args.first.now c.args.second.now c.args.a c.args.b)) c.args.out.now c.length_of-need.result c.length_of-need.ensures (omega arith) (omega arith) in record { value = p.0; out_after = p.1 }

pub returns : goal.returns
returns c =
    let p = fit-done (render (parts_of c.args.kind) (carried c.args.first.now c.args.second.now c.args.a c.args.b)) c.args.out.now c.length_of-need.result c.length_of-need.ensures (omega arith) c.write_kind-length.ensures in record { value = p.0; out_after = p.1 }
