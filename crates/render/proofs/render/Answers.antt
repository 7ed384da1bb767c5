use mathlib.Core.Path.{◌∙◌, ◌≡◌}
use Rattle.text.specs.Put.{refused}
use Rattle.text.specs.PutLaws.{gives-refusal, gives_same}
use Rattle.path.specs.Kinds.{carried}
use Rattle.path.specs.Read.{render_of}
use Rattle.render.specs.RenderLaws.{render-low, render-high, render-word, render-kind, kind-checked}
use native.Mathlib.Omega.{arith}
use Rattle.render.proofs.render.Goals.{then-kind-lt1-via-then-kind-lt1, then-kind-lt1-via-else-kind-lt1+then-kind-gt19}
use Rattle.render.proofs.render.Goals as goal

pub returns-then-kind-lt1 : goal.returns-then-kind-lt1
returns-then-kind-lt1 c =
    let v = carried c.args.first.now c.args.second.now c.args.a c.args.b in
    let low : render_of c.args.kind v ≡ refused 14 = elim c.then-kind-lt1.branch [
      | then-kind-lt1-via-then-kind-lt1 w ↦ render-low c.args.kind v (omega (arith, w.if-kind-lt1.true))
      | then-kind-lt1-via-else-kind-lt1+then-kind-gt19 w ↦ render-high c.args.kind v (omega (arith, w.if-kind-gt19.true))
    ] in
    let p = gives-refusal (render_of c.args.kind v) c.args.out.now 14 low in record { value = p.0; out_after = p.1 }

pub returns-then-kind-lt4 : goal.returns-then-kind-lt4
returns-then-kind-lt4 c =
    let v = carried c.args.first.now c.args.second.now c.args.a c.args.b in
    let p = gives_same (render_of c.args.kind v) c.args.out.now (render-word c.args.kind v (omega arith) (omega arith)) (c.fit_word.ensures.value, c.fit_word.ensures.out_after) in record { value = p.0; out_after = p.1 }

pub returns : goal.returns
returns c =
    let v = carried c.args.first.now c.args.second.now c.args.a c.args.b in
    let p = gives_same (render_of c.args.kind v) c.args.out.now (render-kind c.args.kind v (omega arith) (omega arith) ∙ kind-checked c.args.kind v (omega arith) (omega arith)) (c.checked_kind.ensures.value, c.checked_kind.ensures.out_after) in record { value = p.0; out_after = p.1 }
