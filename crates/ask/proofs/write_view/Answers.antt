use mathlib.Core.Path.{sym, ◌∙◌}
use mathlib.Core.List.{◌∷◌, []}
use Rattle.text.specs.PutLaws.{put_two}
use Rattle.ask.specs.Answer.{head, view_text}
use Rattle.ask.specs.AnswerLaws.{view-length}
use native.Mathlib.Omega.{arith}
use Rattle.ask.proofs.write_view.Goals as goal

pub write_head-rendering-requires : goal.write_head-rendering-requires
write_head-rendering-requires c = omega (arith, view-length c.args.line.now c.args.v)

pub write_rendering-end-requires : goal.write_rendering-end-requires
write_rendering-end-requires c = record {
  le_kind = c.requires.le_kind;
  b_in_bounds = omega (arith, view-length c.args.line.now c.args.v, c.write_head-rendering.ensures.value);
}

pub write_byte-requires : goal.write_byte-requires
write_byte-requires c = omega (arith, c.requires.v_in_bounds, view-length c.args.line.now c.args.v, c.write_head-rendering.ensures.value, c.write_rendering-end.ensures.value)

pub returns : goal.returns
returns c = let l = view-length c.args.line.now c.args.v in
    let e = put_two c.args.out.now c.args.at (head c.args.v.kind c.args.v.exact) (view_text c.args.line.now c.args.v) (10 ∷ []) c.write_head-rendering.new.out c.write_rendering-end.new.out c.write_head-rendering.result c.write_rendering-end.result c.write_head-rendering.ensures.out_after c.write_head-rendering.ensures.value c.write_rendering-end.ensures.out_after c.write_rendering-end.ensures.value (omega (arith, c.requires.v_in_bounds, c.write_head-rendering.ensures.value, c.write_rendering-end.ensures.value)) in
    record {
      value = omega (arith, c.write_head-rendering.ensures.value, c.write_rendering-end.ensures.value, c.write_byte.ensures.value);
      out_after = c.write_byte.ensures.out_after ∙ sym e;
    }
