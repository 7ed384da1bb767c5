use mathlib.Core.Path.{sym, ◌∙◌}
use Rattle.text.specs.Bytes.{bytes}
use Rattle.text.specs.Number.{decimal}
use Rattle.text.specs.PutLaws.{put_two}
use Rattle.ask.specs.Answer.{mark}
use Rattle.ask.specs.AnswerLaws.{head-length}
use native.Mathlib.Omega.{arith}
use Rattle.ask.proofs.write_head.Goals as goal

pub write_text-number-requires : goal.write_text-number-requires
write_text-number-requires c = omega (arith, head-length c.args.kind c.args.exact)

pub write_number-mark-requires : goal.write_number-mark-requires
write_number-mark-requires c = omega (arith, head-length c.args.kind c.args.exact, c.write_text-number.ensures.value)

pub write_mark-requires : goal.write_mark-requires
write_mark-requires c = omega (arith, head-length c.args.kind c.args.exact, c.write_text-number.ensures.value, c.write_number-mark.ensures.value)

pub returns : goal.returns
returns c = let l = head-length c.args.kind c.args.exact in
    let e = put_two c.args.out.now c.args.at (bytes "0 ") (decimal c.args.kind) (mark c.args.exact) c.write_text-number.new.out c.write_number-mark.new.out c.write_text-number.result c.write_number-mark.result c.write_text-number.ensures.out_after c.write_text-number.ensures.value c.write_number-mark.ensures.out_after c.write_number-mark.ensures.value (omega (arith, c.write_text-number.ensures.value, c.write_number-mark.ensures.value)) in
    record {
      value = omega (arith, c.write_text-number.ensures.value, c.write_number-mark.ensures.value, c.write_mark.ensures.value);
      out_after = c.write_mark.ensures.out_after ∙ sym e;
    }
