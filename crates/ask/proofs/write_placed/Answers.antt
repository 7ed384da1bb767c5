use mathlib.Core.Path.{sym, ◌∙◌}
use Rattle.text.specs.Bytes.{bytes}
use Rattle.text.specs.Number.{decimal}
use Rattle.text.specs.PutLaws.{put_two}
use Rattle.ask.specs.Answer.{spoken}
use Rattle.ask.specs.AnswerLaws.{placed-length}
use native.Mathlib.Omega.{arith}
use Rattle.ask.proofs.write_placed.Goals as goal

pub write_number-end-requires : goal.write_number-end-requires
write_number-end-requires c = omega (arith, placed-length c.args.place c.args.number, c.write_text-digits.ensures.value)

pub write_spoken-requires : goal.write_spoken-requires
write_spoken-requires c = omega (arith, placed-length c.args.place c.args.number, c.write_text-digits.ensures.value, c.write_number-end.ensures.value)

pub returns : goal.returns
returns c = let l = placed-length c.args.place c.args.number in
    let e = put_two c.args.out.now c.args.at (bytes " ") (decimal c.args.place) (spoken c.args.number) c.write_text-digits.new.out c.write_number-end.new.out c.write_text-digits.result c.write_number-end.result c.write_text-digits.ensures.out_after c.write_text-digits.ensures.value c.write_number-end.ensures.out_after c.write_number-end.ensures.value (omega (arith, c.write_text-digits.ensures.value, c.write_number-end.ensures.value)) in
    record {
      value = omega (arith, c.write_text-digits.ensures.value, c.write_number-end.ensures.value, c.write_spoken.ensures.value);
      out_after = c.write_spoken.ensures.out_after ∙ sym e;
    }
