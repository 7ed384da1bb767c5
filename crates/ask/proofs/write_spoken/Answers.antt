use Rattle.text.specs.Bytes.{bytes}
use Rattle.text.specs.PutLaws.{put_then}
use Rattle.text.specs.Refusal.{sentence}
use native.Mathlib.Omega.{arith}
use Rattle.ask.proofs.write_spoken.Goals as goal

pub returns : goal.returns
returns c = record {
  value = omega (arith, c.write_text-sentence.ensures.value, c.write_sentence.ensures.value);
  out_after = put_then c.args.out.now c.args.at (bytes " ") (sentence c.args.number) c.write_text-sentence.new.out c.write_sentence.new.out c.write_text-sentence.result c.write_text-sentence.ensures.out_after c.write_text-sentence.ensures.value (omega arith) c.write_sentence.ensures.out_after;
}
