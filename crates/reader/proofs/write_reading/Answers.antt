-- `write_reading` meets its contract.
use mathlib.Core.Path.{ap, ◌∙◌}
use lib.ListN.{length}
use Rattle.text.specs.Put.{Wanted, left}
use Rattle.reading.specs.EncodeLaws.{answer-reading, bytes-reading}
use Rattle.reader.proofs.write_reading.Goals as goal

pub returns : goal.returns
returns c = record {
  value = c.write_answer.ensures.value ∙ answer-reading c.args.text.now _ c.read_path.ensures (length c.args.out.now);
  out_after = c.write_answer.ensures.out_after ∙ ap (λ (z : Wanted). left z c.args.out.now) (bytes-reading c.args.text.now _ c.read_path.ensures);
}
