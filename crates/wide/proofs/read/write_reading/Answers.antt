-- `wide::read::write_reading` meets its contract.
use mathlib.Core.Path.{sym, ap, ◌∙◌}
use lib.ListN.{length}
use Rattle.text.specs.Put.{Wanted, left}
use Rattle.text.specs.PutLaws.{left-refused}
use Rattle.wide.specs.StepLaws.{other-bytes, other-fault, of-bytes, of-fault}
use Rattle.wide.proofs.read.write_reading.Goals as goal

pub returns-in-Some : goal.returns-in-Some
returns-in-Some c = record {
  value = c.write_answer.ensures.value ∙ of-fault c.args.text.now c.read_path.result c.read_path.ensures _ c.in-Some.is (length c.args.out.now);
  out_after = c.write_answer.ensures.out_after ∙ ap (λ (z : Wanted). left z c.args.out.now) (of-bytes c.args.text.now c.read_path.result c.read_path.ensures _ c.in-Some.is);
}

pub returns-in-None : goal.returns-in-None
returns-in-None c = record {
  value = other-fault c.args.text.now c.read_path.result c.read_path.ensures c.in-None.is (length c.args.out.now);
  out_after = sym (left-refused 21 c.args.out.now) ∙ ap (λ (z : Wanted). left z c.args.out.now) (other-bytes c.args.text.now c.read_path.result c.read_path.ensures c.in-None.is);
}
