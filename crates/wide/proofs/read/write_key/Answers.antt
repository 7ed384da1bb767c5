-- `wide::read::write_key` meets its contract.
use mathlib.Core.Path.{sym}
use Rattle.text.specs.PutLaws.{gives-refusal, gives_same}
use Rattle.wide.specs.Mode.{wide}
use Rattle.wide.specs.Read.{key_in}
use Rattle.wide.specs.StepLaws.{other_key, of-key}
use Rattle.wide.proofs.read.write_key.Goals as goal

pub returns-in-Some : goal.returns-in-Some
returns-in-Some c =
    let p = gives_same (key_in wide c.args.text.now) c.args.out.now (sym (of-key c.args.text.now c.read_path.result c.read_path.ensures _ c.in-Some.is)) (c.write_shown.ensures.value, c.write_shown.ensures.out_after) in record { value = p.0; out_after = p.1 }

pub returns-in-None : goal.returns-in-None
returns-in-None c =
    let p = gives-refusal (key_in wide c.args.text.now) c.args.out.now 21 (sym (other_key c.args.text.now c.read_path.result c.read_path.ensures c.in-None.is)) in record { value = p.0; out_after = p.1 }
