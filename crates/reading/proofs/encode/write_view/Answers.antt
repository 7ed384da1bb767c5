-- `encode::write_view` meets its contract.
use native.Mathlib.Omega.{arith}
use Rattle.text.specs.PutLaws.{gives-short, gives-text}
use Rattle.reading.specs.EncodeLaws.{length-view}
use Rattle.reading.proofs.encode.write_view.Goals as goal

pub returns-then-out-lt26 : goal.returns-then-out-lt26
returns-then-out-lt26 c =
    let l = length-view c.args.v in
    let p = gives-short _ _ (omega arith) in record { value = p.0; out_after = p.1 }

pub returns : goal.returns
returns c =
    let p = gives-text _ _ c.write_bytes-end.ensures in record { value = p.0; out_after = p.1 }
