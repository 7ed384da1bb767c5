-- `put_walk` meets its contract.
use mathlib.Core.Path.{ap}
use Rattle.text.specs.declared.Written.{Written}
use Rattle.walk.proofs.put_walk.Goals as goal

pub returns : goal.returns
returns c = record {
  value = ap (λ (x : Written). record { refusal = x.refusal; place = 0 }) c.write_view-written.ensures.value;
  out_after = c.write_view-written.ensures.out_after;
}
