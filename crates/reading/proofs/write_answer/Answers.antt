-- `write_answer` meets its contract.
use mathlib.Core.Path.{ap, ◌∙◌}
use lib.ListN.{length}
use Rattle.text.specs.Put.{Wanted, left}
use Rattle.reading.specs.EncodeLaws.{bytes_read, bytes-refused, fault-read, fault-refused}
use Rattle.reading.proofs.write_answer.Goals as goal

pub returns-in-Ok : goal.returns-in-Ok
returns-in-Ok c =
    let e = bytes_read c.args.reading _ _ _ c.in-Ok.is c.view.ensures in
    record {
      value = fault-read c.args.reading (length c.args.out.now) _ _ c.in-Ok.is _ e _ c.write_view-written.ensures.value;
      out_after = c.write_view-written.ensures.out_after ∙ ap (λ (z : Wanted). left z c.args.out.now) e;
    }

pub returns-in-Err : goal.returns-in-Err
unfolding left
returns-in-Err c =
    let e = bytes-refused c.args.reading _ c.in-Err.is in
    record {
      value = fault-refused c.args.reading (length c.args.out.now) _ _ c.in-Err.is c.fault_of.ensures;
      out_after = rw (← e);
    }
