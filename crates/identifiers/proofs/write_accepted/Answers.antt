-- `identifiers::write_accepted` meets its contract.
use borrow.Author.Tests.{ne_eqb}
use Rattle.text.specs.Put.{answer, left}
use Rattle.identifiers.proofs.write_accepted.Goals as goal

pub returns-then-refusal-ne0 : goal.returns-then-refusal-ne0
unfolding answer left
returns-then-refusal-ne0 c = let e = ne_eqb _ 0 c.if-refusal-ne0.true in
    record {
      value = rw e;
      out_after = rw e;
    }
