-- `identifiers::connection_id::ConnectionId::from_str` meets its contract.
use borrow.Author.Tests.{eq-eqb, ne_eqb}
use Rattle.identifiers.specs.Check.{fault_of}
use Rattle.identifiers.specs.Owned.{as_written, made_connection}
use Rattle.identifiers.proofs.connection_id.ConnectionId.from_str.Goals as goal

pub returns-then-made-ne0 : goal.returns-then-made-ne0
unfolding as_written made_connection fault_of
returns-then-made-ne0 c =
    let h = rw (c.write_accepted-made.ensures.value, c.validate_connection_identifier-fault.ensures) at c.if-made-ne0.true in
    rw (c.write_accepted-made.ensures.value, c.validate_connection_identifier-fault.ensures, ne_eqb _ 0 h)

pub returns : goal.returns
unfolding as_written made_connection fault_of
returns c =
    let h = rw (c.write_accepted-made.ensures.value, c.validate_connection_identifier-fault.ensures) at c.if-made-ne0.false in
    rw (c.write_accepted-made.ensures.value, c.write_accepted-made.ensures.out_after, c.validate_connection_identifier-fault.ensures, eq-eqb _ 0 h)
