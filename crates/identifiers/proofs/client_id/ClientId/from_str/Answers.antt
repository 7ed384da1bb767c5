-- `identifiers::client_id::ClientId::from_str` meets its contract.
use borrow.Author.Tests.{eq-eqb, ne_eqb}
use Rattle.identifiers.specs.Owned.{as_written, made_client}
use Rattle.identifiers.proofs.client_id.ClientId.from_str.Goals as goal

pub returns-then-made-ne0 : goal.returns-then-made-ne0
unfolding as_written made_client
returns-then-made-ne0 c =
    rw (← c.validate_client_identifier.ensures, ← c.write_accepted-made.ensures.value, ne_eqb _ 0 c.if-made-ne0.true)

pub returns : goal.returns
unfolding as_written made_client
returns c =
    rw (← c.validate_client_identifier.ensures, ← c.write_accepted-made.ensures.value, ← c.write_accepted-made.ensures.out_after, eq-eqb _ 0 c.if-made-ne0.false)
