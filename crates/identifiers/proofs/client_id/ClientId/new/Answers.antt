-- `identifiers::client_id::ClientId::new` meets its contract.
use borrow.Author.Tests.{eq-eqb, ne_eqb}
use Rattle.identifiers.specs.Owned.{made_client}
use Rattle.identifiers.proofs.client_id.ClientId.new.Goals as goal

pub returns-then-made-ne0 : goal.returns-then-made-ne0
unfolding made_client
returns-then-made-ne0 c = rw (← c.write_client_id-made.ensures.value, ne_eqb _ 0 c.if-made-ne0.true)

pub returns : goal.returns
unfolding made_client
returns c = rw (← c.write_client_id-made.ensures.value, ← c.write_client_id-made.ensures.out_after, eq-eqb _ 0 c.if-made-ne0.false)
