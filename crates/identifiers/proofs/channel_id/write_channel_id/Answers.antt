-- `identifiers::channel_id::write_channel_id` meets its contract.
use Rattle.identifiers.specs.Owned.{new_channel}
use Rattle.identifiers.proofs.channel_id.write_channel_id.Goals as goal

pub returns : goal.returns
unfolding new_channel
returns c = record {
  value = c.write_named.ensures.value;
  out_after = c.write_named.ensures.out_after;
}
