-- `identifiers::channel_id::ChannelId::new` meets its contract.
use Rattle.identifiers.specs.Owned.{owned_channel}
use Rattle.identifiers.proofs.channel_id.ChannelId.new.Goals as goal

pub returns : goal.returns
unfolding owned_channel
returns c = rw (← c.write_channel_id-made.ensures.value, ← c.write_channel_id-made.ensures.out_after)
