-- `channel` meets its contract.
use Rattle.walk_families.specs.NameLaws.{ends-longer, ends_read}
use Rattle.walk_families.proofs.ends.channel.Goals as goal

pub returns-then-start-channel : goal.returns-then-start-channel
returns-then-start-channel c = ends-longer c.args.kind c.args.text.now c.args.at c.args.e c.requires c.if-start-channel.true

pub returns : goal.returns
returns c = ends_read c.args.kind c.args.text.now c.args.at c.args.e c.requires c.if-start-channel.false
