use Rattle.identifiers.specs.IndexLaws.{channel-name}
use Rattle.identifiers.proofs.validate.validate_channel_identifier.Goals as goal

pub check_indexed-requires : goal.check_indexed-requires
check_indexed-requires c = channel-name
