use Rattle.identifiers.specs.IndexLaws.{connection-name}
use Rattle.identifiers.proofs.validate.validate_connection_identifier.Goals as goal

pub check_indexed-requires : goal.check_indexed-requires
check_indexed-requires c = connection-name
