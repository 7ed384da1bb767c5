-- `read_pieces::read_height` meets its contract.
use Rattle.read_pieces.specs.Pieces.{height_at}
use Rattle.read_pieces.specs.FitLaws.{number-no, number_yes}
use Rattle.read_pieces.proofs.Steps.{no_value}
use Rattle.read_pieces.proofs.read_height.Goals as goal

pub returns-in_default : goal.returns-in_default
unfolding height_at
returns-in_default c = rw (number-no _ _ _ c.read_number.ensures c.component.ensures.bytes (no_value c.read_number.result c.in_default.not-Ok))

pub returns : goal.returns
unfolding height_at
returns c =
    let number = number_yes _ _ _ c.read_number.ensures c.component.ensures.bytes _ c.in-Ok.is in
    rw (number.0, number.1)
