-- `part_fits` meets its contract.
use Rattle.diagnose.specs.NearestLaws.{some-part}
use Rattle.diagnose.proofs.part_fits.Goals as goal

pub returns-then-k-seen_of : goal.returns-then-k-seen_of
returns-then-k-seen_of c = some-part _ _ _ c.seen_of.ensures c.if-k-seen_of.true _ c.piece_at.ensures _ _ c.fits_part.ensures
