-- `book::check::quotas_fit` meets its contract.
use Rattle.book.specs.CheckWayLaws.{fits_one, fits-two, fits-three}
use Rattle.book.proofs.check.quotas_fit.Goals as goal

pub returns-in-One : goal.returns-in-One
returns-in-One c = fits_one c.args.version c.args.book.now c.in-One.is c.args.slots

pub returns-in-Two : goal.returns-in-Two
returns-in-Two c = fits-two c.args.version c.args.book.now c.in-Two.is c.args.slots

pub returns-in-Three : goal.returns-in-Three
returns-in-Three c = fits-three c.args.version c.args.book.now c.in-Three.is c.args.slots _ _ c.quotas_of.ensures.0 c.sum_fits.ensures
