-- `shape::fits_part` meets its contract.
use Rattle.diagnose.specs.ShapeLaws.{fits_word, fits-name, fits_count, fits-pair}
use Rattle.diagnose.proofs.shape.fits_part.Goals as goal

pub returns-in-Word : goal.returns-in-Word
returns-in-Word c = fits_word _ _ _ c.shape_of.ensures c.in-Word.is _ c.equal.ensures

pub returns-in-Named : goal.returns-in-Named
returns-in-Named c = fits-name _ _ _ c.shape_of.ensures _ c.in-Named.is _ c.name_fault.ensures

pub returns-in-Count : goal.returns-in-Count
returns-in-Count c = fits_count _ _ _ c.shape_of.ensures c.in-Count.is _ c.is_number.ensures

pub returns-in-Pair : goal.returns-in-Pair
returns-in-Pair c = fits-pair _ _ _ c.shape_of.ensures c.in-Pair.is _ c.is_pair.ensures
