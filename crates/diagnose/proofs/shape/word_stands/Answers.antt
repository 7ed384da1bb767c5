-- `shape::word_stands` meets its contract.
use Rattle.diagnose.specs.ShapeLaws.{stands_word, stands-other}
use Rattle.diagnose.proofs.shape.word_stands.Goals as goal

pub returns-in-Word : goal.returns-in-Word
returns-in-Word c = stands_word _ _ _ c.shape_of.ensures c.in-Word.is _ c.alike_but.ensures

pub returns-in_default : goal.returns-in_default
returns-in_default c = stands-other _ _ _ c.shape_of.ensures c.in_default.not-Word
