-- `reason::part_why` meets its contract.
use Rattle.diagnose.specs.ShapeLaws.{why-word, why-name, why-count, why-pair}
use Rattle.diagnose.specs.ReasonLaws.{count_room, count-told}
use borrow.Author.Rules.{rules}
use Rattle.diagnose.proofs.reason.part_why.Goals as goal

pub number_why-requires : goal.number_why-requires
number_why-requires c = count_room _ _ c.read_number.ensures (search rules)

pub returns-in-Word : goal.returns-in-Word
returns-in-Word c = why-word _ _ _ c.shape_of.ensures c.in-Word.is _ c.word_why.ensures

pub returns-in-Named : goal.returns-in-Named
returns-in-Named c = why-name _ _ _ c.shape_of.ensures _ c.in-Named.is _ c.name_why.ensures

pub returns-in-Count : goal.returns-in-Count
returns-in-Count c = why-count _ _ _ c.shape_of.ensures c.in-Count.is _ (count-told _ _ c.read_number.ensures _ c.number_why.ensures)

pub returns-in-Pair : goal.returns-in-Pair
returns-in-Pair c = why-pair _ _ _ c.shape_of.ensures c.in-Pair.is _ c.pair_why.ensures
