-- `walk_rest` meets its contract.
use Rattle.walk_families.specs.Flat.{listed, upgrades}
use Rattle.walk.specs.ViewLaws.{either_part}
use borrow.Author.Rules.{rules}
use Rattle.walk.proofs.walk_rest.Goals as goal

pub returns : goal.returns
returns c = either_part listed upgrades c.args.text.now c.by_word.result c.by_word.ensures _ (search rules)
