-- `walk_all` meets its contract.
use Rattle.walk.specs.ViewLaws.{all-either}
use borrow.Author.Rules.{rules}
use Rattle.walk.proofs.walk_all.Goals as goal

pub returns : goal.returns
returns c = all-either c.args.text.now c.counter.result c.counter.ensures _ (search rules)
