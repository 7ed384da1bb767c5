-- `iteration::read_iteration_key` meets its contract.
use mathlib.Core.Path.{sym, ap, ◌∙◌}
use Rattle.iteration.specs.Key.{answered}
use Rattle.iteration.specs.ReadLaws.{key-whole, key-other, answer-read}
use Rattle.iteration.proofs.read_iteration_key.Goals as goal

pub returns-then-key-ne38 : goal.returns-then-key-ne38
returns-then-key-ne38 c = sym (ap (answered 15) (key-other c.args.key.now c.if-key-ne38.true))

pub returns : goal.returns
returns c = c.ok_or.ensures.value ∙ answer-read 15 _ _ (c.key_at.ensures ∙ key-whole c.args.key.now c.if-key-ne38.false)
