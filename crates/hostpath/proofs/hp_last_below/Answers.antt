use mathlib.Core.Path.{ap, ◌∙◌}
use Rattle.iteration.specs.Key.{pair_of}
use Rattle.hostpath.proofs.hp_last_below.Goals as goal

pub returns : goal.returns
returns c = c.pair_of.ensures ∙ ap pair_of c.last_below.ensures
