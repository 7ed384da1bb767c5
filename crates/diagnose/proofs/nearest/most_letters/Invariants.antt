-- `nearest::most_letters` meets its contract. The invariant: the most letters of the first d ways.
use mathlib.Core.Path.{◌≡◌}
use Rattle.diagnose.specs.Diagnosis.{most, letters_but, seven}
use Rattle.diagnose.specs.Table.{parts_in}
use Rattle.diagnose.proofs.nearest.most_letters.Given as goal

abbrev pub invariant-loop-d : goal.invariant-loop-d
invariant-loop-d l = l.best ≡ most (letters_but (parts_in l.kind.text.now) (seven l.text.text.now)) l.d
