-- `shape::letters_of` meets its contract.
use mathlib.Core.Bool.{false}
use mathlib.Core.List.{reverse}
use native.Mathlib.Omega.{arith}
use Rattle.diagnose.specs.AgreeLaws.{agree-first, back-length}
use Rattle.diagnose.specs.ShapeLaws.{letters-word, letters-other}
use Rattle.diagnose.proofs.shape.letters_of.Goals as goal

pub overflow_add-result : goal.overflow_add-result
overflow_add-result c = omega (arith, c.agree_front.ensures, c.agree_back.ensures, c.requires, agree-first false c.args.w.now c.args.c.now, agree-first false (reverse c.args.w.now) (reverse c.args.c.now), back-length c.args.w.now)

pub returns-in-Word : goal.returns-in-Word
returns-in-Word c = letters-word _ _ _ c.shape_of.ensures c.in-Word.is _ _ c.agree_front.ensures c.agree_back.ensures

pub returns-in_default : goal.returns-in_default
returns-in_default c = letters-other _ _ _ c.shape_of.ensures c.in_default.not-Word
