use Rattle.std.proofs.Common.{arith, add_assoc, add-zero, get_or-drop, drop-drop}
use Rattle.text.specs.Number.{little}
use Rattle.text.proofs.part.eight.Goals as goal

pub returns-clause-value : goal.returns-clause-value
unfolding little
returns-clause-value c = simp (get_or-drop, drop-drop, add_assoc, add-zero) (omega (arith, c.from_le_bytes.ensures))
