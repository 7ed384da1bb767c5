-- `pieces::seen_of` meets its contract.
use native.Mathlib.Omega.{arith}
use Rattle.diagnose.specs.PiecesLaws.{count-seen}
use Rattle.diagnose.proofs.pieces.seen_of.Goals as goal

pub returns : goal.returns
returns c = omega (arith, count-seen _ _ c.args.text.is_cut, c.min.ensures)
