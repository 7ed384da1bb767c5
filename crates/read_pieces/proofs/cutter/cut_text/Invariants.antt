-- `cutter::cut_text` meets its contract.
use Prim.Native.Nat.{◌≤◌}
use mathlib.Core.Path.{◌≡◌}
use lib.ListN.{length, drop}
use Rattle.path.specs.Cut.{cut_of}
use Rattle.read_pieces.specs.CutLaws.{fill_from}
use Rattle.read_pieces.proofs.cutter.cut_text.Given as goal

-- what is left of the text fills the rest of the cut
abbrev pub invariant-loop-i : goal.invariant-loop-i
invariant-loop-i l = (1 ≤ l.count) × (l.count ≤ 8) × (length l.starts ≡ 8) × (fill_from l.i (drop l.i l.text) l.starts l.count ≡ cut_of l.text)
