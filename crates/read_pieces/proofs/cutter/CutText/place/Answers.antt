-- `cutter::CutText::place` meets its contract.
use native.Mathlib.Omega.{arith}
use Rattle.read_pieces.specs.CutLaws.{cut-here, cut-next, cut_middle, cut-last}
use Rattle.read_pieces.proofs.cutter.CutText.place.Goals as goal

pub overflow_sub-result : goal.overflow_sub-result
overflow_sub-result c =
    omega (arith, cut-next _ _ c.args.self.is_cut c.args.k c.requires.0 c.requires.1 c.if-k-count.true)

pub overflow_sub-result-then-k-count : goal.overflow_sub-result-then-k-count
overflow_sub-result-then-k-count c =
    omega (arith, cut-next _ _ c.args.self.is_cut c.args.k c.requires.0 c.requires.1 c.if-k-count.true)

pub overflow_sub-result-else-k-count : goal.overflow_sub-result-else-k-count
overflow_sub-result-else-k-count c =
    omega (arith, cut-here _ _ c.args.self.is_cut c.args.k c.requires.0 c.requires.1)

pub returns-then-k-count : goal.returns-then-k-count
returns-then-k-count c =
    cut_middle _ _ c.args.self.is_cut c.args.k c.requires.0 c.requires.1 c.if-k-count.true

pub returns-else-k-count : goal.returns-else-k-count
returns-else-k-count c =
    cut-last _ _ c.args.self.is_cut c.args.k c.requires.0 c.requires.1 c.if-k-count.false
