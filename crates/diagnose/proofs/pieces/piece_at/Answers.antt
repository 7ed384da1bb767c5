-- `pieces::piece_at` meets its contract.
use Prim.Native.Nat.{◌+◌, ◌<◌}
use native.Mathlib.Omega.{arith}
use Rattle.diagnose.specs.PiecesLaws.{seven-length, ends-here, next_start, shows_middle, shows-last}
use borrow.Author.Rules.{rules}
use Rattle.diagnose.proofs.pieces.piece_at.Goals as goal

pub offset_bounds-starts-k : goal.offset_bounds-starts-k
offset_bounds-starts-k c = let h : c.args.k < 7 = omega (arith, c.requires, seven-length c.args.text.text.now) in search rules

pub bounds-starts-k : goal.bounds-starts-k
bounds-starts-k c = let h : c.args.k < 7 = omega (arith, c.requires, seven-length c.args.text.text.now) in search rules

pub overflow_add-k : goal.overflow_add-k
overflow_add-k c = let h : c.args.k < 7 = omega (arith, c.requires, seven-length c.args.text.text.now) in search rules

pub offset_bounds-starts-k-then-k-count : goal.offset_bounds-starts-k-then-k-count
offset_bounds-starts-k-then-k-count c = let h : c.args.k + 1 < 8 = omega (arith, c.requires, seven-length c.args.text.text.now) in search rules

pub bounds-starts-k-then-k-count : goal.bounds-starts-k-then-k-count
bounds-starts-k-then-k-count c = let h : c.args.k + 1 < 8 = omega (arith, c.requires, seven-length c.args.text.text.now) in search rules

pub overflow_sub-result : goal.overflow_sub-result
overflow_sub-result c = omega (arith, next_start _ _ c.args.text.is_cut c.args.k c.requires c.if-k-count.true)

pub slice_bounds-result-count : goal.slice_bounds-result-count
slice_bounds-result-count c = omega (arith, next_start _ _ c.args.text.is_cut c.args.k c.requires c.if-k-count.true)

pub slice_bounds-result-start : goal.slice_bounds-result-start
slice_bounds-result-start c = omega (arith, next_start _ _ c.args.text.is_cut c.args.k c.requires c.if-k-count.true)

pub slice_bounds-result-end : goal.slice_bounds-result-end
slice_bounds-result-end c = omega (arith, next_start _ _ c.args.text.is_cut c.args.k c.requires c.if-k-count.true, ends-here _ _ c.args.text.is_cut c.args.k c.requires)

pub returns-then-k-count : goal.returns-then-k-count
returns-then-k-count c = shows_middle _ _ c.args.text.is_cut c.args.k c.requires c.if-k-count.true

pub slice_bounds-result-count-2 : goal.slice_bounds-result-count-2
slice_bounds-result-count-2 c = omega (arith, ends-here _ _ c.args.text.is_cut c.args.k c.requires)

pub slice_bounds-result-start-2 : goal.slice_bounds-result-start-2
slice_bounds-result-start-2 c = omega (arith, ends-here _ _ c.args.text.is_cut c.args.k c.requires)

pub returns : goal.returns
returns c = shows-last _ _ c.args.text.is_cut c.args.k c.requires c.if-k-count.false
