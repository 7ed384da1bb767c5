use native.Mathlib.Omega.{arith}
use borrow.Author.Rules.{rules}
use Rattle.diagnose.specs.PiecesLaws.{seven-length}
use Rattle.diagnose.specs.NearestLaws.{piece-room, letters-room, along-start, along-at_end, along-at-next}
use Rattle.diagnose.proofs.nearest.letters_along.Goals as goal

pub loop-k-init : goal.loop-k-init
loop-k-init c = (omega arith, omega arith, along-start c.args.kind.text.now c.args.text.text.now c.args.times c.args.at c.args.from)

pub letters_of-requires : goal.letters_of-requires
letters_of-requires c = piece-room c.args.kind.text.now _ _ c.piece_at-w.ensures c.requires.0

pub overflow_mul-sum : goal.overflow_mul-sum
overflow_mul-sum c =
    let h = letters-room c.loop-k.n _ _ _ c.loop-k.invariant.0 (piece-room c.args.kind.text.now _ _ c.piece_at-w.ensures c.requires.0) c.letters_of.ensures in
    search rules

pub overflow_add-sum : goal.overflow_add-sum
overflow_add-sum c =
    let h = letters-room c.loop-k.n _ _ _ c.loop-k.invariant.0 (piece-room c.args.kind.text.now _ _ c.piece_at-w.ensures c.requires.0) c.letters_of.ensures in
    omega (arith, h, seven-length c.args.kind.text.now, c.seen_of.ensures, c.loop-k.invariant.1)

pub loop-k-preserved : goal.loop-k-preserved
loop-k-preserved c =
    let h = letters-room c.loop-k.n _ _ _ c.loop-k.invariant.0 (piece-room c.args.kind.text.now _ _ c.piece_at-w.ensures c.requires.0) c.letters_of.ensures in
    (omega arith, omega (arith, h, c.loop-k.invariant.1), along-at-next c.args.kind.text.now c.args.text.text.now c.args.times c.args.at c.args.from c.loop-k.n c.loop-k.sum c.loop-k.k c.loop-k.invariant.2 (omega (arith, c.seen_of.ensures)) (omega (arith, c.seen_of-2.ensures)) _ _ c.piece_at-w.ensures c.piece_at.ensures _ c.letters_of.ensures)

pub returns : goal.returns
returns c =
    along-at_end c.args.kind.text.now c.args.text.text.now c.args.times c.args.at c.args.from c.loop-k.n c.loop-k.sum c.loop-k.k c.loop-k.invariant.2 (omega (arith, c.seen_of.ensures, c.seen_of-2.ensures))
