use native.Mathlib.Omega.{arith}
use Rattle.diagnose.specs.NearestLaws.{placed-at_end, placed-at-stop, placed-at-next}
use Rattle.diagnose.proofs.nearest.all_placed.Goals as goal

pub returns-then-not-word_stands : goal.returns-then-not-word_stands
returns-then-not-word_stands c =
    placed-at-stop _ _ c.loop-i.i c.loop-i.invariant (omega (arith, c.seen_of.ensures)) (omega (arith, c.seen_of-2.ensures)) _ _ c.piece_at.ensures c.piece_at-in-loop-i.ensures _ c.word_stands.ensures c.if-not-word_stands.true

pub loop-i-preserved : goal.loop-i-preserved
loop-i-preserved c =
    placed-at-next _ _ c.loop-i.i c.loop-i.invariant (omega (arith, c.seen_of.ensures)) (omega (arith, c.seen_of-2.ensures)) _ _ c.piece_at.ensures c.piece_at-in-loop-i.ensures _ c.word_stands.ensures c.if-not-word_stands.false

pub returns : goal.returns
returns c = placed-at_end _ _ c.loop-i.i c.loop-i.invariant (omega (arith, c.seen_of.ensures, c.seen_of-2.ensures))
