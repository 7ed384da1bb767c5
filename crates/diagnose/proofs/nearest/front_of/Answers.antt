use native.Mathlib.Omega.{arith}
use Rattle.diagnose.specs.NearestLaws.{front-at_end, front-at-stop, front-at-next}
use Rattle.diagnose.proofs.nearest.front_of.Goals as goal

pub returns-then-not-fits_part : goal.returns-then-not-fits_part
returns-then-not-fits_part c =
    front-at-stop _ _ c.loop-i.i c.loop-i.invariant (omega (arith, c.seen_of.ensures)) (omega (arith, c.seen_of-2.ensures)) _ _ c.piece_at.ensures c.piece_at-in-loop-i.ensures _ c.fits_part.ensures c.if-not-fits_part.true

pub loop-i-preserved : goal.loop-i-preserved
loop-i-preserved c =
    front-at-next _ _ c.loop-i.i c.loop-i.invariant (omega (arith, c.seen_of.ensures)) (omega (arith, c.seen_of-2.ensures)) _ _ c.piece_at.ensures c.piece_at-in-loop-i.ensures _ c.fits_part.ensures c.if-not-fits_part.false

pub returns : goal.returns
returns c = omega (arith, front-at_end _ _ c.loop-i.i c.loop-i.invariant (omega (arith, c.seen_of.ensures, c.seen_of-2.ensures)))
