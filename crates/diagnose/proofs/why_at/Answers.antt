-- `why_at` meets its contract.
use native.Mathlib.Omega.{arith}
use Rattle.diagnose.specs.PiecesLaws.{count_many, seven-length}
use Rattle.diagnose.specs.ReasonLaws.{at-used, at_ended, at-empty, at-extra, at-missing, at_part}
use Rattle.diagnose.proofs.why_at.Goals as goal

pub returns-then-m-f : goal.returns-then-m-f
returns-then-m-f c = at-used c.args.kind.text.now c.args.text.text.now c.args.f _ c.seen_of-m.ensures c.if-m-f.true

pub returns-then-seen_of-f : goal.returns-then-seen_of-f
returns-then-seen_of-f c = at_ended c.args.kind.text.now c.args.text.text.now c.args.f _ c.seen_of-m.ensures c.if-m-f.false _ c.seen_of.ensures c.if-seen_of-f.true

pub returns-then-is_lacking : goal.returns-then-is_lacking
returns-then-is_lacking c = at-empty c.args.kind.text.now c.args.text.text.now c.args.f _ c.seen_of-m.ensures c.if-m-f.false _ c.seen_of.ensures c.if-seen_of-f.false _ _ c.piece_at-w.ensures c.piece_at-c.ensures _ c.is_lacking.ensures c.if-is_lacking.true

pub returns-then-fits_at : goal.returns-then-fits_at
returns-then-fits_at c = at-extra c.args.kind.text.now c.args.text.text.now c.args.f _ c.seen_of-m.ensures c.if-m-f.false _ c.seen_of.ensures c.if-seen_of-f.false _ _ c.piece_at-w.ensures c.piece_at-c.ensures _ c.is_lacking.ensures c.if-is_lacking.false _ (count_many _ _ c.args.text.is_cut) _ c.saturating_sub.ensures _ c.fits_at.ensures c.if-fits_at.true

pub overflow_add-f-2 : goal.overflow_add-f-2
overflow_add-f-2 c = omega (arith, c.requires, c.saturating_sub-2.ensures, c.seen_of-m.ensures, seven-length c.args.kind.text.now)

pub returns-then-part_fits : goal.returns-then-part_fits
returns-then-part_fits c = at-missing c.args.kind.text.now c.args.text.text.now c.args.f _ c.seen_of-m.ensures c.if-m-f.false _ c.seen_of.ensures c.if-seen_of-f.false _ _ c.piece_at-w.ensures c.piece_at-c.ensures _ c.is_lacking.ensures c.if-is_lacking.false _ (count_many _ _ c.args.text.is_cut) _ c.saturating_sub.ensures _ c.fits_at.ensures c.if-fits_at.false _ c.saturating_sub-2.ensures _ c.part_fits.ensures c.if-part_fits.true

pub returns : goal.returns
returns c = at_part c.args.kind.text.now c.args.text.text.now c.args.f _ c.seen_of-m.ensures c.if-m-f.false _ c.seen_of.ensures c.if-seen_of-f.false _ _ c.piece_at-w.ensures c.piece_at-c.ensures _ c.is_lacking.ensures c.if-is_lacking.false _ (count_many _ _ c.args.text.is_cut) _ c.saturating_sub.ensures _ c.fits_at.ensures c.if-fits_at.false _ c.saturating_sub-2.ensures _ c.part_fits.ensures c.if-part_fits.false _ c.part_why.ensures
