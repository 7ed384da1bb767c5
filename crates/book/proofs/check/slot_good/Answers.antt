-- `book::check::slot_good` meets its contract.
use Rattle.book.specs.CheckWayLaws.{tells-slot, tells-owner, tells_both}
use native.Mathlib.Omega.{arith}
use Rattle.book.proofs.check.slot_good.Goals as goal

pub returns-then-not-owner_ok : goal.returns-then-not-owner_ok
returns-then-not-owner_ok c = tells-owner c.args.version _ c.args.i _ c.slot_at-at.ensures (omega (arith, c.slot_at-at.ensures, c.requires)) _ c.owner_ok.ensures (c.if-not-owner_ok.true)

pub returns-then-not-slot_ok : goal.returns-then-not-slot_ok
returns-then-not-slot_ok c = tells-slot c.args.version _ c.args.i _ c.slot_at-at.ensures _ c.slot_ok.ensures (c.if-not-slot_ok.true)

pub returns : goal.returns
returns c = tells_both c.args.version _ c.args.i _ c.slot_at-at.ensures (omega (arith, c.slot_at-at.ensures, c.requires)) _ _ _ (c.slot_ok.ensures.holds (c.if-not-slot_ok.false)) c.owner_ok.ensures (c.if-not-owner_ok.false) c.lead.ensures c.key_exact.ensures
