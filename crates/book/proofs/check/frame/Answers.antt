-- `book::check::frame` meets its contract.
use mathlib.Core.Path.{sym, ◌∙◌}
use Rattle.book.specs.CheckWayLaws.{no_size, no_front, no-quotas, no_room_when, frame_of}
use native.Mathlib.Omega.{arith}
use Rattle.book.proofs.check.frame.Goals as goal

pub returns-then-slots-eq0 : goal.returns-then-slots-eq0
returns-then-slots-eq0 c = no_size c.args.version _ _ c.slots_of-slots.ensures c.if-slots-eq0.true

pub returns-then-not-header_ok : goal.returns-then-not-header_ok
returns-then-not-header_ok c = no_front c.args.version _ (sym c.header_ok.ensures ∙ c.if-not-header_ok.true)

pub returns-then-not-quotas_fit : goal.returns-then-not-quotas_fit
returns-then-not-quotas_fit c = no-quotas c.args.version _ _ c.slots_of-slots.ensures _ c.quotas_fit.ensures (c.if-not-quotas_fit.true)

pub returns-then-slots-n : goal.returns-then-slots-n
returns-then-slots-n c = no_room_when c.args.version _ _ c.slots_of-slots.ensures _ c.count_of-n.ensures c.if-slots-n.true

pub returns : goal.returns
returns c = frame_of c.args.version _ _ c.slots_of-slots.ensures c.if-slots-eq0.false (λ j. omega (arith, c.shared_slice_known-1.given j)) _ (sym c.header_ok.ensures ∙ c.if-not-header_ok.false) (c.quotas_fit.ensures.holds (c.if-not-quotas_fit.false)) c.count_of-n.ensures c.if-slots-n.false
