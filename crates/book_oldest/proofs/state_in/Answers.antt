-- `book_oldest::state_in` meets its contract.
use mathlib.Core.Path.{refl, sym, ◌∙◌}
use Rattle.path.specs.ViewLaws.{is_seen, is-unread}
use Rattle.book_oldest.proofs.OldestLaws.{state-refused, state-other, state_elsewhere, state-is}
use Rattle.book_oldest.proofs.state_in.Goals as goal

pub returns-in_default : goal.returns-in_default
returns-in_default c = state-refused _ _ _ _ (is-unread _ _ (sym c.in_default.is ∙ c.walk_view.ensures)) refl

pub returns-then-kind-ne5 : goal.returns-then-kind-ne5
returns-then-kind-ne5 c =
    let q = is_seen _ _ (sym c.in-Ok.is ∙ c.walk_view.ensures) in
    state-other _ _ _ _ _ q.read refl _ q.shows c.if-kind-ne5.true

pub returns-then-not-equal : goal.returns-then-not-equal
returns-then-not-equal c =
    let q = is_seen _ _ (sym c.in-Ok.is ∙ c.walk_view.ensures) in
    state_elsewhere _ _ _ _ _ q.read refl _ q.shows c.if-kind-ne5.false _ c.part.ensures.bytes _ c.equal.ensures (c.if-not-equal.true)

pub returns : goal.returns
returns c =
    let q = is_seen _ _ (sym c.in-Ok.is ∙ c.walk_view.ensures) in
    state-is _ _ _ _ _ q.read refl _ q.shows c.if-kind-ne5.false _ c.part.ensures.bytes _ c.equal.ensures (c.if-not-equal.false)
