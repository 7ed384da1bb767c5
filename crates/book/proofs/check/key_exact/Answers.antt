-- `book::key_exact` meets its contract.
use mathlib.Core.Path.{refl, sym, ◌∙◌}
use Rattle.path.specs.ViewLaws.{view-exact, is_seen, is-unread}
use Rattle.book.specs.CheckWayLaws.{tells-refused, tells-exact}
use Rattle.book.proofs.check.key_exact.Goals as goal

pub returns-in_default : goal.returns-in_default
returns-in_default c = tells-refused _ _ _ _ (is-unread _ _ (sym c.in_default.is ∙ c.walk_view.ensures)) refl c.key_at.ensures.bytes

pub returns : goal.returns
returns c =
    let q = is_seen _ _ (sym c.in-Ok.is ∙ c.walk_view.ensures) in
    rw (view-exact _ _ _ q.shows) (tells-exact _ _ _ _ _ q.read refl c.key_at.ensures.bytes)
