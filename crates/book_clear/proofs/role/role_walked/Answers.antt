-- `book_clear::role::role_walked` meets its contract.
use Rattle.book_clear.specs.RoleLaws.{role-refused, note-other, note-is}
use Rattle.path.specs.ViewLaws.{is_seen, is-unread}
use Rattle.std.proofs.Common.{refl, sym, ◌∙◌}
use Rattle.book_clear.proofs.role.role_walked.Goals as goal

pub returns-in_default : goal.returns-in_default
returns-in_default c = role-refused _ _ _ (is-unread _ _ (sym c.in_default.is ∙ c.walk_view.ensures))

pub returns-then-first-client : goal.returns-then-first-client
returns-then-first-client c = let q = is_seen _ _ (sym c.in-Ok.is ∙ c.walk_view.ensures) in note-other _ _ c.requires.0 c.requires.1 _ _ _ q.read refl _ q.shows c.if-first-client.true

pub returns : goal.returns
returns c = let q = is_seen _ _ (sym c.in-Ok.is ∙ c.walk_view.ensures) in c.role_at.ensures ∙ note-is _ _ c.requires.0 c.requires.1 _ _ _ q.read refl _ q.shows c.if-first-client.false
