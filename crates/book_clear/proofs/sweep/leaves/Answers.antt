-- `book_clear::sweep::leaves` meets its contract.
use mathlib.Core.Path.{sym, ap, ◌∙◌}
use Rattle.book_clear.specs.Stay.{leaves}
use Rattle.book_clear.proofs.sweep.leaves.Goals as goal

pub returns-in-State : goal.returns-in-State
returns-in-State c = c.leaves_at.ensures ∙ sym (ap (leaves c.args.stay) c.in-State.is)

pub returns-in-Beside : goal.returns-in-Beside
returns-in-Beside c = c.leaves_at-in-Beside.ensures ∙ sym (ap (leaves c.args.stay) c.in-Beside.is)
