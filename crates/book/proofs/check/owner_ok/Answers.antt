-- `book::check::owner_ok` meets its contract.
use mathlib.Core.Path.{sym, ap, ◌∙◌}
use lib.ListN.{get_or}
use Rattle.book_form.specs.declared.Version.{Version}
use Rattle.book.specs.Check.{owner_ok}
use Rattle.book.proofs.check.owner_ok.Goals as goal

pub returns-in-Three : goal.returns-in-Three
returns-in-Three c = c.is_owner.ensures ∙ ap (λ (v : Version). owner_ok v (get_or c.args.book.now c.args.at 0)) (sym c.in-Three.is)
