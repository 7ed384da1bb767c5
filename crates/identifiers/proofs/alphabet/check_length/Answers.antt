-- `identifiers::alphabet::check_length` meets its contract.
use mathlib.Core.Path.{sym, ◌∙◌}
use borrow.Author.Tests.{eqb-false}
use Rattle.identifiers.specs.CheckLaws.{first_some}
use Rattle.identifiers.proofs.alphabet.check_length.Goals as goal

pub returns-then-not-takes : goal.returns-then-not-takes
returns-then-not-takes g c = c.other.ensures ∙ sym (rw (sym c.takes.ensures ∙ c.if-not-takes.true) (first_some _ _ (eqb-false _ 0 g.met.A.Alphabet.refuses)))

pub returns : goal.returns
returns g c = rw (sym c.takes.ensures ∙ c.if-not-takes.false, ← c.max.ensures) c.length_within.ensures
