-- `identifiers::alphabet::check_named_index` meets its contract.
use mathlib.Core.Path.{sym, ◌∙◌}
use Rattle.text.specs.FaultLaws.{refuses}
use borrow.Author.Tests.{eqb-false}
use Rattle.identifiers.specs.CheckLaws.{first_some}
use Rattle.identifiers.proofs.alphabet.check_named_index.Goals as goal

pub returns-then-not-takes : goal.returns-then-not-takes
returns-then-not-takes g c =
    let n = g.A.Alphabet.other in
    c.placeless.ensures ∙ rw (c.other.ensures) (refuses n _ _ (rw (sym c.takes.ensures ∙ c.if-not-takes.true) (first_some n _ (eqb-false _ 0 g.met.A.Alphabet.refuses))) g.met.A.Alphabet.placeless)

pub returns-then-not-takes-2 : goal.returns-then-not-takes-2
returns-then-not-takes-2 g c =
    let n = g.A.Alphabet.other in
    c.placeless-then-not-takes-2.ensures ∙ rw (c.other-then-not-takes-2.ensures) (refuses n _ _ (rw (sym c.takes.ensures ∙ c.if-not-takes.false, sym c.takes-2.ensures ∙ c.if-not-takes-2.true) (first_some n _ (eqb-false _ 0 g.met.A.Alphabet.refuses))) g.met.A.Alphabet.placeless)

pub returns : goal.returns
returns g c = rw (sym c.takes.ensures ∙ c.if-not-takes.false, sym c.takes-2.ensures ∙ c.if-not-takes-2.false) c.check_named.ensures
