-- `letters::picture::seen_as` meets its contract.
use mathlib.Core.Path.{sym, ap, ◌∙◌}
use native.Mathlib.Omega.{arith}
use borrow.Author.Tests.{lt-ltb, le-ltb}
use Rattle.std.proofs.lemmas.Option.{same_Some}
use Rattle.letters.specs.declared.CodePoint.{CodePoint}
use Rattle.letters.proofs.picture.seen_as.Goals as goal

pub returns-in-Some : goal.returns-in-Some
returns-in-Some c = rw (c.in-Some.is, lt-ltb c.in-Some.c.value 128 c.if-c-lt128.true)

pub returns-in-Some-2 : goal.returns-in-Some-2
returns-in-Some-2 c =
    let same = ap (λ (p : CodePoint). p.value) (same_Some _ _ (sym c.in-Some.is ∙ c.in-Some-2.is)) in
    c.mark_of.ensures ∙ rw (c.in-Some-2.is, le-ltb c.in-Some-2.c.value 128 (omega (arith, same)))
