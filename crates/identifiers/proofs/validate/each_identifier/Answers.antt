use Rattle.std.proofs.Common.{rules, ◌≡◌, true, false}
use borrow.Author.Tests.{tests}
use Rattle.std.proofs.lemmas.Iterator.{cases_from_all, YieldsList-from_slice}
use Rattle.text.specs.PartLaws.{every-match}
use Rattle.identifiers.specs.Check.{identifier_byte}
use Rattle.identifiers.proofs.validate.each_identifier.Goals as goal

pub returns : goal.returns
returns c =
    every-match identifier_byte _ _
    (cases_from_all _ _ _ (λ b. identifier_byte b ≡ true) (λ b. identifier_byte b ≡ false) c.all.ensures.ran (YieldsList-from_slice c.args.id.now cc) (λ x q k. search (rules, tests)) (λ x q k. search (rules, tests)))
