use Rattle.std.proofs.Common.{rules, ◌≡◌, ◌∙◌, true, false}
use borrow.Author.Tests.{tests}
use Rattle.std.proofs.lemmas.Iterator.{IsFirst-from_position, YieldsList-from_slice}
use Rattle.text.specs.PartLaws.{part-rest}
use Rattle.identifiers.specs.Owned.{blank}
use Rattle.identifiers.specs.OwnedLaws.{start_found}
use Rattle.identifiers.proofs.client_id.trim_start.Goals as goal

pub returns : goal.returns
returns c =
    part-rest _ c.args.s.now
    ∙ rw c.unwrap_or-start.ensures
    (start_found c.args.s.now c.position.result
    (IsFirst-from_position _ _ _ (λ b. blank b ≡ false) (λ b. blank b ≡ true) c.position.ensures.ran (YieldsList-from_slice c.args.s.now cc) (λ x q k. search (rules, tests)) (λ x q k. search (rules, tests))))
