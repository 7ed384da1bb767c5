-- `read_pieces::first_dash` meets its contract.
use Rattle.std.specs.Prelude.{◌≡◌, position, eqb}
use Rattle.std.proofs.Common.{◌∙◌, rules, tests}
use Rattle.std.proofs.lemmas.Iterator.{YieldsList-from_slice}
use Rattle.std.proofs.lemmas.Iterator.Search.{position_from_yields_List}
use Rattle.read_pieces.specs.PairLaws.{dash-found}
use Rattle.read_pieces.proofs.first_dash.Goals as goal

pub returns : goal.returns
returns c =
    let found : c.position.result ≡ position (λ b. eqb b 45) c.args.s.now = position_from_yields_List (λ b. eqb b 45) _ _ c.position.result c.position.ensures.ran (YieldsList-from_slice _ c.iter.ensures.rest) (λ x b q k. search (rules, tests)) in
    c.unwrap_or.ensures ∙ dash-found _ _ found
