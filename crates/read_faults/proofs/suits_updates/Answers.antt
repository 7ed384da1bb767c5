-- `fault::suits_updates` meets its contract.
use mathlib.Core.Path.{sym, ◌∙◌}
use lib.Dec.{lit<}
use Rattle.read_pieces.specs.CutLaws.{cut-components}
use Rattle.read_faults.specs.FaultLaws.{updates-by}
use Rattle.read_faults.proofs.suits_updates.Goals as goal

pub returns-then-not-suits_consensus : goal.returns-then-not-suits_consensus
returns-then-not-suits_consensus c =
    let n = cut-components _ _ 5 c.args.text.is_cut c.requires (lit< tt) in
    rw (updates-by _ n, sym c.suits_consensus.ensures ∙ c.if-not-suits_consensus.true)

pub returns-then-is_word : goal.returns-then-is_word
returns-then-is_word c =
    let n = cut-components _ _ 5 c.args.text.is_cut c.requires (lit< tt) in
    rw (updates-by _ n, sym c.suits_consensus.ensures ∙ c.if-not-suits_consensus.false, sym c.is_word.ensures ∙ c.if-is_word.true)

pub returns : goal.returns
returns c =
    let n = cut-components _ _ 5 c.args.text.is_cut c.requires (lit< tt) in
    rw (updates-by _ n, sym c.suits_consensus.ensures ∙ c.if-not-suits_consensus.false, sym c.is_word.ensures ∙ c.if-is_word.false) c.is_word-2.ensures
