-- `fault::suits_packets` meets its contract.
use mathlib.Core.Path.{sym, ◌∙◌}
use lib.Dec.{lit<}
use Rattle.read_pieces.specs.CutLaws.{cut-components}
use Rattle.read_faults.specs.FaultLaws.{packets-by}
use Rattle.read_faults.proofs.suits_packets.Goals as goal

pub returns-then-not-suits_packet : goal.returns-then-not-suits_packet
returns-then-not-suits_packet c =
    let n = cut-components _ _ 7 c.args.text.is_cut c.requires (lit< tt) in
    rw (packets-by _ n, sym c.suits_packet.ensures ∙ c.if-not-suits_packet.true)

pub returns-then-is_word : goal.returns-then-is_word
returns-then-is_word c =
    let n = cut-components _ _ 7 c.args.text.is_cut c.requires (lit< tt) in
    rw (packets-by _ n, sym c.suits_packet.ensures ∙ c.if-not-suits_packet.false, sym c.is_word.ensures ∙ c.if-is_word.true)

pub returns-then-is_word-2 : goal.returns-then-is_word-2
returns-then-is_word-2 c =
    let n = cut-components _ _ 7 c.args.text.is_cut c.requires (lit< tt) in
    rw (packets-by _ n, sym c.suits_packet.ensures ∙ c.if-not-suits_packet.false, sym c.is_word.ensures ∙ c.if-is_word.false, sym c.is_word-2.ensures ∙ c.if-is_word-2.true)

pub returns : goal.returns
returns c =
    let n = cut-components _ _ 7 c.args.text.is_cut c.requires (lit< tt) in
    rw (packets-by _ n, sym c.suits_packet.ensures ∙ c.if-not-suits_packet.false, sym c.is_word.ensures ∙ c.if-is_word.false, sym c.is_word-2.ensures ∙ c.if-is_word-2.false) c.is_word-3.ensures
