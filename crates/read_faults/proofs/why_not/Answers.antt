-- `fault::why_not` meets its contract.
use mathlib.Core.Path.{refl, sym, ◌∙◌}
use mathlib.Core.List.{[], ◌∷◌}
use lib.Dec.{lit<}
use Rattle.path.specs.Kinds.{count, pair, kind5, kind6, kind7, kind15, kind16, kind17, kind18, kind19}
use Rattle.path.specs.Read.{part_faults}
use Rattle.read_pieces.specs.CutLaws.{cut-components}
use Rattle.read_faults.specs.FaultLaws.{groups, why-shown, why_unsuited, why-none, consensus-by}
use Rattle.read_faults.proofs.why_not.Goals as goal

pub returns-then-suits_upgrades : goal.returns-then-suits_upgrades
unfolding part_faults
returns-then-suits_upgrades c =
    let n = cut-components _ _ 3 c.args.text.is_cut c.if-count-eq3.true (lit< tt) in
    why-shown _ 3 n (kind18 ∷ kind19 ∷ []) groups.0 count 1 (refl, (refl, tt)) _ c.suits_upgrades.ensures c.if-suits_upgrades.true _ c.count_fault.ensures

pub returns-then-count-eq3 : goal.returns-then-count-eq3
unfolding part_faults
returns-then-count-eq3 c =
    let n = cut-components _ _ 3 c.args.text.is_cut c.if-count-eq3.true (lit< tt) in
    why_unsuited _ 3 n (kind18 ∷ kind19 ∷ []) groups.0 count 1 (refl, (refl, tt)) _ c.suits_upgrades.ensures c.if-suits_upgrades.false

pub returns-then-suits_consensus : goal.returns-then-suits_consensus
unfolding part_faults
returns-then-suits_consensus c =
    let n = cut-components _ _ 4 c.args.text.is_cut c.if-count-eq4.true (lit< tt) in
    why-shown _ 4 n (kind5 ∷ []) groups.1 pair 3 (refl, tt) _ (c.suits_consensus.ensures ∙ sym (consensus-by _ n)) c.if-suits_consensus.true _ c.pair_fault.ensures

pub returns-then-count-eq4 : goal.returns-then-count-eq4
unfolding part_faults
returns-then-count-eq4 c =
    let n = cut-components _ _ 4 c.args.text.is_cut c.if-count-eq4.true (lit< tt) in
    why_unsuited _ 4 n (kind5 ∷ []) groups.1 pair 3 (refl, tt) _ (c.suits_consensus.ensures ∙ sym (consensus-by _ n)) c.if-suits_consensus.false

pub returns-then-suits_updates : goal.returns-then-suits_updates
unfolding part_faults
returns-then-suits_updates c =
    let n = cut-components _ _ 5 c.args.text.is_cut c.if-count-eq5.true (lit< tt) in
    why-shown _ 5 n (kind6 ∷ kind7 ∷ []) groups.2 pair 3 (refl, (refl, tt)) _ c.suits_updates.ensures c.if-suits_updates.true _ c.pair_fault-then-suits_updates.ensures

pub returns-then-count-eq5 : goal.returns-then-count-eq5
unfolding part_faults
returns-then-count-eq5 c =
    let n = cut-components _ _ 5 c.args.text.is_cut c.if-count-eq5.true (lit< tt) in
    why_unsuited _ 5 n (kind6 ∷ kind7 ∷ []) groups.2 pair 3 (refl, (refl, tt)) _ c.suits_updates.ensures c.if-suits_updates.false

pub returns-then-suits_packets : goal.returns-then-suits_packets
unfolding part_faults
returns-then-suits_packets c =
    let n = cut-components _ _ 7 c.args.text.is_cut c.if-count-eq7.true (lit< tt) in
    why-shown _ 7 n (kind15 ∷ kind16 ∷ kind17 ∷ []) groups.3 count 6 (refl, (refl, (refl, tt))) _ c.suits_packets.ensures c.if-suits_packets.true _ c.count_fault-then-suits_packets.ensures

pub returns-else-suits_packets : goal.returns-else-suits_packets
unfolding part_faults
returns-else-suits_packets c =
    let n = cut-components _ _ 7 c.args.text.is_cut c.if-count-eq7.true (lit< tt) in
    why_unsuited _ 7 n (kind15 ∷ kind16 ∷ kind17 ∷ []) groups.3 count 6 (refl, (refl, (refl, tt))) _ c.suits_packets.ensures c.if-suits_packets.false

pub returns-else-count-eq7 : goal.returns-else-count-eq7
returns-else-count-eq7 c = why-none _ _ c.args.text.is_cut c.if-count-eq3.false c.if-count-eq4.false c.if-count-eq5.false c.if-count-eq7.false
