-- `kinds::parse_components` meets its contract: the number of components picks the group, which is the kinds with that many parts, and the first word picks between two readers.
use mathlib.Core.Path.{sym, ◌∙◌}
use mathlib.Core.List.{[], ◌∷◌}
use lib.Dec.{lit<}
use Rattle.read_pieces.specs.CutLaws.{cut-components}
use Rattle.path.specs.AsciiLaws.{none-high, upgrades-low}
use Rattle.path.specs.Kinds.{kind4, kind6, kind7, kind8, kind9, kind10, kind11, kind12, kind13, kind14, kind18, kind19}
use Rattle.read_pieces.specs.CountLaws.{groups, read_all, read_only, read-first, read-second, read_none, unfound, no-port, no-connection, no-ends, no_update}
use Rattle.read_kinds.proofs.kinds.parse_components.Goals as goal

pub returns-then-count-eq1 : goal.returns-then-count-eq1
returns-then-count-eq1 c =
    let n = cut-components _ _ 1 c.args.text.is_cut c.if-count-eq1.true (lit< tt) in
    read_all _ 1 n _ _ groups.0 c.parse_next_sequence.ensures

pub returns-then-is_word : goal.returns-then-is_word
returns-then-is_word c =
    let n = cut-components _ _ 2 c.args.text.is_cut c.if-count-eq2.true (lit< tt) in
    read_only _ 2 n (kind9 ∷ []) (kind10 ∷ []) groups.1 _ c.parse_connections.ensures (no-port _ (sym c.is_word.ensures ∙ c.if-is_word.true))

pub returns-then-count-eq2 : goal.returns-then-count-eq2
returns-then-count-eq2 c =
    let n = cut-components _ _ 2 c.args.text.is_cut c.if-count-eq2.true (lit< tt) in
    read-second _ 2 n (kind9 ∷ []) (kind10 ∷ []) groups.1 _ (no-connection _ (sym c.is_word.ensures ∙ c.if-is_word.false)) c.parse_ports.ensures

pub returns-then-is_some : goal.returns-then-is_some
returns-then-is_some c =
    let n = cut-components _ _ 3 c.args.text.is_cut c.if-count-eq3.true (lit< tt) in
    read-first _ 3 n (kind4 ∷ kind8 ∷ []) (kind18 ∷ kind19 ∷ []) groups.2 _ (sym c.is_some.ensures ∙ c.if-is_some.true) c.parse_clients-client.ensures

pub returns-then-not-all_ascii : goal.returns-then-not-all_ascii
returns-then-not-all_ascii c =
    let n = cut-components _ _ 3 c.args.text.is_cut c.if-count-eq3.true (lit< tt) in
    let high = none-high (kind18 ∷ kind19 ∷ []) c.args.text.text.now upgrades-low (sym c.all_ascii.ensures ∙ c.if-not-all_ascii.true) in
    read-second _ 3 n (kind4 ∷ kind8 ∷ []) (kind18 ∷ kind19 ∷ []) groups.2 _ (unfound _ _ (sym c.is_some.ensures ∙ c.if-is_some.false) c.parse_clients-client.ensures) high

pub returns-then-count-eq3 : goal.returns-then-count-eq3
returns-then-count-eq3 c =
    let n = cut-components _ _ 3 c.args.text.is_cut c.if-count-eq3.true (lit< tt) in
    read-second _ 3 n (kind4 ∷ kind8 ∷ []) (kind18 ∷ kind19 ∷ []) groups.2 _ (unfound _ _ (sym c.is_some.ensures ∙ c.if-is_some.false) c.parse_clients-client.ensures) c.parse_upgrades.ensures

pub returns-then-count-eq4 : goal.returns-then-count-eq4
returns-then-count-eq4 c =
    let n = cut-components _ _ 4 c.args.text.is_cut c.if-count-eq4.true (lit< tt) in
    read_all _ 4 n _ _ groups.3 c.parse_consensus_states.ensures

pub returns-then-is_word-2 : goal.returns-then-is_word-2
returns-then-is_word-2 c =
    let n = cut-components _ _ 5 c.args.text.is_cut c.if-count-eq5.true (lit< tt) in
    read_only _ 5 n (kind6 ∷ kind7 ∷ []) (kind11 ∷ kind12 ∷ kind13 ∷ kind14 ∷ []) groups.4 _ c.parse_updates.ensures (no-ends _ (sym c.is_word-then-count-eq5.ensures ∙ c.if-is_word-2.true))

pub returns-then-count-eq5 : goal.returns-then-count-eq5
returns-then-count-eq5 c =
    let n = cut-components _ _ 5 c.args.text.is_cut c.if-count-eq5.true (lit< tt) in
    read-second _ 5 n (kind6 ∷ kind7 ∷ []) (kind11 ∷ kind12 ∷ kind13 ∷ kind14 ∷ []) groups.4 _ (no_update _ (sym c.is_word-then-count-eq5.ensures ∙ c.if-is_word-2.false)) c.parse_channel_ends.ensures

pub returns-then-count-eq7 : goal.returns-then-count-eq7
returns-then-count-eq7 c =
    let n = cut-components _ _ 7 c.args.text.is_cut c.if-count-eq7.true (lit< tt) in
    read_all _ 7 n _ _ groups.5 c.parse_packets.ensures

pub returns : goal.returns
returns c =
    read_none _ _ c.args.text.is_cut c.if-count-eq1.false c.if-count-eq2.false c.if-count-eq3.false c.if-count-eq4.false c.if-count-eq5.false c.if-count-eq7.false
