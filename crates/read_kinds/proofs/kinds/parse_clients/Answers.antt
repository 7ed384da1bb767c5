-- `kinds::parse_clients` meets its contract.
use mathlib.Core.Path.{sym, ◌∙◌}
use mathlib.Core.Bool.{true, false, and-false}
use lib.Dec.{lit<}
use Rattle.text.specs.Bytes.{bytes}
use Rattle.read_pieces.specs.CutLaws.{cut-components}
use Rattle.path.specs.declared.name.Name.TheVariants.{Client as client}
use Rattle.path.specs.Read.{fits_kind, read_kind, read_first}
use Rattle.read_pieces.specs.Pieces.{place_after, place_parts}
use Rattle.read_pieces.specs.FitLaws.{no_run, is-run, word_if}
use Rattle.read_kinds.proofs.kinds.parse_clients.Goals as goal

pub returns-in_default : goal.returns-in_default
unfolding place_after fits_kind read_kind read_first
returns-in_default c = simp (no_run 0 (place_parts (bytes "clients") client) _ _ (sym c.in_default.is ∙ c.read_client.ensures), and-false)

pub returns-then-is_word : goal.returns-then-is_word
unfolding place_after fits_kind read_kind read_first
returns-then-is_word c =
    let n = cut-components _ _ 3 c.args.text.is_cut c.requires (lit< tt) in
    let r = is-run 0 (place_parts (bytes "clients") client) _ _ _ (sym c.in-Some.is ∙ c.read_client.ensures) in
    let w1 = word_if _ _ _ c.is_word.ensures true c.if-is_word.true in
    simp (n, r.0, r.1, w1)

pub returns-then-is_word-2 : goal.returns-then-is_word-2
unfolding place_after fits_kind read_kind read_first
returns-then-is_word-2 c =
    let n = cut-components _ _ 3 c.args.text.is_cut c.requires (lit< tt) in
    let r = is-run 0 (place_parts (bytes "clients") client) _ _ _ (sym c.in-Some.is ∙ c.read_client.ensures) in
    let w1 = word_if _ _ _ c.is_word.ensures false c.if-is_word.false in
    let w2 = word_if _ _ _ c.is_word-2.ensures true c.if-is_word-2.true in
    simp (n, r.0, r.1, w1, w2)

pub returns : goal.returns
unfolding place_after fits_kind read_kind read_first
returns c =
    let w1 = word_if _ _ _ c.is_word.ensures false c.if-is_word.false in
    let w2 = word_if _ _ _ c.is_word-2.ensures false c.if-is_word-2.false in
    simp (w1, w2, and-false)
