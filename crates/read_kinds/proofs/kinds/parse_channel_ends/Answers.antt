-- `kinds::parse_channel_ends` meets its contract.
use mathlib.Core.Path.{sym, ◌∙◌}
use mathlib.Core.Bool.{true, false, and-false}
use lib.Dec.{lit<}
use Rattle.read_pieces.specs.CutLaws.{cut-components}
use Rattle.path.specs.Read.{fits_kind, read_kind, read_first}
use Rattle.read_pieces.specs.Pieces.{ends_in, ends_parts}
use Rattle.read_pieces.specs.FitLaws.{no_run, is-run, word_if}
use Rattle.read_kinds.proofs.kinds.parse_channel_ends.Goals as goal

pub returns-in_default : goal.returns-in_default
unfolding ends_in fits_kind read_kind read_first
returns-in_default c = simp (no_run 1 ends_parts _ _ (sym c.in_default.is ∙ c.read_ends.ensures), and-false)

pub returns-then-is_word : goal.returns-then-is_word
unfolding ends_in fits_kind read_kind read_first
returns-then-is_word c =
    let n = cut-components _ _ 5 c.args.text.is_cut c.requires (lit< tt) in
    let r = is-run 1 ends_parts _ _ _ (sym c.in-Some.is ∙ c.read_ends.ensures) in
    let w1 = word_if _ _ _ c.is_word.ensures true c.if-is_word.true in
    simp (n, r.0, r.1, w1)

pub returns-then-is_word-2 : goal.returns-then-is_word-2
unfolding ends_in fits_kind read_kind read_first
returns-then-is_word-2 c =
    let n = cut-components _ _ 5 c.args.text.is_cut c.requires (lit< tt) in
    let r = is-run 1 ends_parts _ _ _ (sym c.in-Some.is ∙ c.read_ends.ensures) in
    let w1 = word_if _ _ _ c.is_word.ensures false c.if-is_word.false in
    let w2 = word_if _ _ _ c.is_word-2.ensures true c.if-is_word-2.true in
    simp (n, r.0, r.1, w1, w2)

pub returns-then-is_word-3 : goal.returns-then-is_word-3
unfolding ends_in fits_kind read_kind read_first
returns-then-is_word-3 c =
    let n = cut-components _ _ 5 c.args.text.is_cut c.requires (lit< tt) in
    let r = is-run 1 ends_parts _ _ _ (sym c.in-Some.is ∙ c.read_ends.ensures) in
    let w1 = word_if _ _ _ c.is_word.ensures false c.if-is_word.false in
    let w2 = word_if _ _ _ c.is_word-2.ensures false c.if-is_word-2.false in
    let w3 = word_if _ _ _ c.is_word-3.ensures true c.if-is_word-3.true in
    simp (n, r.0, r.1, w1, w2, w3)

pub returns-then-is_word-4 : goal.returns-then-is_word-4
unfolding ends_in fits_kind read_kind read_first
returns-then-is_word-4 c =
    let n = cut-components _ _ 5 c.args.text.is_cut c.requires (lit< tt) in
    let r = is-run 1 ends_parts _ _ _ (sym c.in-Some.is ∙ c.read_ends.ensures) in
    let w1 = word_if _ _ _ c.is_word.ensures false c.if-is_word.false in
    let w2 = word_if _ _ _ c.is_word-2.ensures false c.if-is_word-2.false in
    let w3 = word_if _ _ _ c.is_word-3.ensures false c.if-is_word-3.false in
    let w4 = word_if _ _ _ c.is_word-4.ensures true c.if-is_word-4.true in
    simp (n, r.0, r.1, w1, w2, w3, w4)

pub returns : goal.returns
unfolding ends_in fits_kind read_kind read_first
returns c =
    let w1 = word_if _ _ _ c.is_word.ensures false c.if-is_word.false in
    let w2 = word_if _ _ _ c.is_word-2.ensures false c.if-is_word-2.false in
    let w3 = word_if _ _ _ c.is_word-3.ensures false c.if-is_word-3.false in
    let w4 = word_if _ _ _ c.is_word-4.ensures false c.if-is_word-4.false in
    simp (w1, w2, w3, w4, and-false)
