-- `kinds::parse_next_sequence` meets its contract.
use mathlib.Core.Bool.{true, false, and-false}
use lib.Dec.{lit<}
use Rattle.read_pieces.specs.CutLaws.{cut-components}
use Rattle.path.specs.Read.{fits_kind, read_kind, read_first}
use Rattle.read_pieces.specs.FitLaws.{word_if}
use Rattle.read_kinds.proofs.kinds.parse_next_sequence.Goals as goal

pub returns-then-is_word : goal.returns-then-is_word
unfolding fits_kind read_kind read_first
returns-then-is_word c =
    let n = cut-components _ _ 1 c.args.text.is_cut c.requires (lit< tt) in
    let w1 = word_if _ _ _ c.is_word.ensures true c.if-is_word.true in
    simp (n, w1)

pub returns-then-is_word-2 : goal.returns-then-is_word-2
unfolding fits_kind read_kind read_first
returns-then-is_word-2 c =
    let n = cut-components _ _ 1 c.args.text.is_cut c.requires (lit< tt) in
    let w1 = word_if _ _ _ c.is_word.ensures false c.if-is_word.false in
    let w2 = word_if _ _ _ c.is_word-2.ensures true c.if-is_word-2.true in
    simp (n, w1, w2)

pub returns-then-is_word-3 : goal.returns-then-is_word-3
unfolding fits_kind read_kind read_first
returns-then-is_word-3 c =
    let n = cut-components _ _ 1 c.args.text.is_cut c.requires (lit< tt) in
    let w1 = word_if _ _ _ c.is_word.ensures false c.if-is_word.false in
    let w2 = word_if _ _ _ c.is_word-2.ensures false c.if-is_word-2.false in
    let w3 = word_if _ _ _ c.is_word-3.ensures true c.if-is_word-3.true in
    simp (n, w1, w2, w3)

pub returns : goal.returns
unfolding fits_kind read_kind read_first
returns c =
    let w1 = word_if _ _ _ c.is_word.ensures false c.if-is_word.false in
    let w2 = word_if _ _ _ c.is_word-2.ensures false c.if-is_word-2.false in
    let w3 = word_if _ _ _ c.is_word-3.ensures false c.if-is_word-3.false in
    simp (w1, w2, w3, and-false)
