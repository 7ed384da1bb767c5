-- `kinds::parse_upgrades` meets its contract.
use mathlib.Core.Path.{sym, ◌∙◌}
use mathlib.Core.Bool.{true, false, and-false}
use lib.Dec.{lit<}
use mathlib.Core.List.{[], ◌∷◌}
use Rattle.read_kinds.specs.UpgradeLaws.{upgrade-fits}
use Rattle.read_pieces.specs.CutLaws.{cut-components}
use Rattle.path.specs.Kinds.{count}
use Rattle.path.specs.Read.{fits_kind, read_kind, read_first}
use Rattle.read_pieces.specs.Pieces.{height_at}
use Rattle.read_pieces.specs.FitLaws.{no_run, is-run, word_if}
use Rattle.read_kinds.proofs.kinds.parse_upgrades.Goals as goal

pub returns-in_default : goal.returns-in_default
unfolding height_at fits_kind read_kind read_first
returns-in_default c = simp (no_run 1 (count ∷ []) _ _ (sym c.in_default.is ∙ c.read_height.ensures), and-false)

pub returns-then-is_word : goal.returns-then-is_word
unfolding height_at fits_kind read_kind read_first
returns-then-is_word c =
    let n = cut-components _ _ 3 c.args.text.is_cut c.requires.0 (lit< tt) in
    let r = is-run 1 (count ∷ []) _ _ _ (sym c.in-Some.is ∙ c.read_height.ensures) in
    let u = upgrade-fits c.args.text.text.now 0 c.requires.1 in
    let w1 = word_if _ _ _ c.is_word.ensures true c.if-is_word.true in
    simp (n, r.0, r.1, u, c.place.ensures, w1)

pub returns-then-is_word-2 : goal.returns-then-is_word-2
unfolding height_at fits_kind read_kind read_first
returns-then-is_word-2 c =
    let n = cut-components _ _ 3 c.args.text.is_cut c.requires.0 (lit< tt) in
    let r = is-run 1 (count ∷ []) _ _ _ (sym c.in-Some.is ∙ c.read_height.ensures) in
    let u = upgrade-fits c.args.text.text.now 0 c.requires.1 in
    let w1 = word_if _ _ _ c.is_word.ensures false c.if-is_word.false in
    let w2 = word_if _ _ _ c.is_word-2.ensures true c.if-is_word-2.true in
    simp (n, r.0, r.1, u, c.place.ensures, w1, w2)

pub returns : goal.returns
unfolding height_at fits_kind read_kind read_first
returns c =
    let w1 = word_if _ _ _ c.is_word.ensures false c.if-is_word.false in
    let w2 = word_if _ _ _ c.is_word-2.ensures false c.if-is_word-2.false in
    simp (w1, w2, and-false)
