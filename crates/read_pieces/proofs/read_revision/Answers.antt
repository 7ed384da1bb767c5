-- `read_pieces::read_revision` meets its contract.
use mathlib.Core.Path.{◌∙◌}
use mathlib.Core.Bool.{true, false, and-true}
use Rattle.read_pieces.specs.Pieces.{revision_in, revision_after}
use Rattle.read_pieces.specs.FitLaws.{word-unless}
use mathlib.Core.Path.{ap}
use mathlib.Core.Bool.{not}
use Rattle.read_pieces.proofs.read_revision.Goals as goal

pub returns-then-not-is_word : goal.returns-then-not-is_word
unfolding revision_after
returns-then-not-is_word c = rw (word-unless _ _ _ c.is_word.ensures false (ap not c.if-not-is_word.true))

pub returns : goal.returns
unfolding revision_in revision_after
returns c =
    let word = word-unless _ _ _ c.is_word.ensures true (ap not c.if-not-is_word.false) in
    c.revision_in.ensures ∙ rw (c.component.ensures.bytes, word, and-true)
