-- `read_pieces::read_sequence` meets its contract.
use mathlib.Core.Bool.{true, false, and-false}
use Rattle.read_pieces.specs.Pieces.{sequence_after}
use Rattle.read_pieces.specs.FitLaws.{word-unless, number-no, number_yes}
use Rattle.read_pieces.proofs.Steps.{no_value}
use mathlib.Core.Path.{ap}
use mathlib.Core.Bool.{not}
use Rattle.read_pieces.proofs.read_sequence.Goals as goal

pub returns-then-not-is_word : goal.returns-then-not-is_word
unfolding sequence_after
returns-then-not-is_word c = rw (word-unless _ _ _ c.is_word.ensures false (ap not c.if-not-is_word.true))

pub returns-in_default : goal.returns-in_default
unfolding sequence_after
returns-in_default c = rw (number-no _ _ _ c.read_number.ensures c.component.ensures.bytes (no_value c.read_number.result c.in_default.not-Ok), and-false)

pub returns : goal.returns
unfolding sequence_after
returns c =
    let word = word-unless _ _ _ c.is_word.ensures true (ap not c.if-not-is_word.false) in
    let number = number_yes _ _ _ c.read_number.ensures c.component.ensures.bytes _ c.in-Ok.is in
    rw (word, number.0, number.1)
