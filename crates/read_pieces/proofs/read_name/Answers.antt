-- `read_pieces::read_name` meets its contract.
use mathlib.Core.Bool.{true, false, and-false}
use Rattle.read_pieces.specs.Pieces.{place_after}
use Rattle.read_pieces.specs.FitLaws.{word-unless, name-no, name_yes}
use mathlib.Core.Path.{ap}
use mathlib.Core.Bool.{not}
use Rattle.read_pieces.proofs.read_name.Goals as goal

pub returns-then-not-is_word : goal.returns-then-not-is_word
unfolding place_after
returns-then-not-is_word c = rw (word-unless _ _ _ c.is_word.ensures false (ap not c.if-not-is_word.true))

pub returns-then-name_fault-ne0 : goal.returns-then-name_fault-ne0
unfolding place_after
returns-then-name_fault-ne0 c = rw (name-no _ _ _ _ c.name_fault.ensures c.component.ensures.bytes c.if-name_fault-ne0.true, and-false)

pub returns : goal.returns
unfolding place_after
returns c =
    let word = word-unless _ _ _ c.is_word.ensures true (ap not c.if-not-is_word.false) in
    let name = name_yes _ _ _ _ c.name_fault.ensures c.component.ensures.bytes c.if-name_fault-ne0.false in
    rw (word, name, c.place.ensures)
