-- `fault::suits_packet` meets its contract.
use mathlib.Core.Path.{sym, ◌∙◌}
use mathlib.Core.Bool.{and-true}
use Rattle.path.specs.Read.{suits, fits}
use Rattle.read_pieces.specs.Pieces.{ends_in, ends_parts}
use Rattle.read_pieces.specs.FitLaws.{lacks_run, has_run}
use Rattle.read_faults.proofs.suits_packet.Goals as goal

pub returns-else-is_some : goal.returns-else-is_some
unfolding ends_in suits
returns-else-is_some c = simp (lacks_run 1 ends_parts _ _ _ c.read_ends.ensures (sym c.is_some.ensures ∙ c.if-is_some.false)) c.if-is_some.false

pub returns-then-is_some : goal.returns-then-is_some
unfolding ends_in suits fits
returns-then-is_some c =
    let r = has_run 1 ends_parts _ _ _ c.read_ends.ensures (sym c.is_some.ensures ∙ c.if-is_some.true) in
    simp (r, c.is_word.ensures, and-true)
