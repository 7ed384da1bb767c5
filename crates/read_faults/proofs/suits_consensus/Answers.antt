-- `fault::suits_consensus` meets its contract.
use mathlib.Core.Path.{sym, ◌∙◌}
use mathlib.Core.Bool.{and-true}
use Rattle.text.specs.Bytes.{bytes}
use Rattle.path.specs.declared.name.Name.TheVariants.{Client as client}
use Rattle.path.specs.Read.{suits, fits}
use Rattle.read_pieces.specs.Pieces.{place_after, place_parts}
use Rattle.read_pieces.specs.FitLaws.{lacks_run, has_run}
use Rattle.read_faults.proofs.suits_consensus.Goals as goal

pub returns-else-is_some : goal.returns-else-is_some
unfolding place_after suits
returns-else-is_some c =
    simp (lacks_run 0 (place_parts (bytes "clients") client) _ _ _ c.read_client.ensures (sym c.is_some.ensures ∙ c.if-is_some.false)) c.if-is_some.false

pub returns-then-is_some : goal.returns-then-is_some
unfolding place_after suits fits
returns-then-is_some c =
    let r = has_run 0 (place_parts (bytes "clients") client) _ _ _ c.read_client.ensures (sym c.is_some.ensures ∙ c.if-is_some.true) in
    simp (r, c.is_word.ensures, and-true)
