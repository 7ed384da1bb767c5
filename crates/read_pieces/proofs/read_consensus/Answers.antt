-- `read_pieces::read_consensus` meets its contract.
use mathlib.Core.Path.{sym, ◌∙◌}
use mathlib.Core.Bool.{and-false}
use Rattle.text.specs.Bytes.{bytes}
use Rattle.path.specs.declared.name.Name.TheVariants.{Client as client}
use Rattle.read_pieces.specs.Pieces.{place_parts, revision_parts, place_after, revision_after, consensus_in}
use Rattle.read_pieces.specs.FitLaws.{no_run, is-run}
use Rattle.read_pieces.proofs.read_consensus.Goals as goal

pub returns-in_default : goal.returns-in_default
unfolding place_after consensus_in
returns-in_default c = simp (no_run 0 (place_parts (bytes "clients") client) _ _ (sym c.in_default.is ∙ c.read_client.ensures))

pub returns-in_default-read_revision : goal.returns-in_default-read_revision
unfolding revision_after consensus_in
returns-in_default-read_revision c = simp (no_run 2 revision_parts _ _ (sym c.in_default-read_revision.is ∙ c.read_revision.ensures), and-false)

pub returns : goal.returns
unfolding place_after revision_after consensus_in
returns c =
    let p = is-run 0 (place_parts (bytes "clients") client) _ _ _ (sym c.in-Some.is ∙ c.read_client.ensures) in
    let r = is-run 2 revision_parts _ _ _ (sym c.in-Some-read_revision.is ∙ c.read_revision.ensures) in
    simp (p.0, r.0, p.1, r.1)
