-- `read_pieces::read_packet` meets its contract.
use mathlib.Core.Path.{sym, ◌∙◌}
use mathlib.Core.Bool.{and-false}
use Rattle.read_pieces.specs.Pieces.{ends_parts, sequence_parts, ends_in, sequence_after, packet_in}
use Rattle.read_pieces.specs.FitLaws.{no_run, is-run}
use Rattle.read_pieces.proofs.read_packet.Goals as goal

pub returns-in_default : goal.returns-in_default
unfolding ends_in packet_in
returns-in_default c = simp (no_run 1 ends_parts _ _ (sym c.in_default.is ∙ c.read_ends.ensures))

pub returns-in_default-read_sequence : goal.returns-in_default-read_sequence
unfolding sequence_after packet_in
returns-in_default-read_sequence c = simp (no_run 5 sequence_parts _ _ (sym c.in_default-read_sequence.is ∙ c.read_sequence.ensures), and-false)

pub returns : goal.returns
unfolding ends_in sequence_after packet_in
returns c =
    let e = is-run 1 ends_parts _ _ _ (sym c.in-Some.is ∙ c.read_ends.ensures) in
    let q = is-run 5 sequence_parts _ _ _ (sym c.in-Some-read_sequence.is ∙ c.read_sequence.ensures) in
    simp (e.0, q.0, e.1, q.1)
