-- `read_pieces::read_ends` meets its contract.
use mathlib.Core.Path.{sym, ◌∙◌}
use mathlib.Core.Bool.{and-false}
use Rattle.text.specs.Bytes.{bytes}
use Rattle.path.specs.declared.name.Name.TheVariants.{Port as port, Channel as channel}
use Rattle.read_pieces.specs.Pieces.{place_parts, place_after, ends_in}
use Rattle.read_pieces.specs.FitLaws.{no_run, is-run}
use Rattle.read_pieces.proofs.read_ends.Goals as goal

pub returns-in_default : goal.returns-in_default
unfolding place_after ends_in
returns-in_default c = simp (no_run 1 (place_parts (bytes "ports") port) _ _ (sym c.in_default.is ∙ c.read_port.ensures))

pub returns-in_default-read_channel : goal.returns-in_default-read_channel
unfolding place_after ends_in
returns-in_default-read_channel c = simp (no_run 3 (place_parts (bytes "channels") channel) _ _ (sym c.in_default-read_channel.is ∙ c.read_channel.ensures), and-false)

pub returns : goal.returns
unfolding place_after ends_in
returns c =
    let p = is-run 1 (place_parts (bytes "ports") port) _ _ _ (sym c.in-Some.is ∙ c.read_port.ensures) in
    let h = is-run 3 (place_parts (bytes "channels") channel) _ _ _ (sym c.in-Some-read_channel.is ∙ c.read_channel.ensures) in
    simp (p.0, h.0, p.1, h.1)
