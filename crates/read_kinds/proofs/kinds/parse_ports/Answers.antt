-- `kinds::parse_ports` meets its contract.
use mathlib.Core.Path.{sym, ◌∙◌}
use mathlib.Core.Bool.{and-false}
use lib.Dec.{lit<}
use Rattle.text.specs.Bytes.{bytes}
use Rattle.read_pieces.specs.CutLaws.{cut-components}
use Rattle.path.specs.declared.name.Name.TheVariants.{Port as port}
use Rattle.path.specs.Read.{fits_kind, read_kind, read_first}
use Rattle.read_pieces.specs.Pieces.{place_after, place_parts}
use Rattle.read_pieces.specs.FitLaws.{no_run, is-run}
use Rattle.read_kinds.proofs.kinds.parse_ports.Goals as goal

pub returns-in_default : goal.returns-in_default
unfolding place_after fits_kind read_kind read_first
returns-in_default c = simp (no_run 0 (place_parts (bytes "ports") port) _ _ (sym c.in_default.is ∙ c.read_port.ensures), and-false)

pub returns : goal.returns
unfolding place_after fits_kind read_kind read_first
returns c =
    let n = cut-components _ _ 2 c.args.text.is_cut c.requires (lit< tt) in
    let r = is-run 0 (place_parts (bytes "ports") port) _ _ _ (sym c.in-Some.is ∙ c.read_port.ensures) in
    simp (n, r.0, r.1)
