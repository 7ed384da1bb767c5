-- `read_path` meets its contract.
use Rattle.std.specs.Prelude.{Err}
use mathlib.Core.Path.{sym, ap, ◌∙◌}
use Rattle.reading.specs.RefusedLaws.{too_long_when, no_path}
use Rattle.reader.specs.ReadingLaws.{found_measured, found-read}
use Rattle.reader.proofs.read_path.Goals as goal

pub returns-then-text-gt4096 : goal.returns-then-text-gt4096
returns-then-text-gt4096 c = too_long_when _ c.if-text-gt4096.true

pub returns-in_default : goal.returns-in_default
returns-in_default c = ap Err c.fault.ensures ∙ no_path _ c.if-text-gt4096.false (sym c.in_default.is ∙ c.parse_path.ensures)

pub render_length-length-requires : goal.render_length-length-requires
render_length-length-requires c = found_measured _ _ (sym c.in-Some.is ∙ c.parse_path.ensures) c.if-text-gt4096.false _ _ c.view-v.ensures

pub returns : goal.returns
returns c = found-read _ _ (sym c.in-Some.is ∙ c.parse_path.ensures) c.if-text-gt4096.false _ _ c.view-v.ensures _ c.render_length-length.ensures
