-- `letters::trim::wide_trim` meets its contract.
use native.Mathlib.Omega.{arith}
use mathlib.Core.Path.{refl}
use Rattle.text.specs.PartLaws.{part-rest}
use Rattle.letters.specs.TextLaws.{leading_narrow, end-within, trimmed-part}
use Rattle.letters.proofs.trim.wide_trim.Goals as goal

pub slice_bounds-body-count : goal.slice_bounds-body-count
slice_bounds-body-count c = omega (arith, c.white_end-start.ensures, (leading_narrow c.args.s.now).0)

pub slice_bounds-body-start : goal.slice_bounds-body-start
slice_bounds-body-start c = omega (arith, c.white_end-start.ensures, (leading_narrow c.args.s.now).0)

pub slice_bounds-result-end : goal.slice_bounds-result-end
slice_bounds-result-end c = omega (arith, end-within _ _ c.text_end-end.ensures)

pub returns : goal.returns
returns c =
    record { bytes = trimmed-part c.args.s.now _ _ _ c.white_end-start.ensures (part-rest c.white_end-start.result c.args.s.now) c.text_end-end.ensures; block = refl; offset = omega (arith, c.white_end-start.ensures) }
