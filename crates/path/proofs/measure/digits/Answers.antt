-- `measure::digits` meets its contract: no number has more than twenty digits.
use mathlib.Core.Path.{refl, ◌∙◌}
use Rattle.text.specs.NumberLaws.{width_u64}
use Rattle.path.specs.MeasureLaws.{first-none, first_one, first-both}
use native.Mathlib.Omega.{arith}
use Rattle.path.proofs.measure.digits.Goals as goal

pub overflow_add-result : goal.overflow_add-result
overflow_add-result c =
    omega (arith, width_u64 _ c.ranges.a.fits, width_u64 _ c.ranges.b.fits, c.number_width-in_default.ensures, c.number_width-in_default-2.ensures)

pub returns-in-0-clause-value : goal.returns-in-0-clause-value
returns-in-0-clause-value c = first-none _ _ _ _ refl (omega arith)

pub returns-in-1-clause-value : goal.returns-in-1-clause-value
returns-in-1-clause-value c = c.number_width.ensures ∙ first_one _ _ _ _ refl (omega arith)

pub returns-in-1-clause-upper_bound : goal.returns-in-1-clause-upper_bound
returns-in-1-clause-upper_bound c = omega (arith, c.number_width.ensures, width_u64 _ c.ranges.a.fits)

pub returns-in_default-clause-value : goal.returns-in_default-clause-value
returns-in_default-clause-value c =
    rw (c.number_width-in_default.ensures, c.number_width-in_default-2.ensures) (first-both _ _ _ _ refl (omega arith))

pub returns-in_default-clause-upper_bound : goal.returns-in_default-clause-upper_bound
returns-in_default-clause-upper_bound c =
    omega (arith, c.number_width-in_default.ensures, c.number_width-in_default-2.ensures, width_u64 _ c.ranges.a.fits, width_u64 _ c.ranges.b.fits)
