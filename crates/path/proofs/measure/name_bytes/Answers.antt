-- `measure::name_bytes` meets its contract.
use mathlib.Core.Path.{refl}
use Rattle.path.specs.MeasureLaws.{first-none, first_one, first-both}
use native.Mathlib.Omega.{arith}
use Rattle.path.proofs.measure.name_bytes.Goals as goal

pub returns-in-0-clause-value : goal.returns-in-0-clause-value
returns-in-0-clause-value c = first-none _ _ _ _ refl (omega arith)

pub returns-in-1-clause-value : goal.returns-in-1-clause-value
returns-in-1-clause-value c = first_one _ _ _ _ refl (omega arith)

pub returns-in_default-clause-value : goal.returns-in_default-clause-value
returns-in_default-clause-value c = first-both _ _ _ _ refl (omega arith)
