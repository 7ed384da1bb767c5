-- `measure::sizes_of` meets its contract: antt computes each row of the table from that of the kinds, and compares.
use mathlib.Core.Path.{ap}
use Prim.Native.Nat.{ℕ}
use Rattle.path.specs.Kinds.{kinds}
use Rattle.path.specs.Read.{parts_of}
use Rattle.path.specs.Length.{fixed, name_count, number_count}
use Rattle.path.specs.MeasureLaws.{at-kind}
use Rattle.path.proofs.measure.sizes_of.Goals as goal

pub returns-clause-fixed : goal.returns-clause-fixed
unfolding fixed name_count number_count parts_of kinds
returns-clause-fixed c = ap (λ (r : ℕ × ℕ × ℕ). r.0) (at-kind c.args.kind c.requires.0 c.requires.1)

pub returns-clause-names : goal.returns-clause-names
unfolding fixed name_count number_count parts_of kinds
returns-clause-names c = ap (λ (r : ℕ × ℕ × ℕ). r.1) (at-kind c.args.kind c.requires.0 c.requires.1)

pub returns-clause-numbers : goal.returns-clause-numbers
unfolding fixed name_count number_count parts_of kinds
returns-clause-numbers c = ap (λ (r : ℕ × ℕ × ℕ). r.2) (at-kind c.args.kind c.requires.0 c.requires.1)
