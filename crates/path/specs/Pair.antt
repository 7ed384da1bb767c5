-- The answer of a call that gives a revision number and a height.
-- Assumes nothing.
use Rattle.std.specs.Prelude.{ℕ}
use Rattle.path.specs.declared.Pair.{Pair}

-- refusal, number, height
abbrev pub pair : ℕ → ℕ → ℕ → Pair
pair r n h = record { refusal = r; number = n; height = h }
