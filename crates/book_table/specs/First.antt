-- The first number that passes a test.
-- Assumes nothing.
use Rattle.std.specs.Prelude.{ℕ, zero, suc, Bool, cond}

-- the first of the n numbers from i on that passes, and i + n where none does
unfoldable pub first_from : (ℕ → Bool) → ℕ → ℕ → ℕ
first_from p i zero = i
first_from p i (suc n) = let more = first_from p (suc i) n in cond (p i) i more

abbrev pub first : (ℕ → Bool) → ℕ → ℕ
first p n = first_from p 0 n
