-- The answer of a probe: the slot that holds the key, or that none of the first n does.
-- Assumes nothing.
use Rattle.std.specs.Prelude.{◌≡◌, ℕ, ◌<◌, Option, Some, None}
use Rattle.book_records.specs.Records.{Key}

-- slot i holds k
abbrev pub Holds : (ℕ → Key) → ℕ → Key → ℕ → Type 0
Holds f n k i = (i < n) × (f i ≡ k)

abbrev pub Lacks : (ℕ → Key) → ℕ → Key → Type 0
Lacks f n k = (j : ℕ) → Holds f n k j → ⊥

abbrev pub Told : (ℕ → Key) → ℕ → Key → Option ℕ → Type 0
Told f n k (Some i) = Holds f n k i
Told f n k None = Lacks f n k
