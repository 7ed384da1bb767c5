-- Bytes moved within a buffer.
-- Assumes nothing.
use Rattle.std.specs.Prelude.{List, ◌++◌, ℕ, ◌+◌, ◌-◌, take, drop}
use Rattle.std.proofs.Math.Seq.{slice}

-- the bytes from f up to t, moved up by w: what stood from t to t + w is lost, and from f to f + w nothing changes
unfoldable pub raised : ℕ → ℕ → ℕ → List ℕ → List ℕ
raised f t w b = take (f + w) b ++ (slice f t b ++ drop (t + w) b)

-- the bytes from f up to t, moved down by w: what stood from f - w to f is lost, and from t - w to t nothing changes
unfoldable pub lowered : ℕ → ℕ → ℕ → List ℕ → List ℕ
lowered f t w b = take (f - w) b ++ (slice f t b ++ drop (t - w) b)
