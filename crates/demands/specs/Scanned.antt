-- What is said of a call that reads an iteration key or scans a block of them: when it is refused, and what it found.
-- Assumes nothing.
use Rattle.std.specs.Prelude.{ℕ, ◌<◌, ◌^◌, ◌≡◌, ◌↔◌, Bool, true, false, List}
use Rattle.std.proofs.Math.Option.{none, some}
use Rattle.path.specs.declared.Pair.{Pair}
use Rattle.path.specs.declared.Revision.{Revision}
use Rattle.path.specs.Revision.{revision}
use Rattle.iteration.specs.Key.{iteration_key}
use Rattle.iteration.specs.Block.{rising, block_of, Among, Nearest, keys_of, Counted}

-- k is what is written of some number and height
abbrev pub IsKey : List ℕ → Type 0
IsKey k = (n : ℕ) × (h : ℕ) × (n < 2 ^ 64) × (h < 2 ^ 64) × (k ≡ iteration_key n h)

-- the number n of a reading of k: each refusal exactly when
pub record WhenKey (k : List ℕ) (n : ℕ) : Type 0 where
  pub done : (n ≡ 0) ↔ IsKey k
  pub bad_key : (n ≡ 15) ↔ (IsKey k → ⊥)

-- b is what is written of these revisions, one after the other, and they rise
pub record Block (b : List ℕ) (ps : List Revision) : Type 0 where
  pub counted : Counted ps
  pub order : rising none ps ≡ true
  pub bytes : b ≡ keys_of ps

-- the answer y of a scan of b for the nearest on one side: each refusal exactly when, and what was found
pub record WhenScanned (side : Revision → Bool) (nearer : Revision → Revision → Bool) (b : List ℕ) (y : Pair) : Type 0 where
  pub bad_block_when : (y.refusal ≡ 16) ↔ (block_of b ≡ none)
  pub absent : (ps : List Revision) → block_of b ≡ some ps → (y.refusal ≡ 12) ↔ ((r : Revision) → Among r ps → side r ≡ false)
  pub found : (ps : List Revision) → block_of b ≡ some ps → y.refusal ≡ 0 → Nearest side nearer ps (revision y.number y.height)
