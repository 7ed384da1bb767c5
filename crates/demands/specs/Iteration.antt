-- Iteration keys read back, and the two scans over a block of them, over the calls that people make: `hp_iteration_key`,
-- `hp_read_iteration_key`, `hp_first_above` and `hp_last_below`. A text that is lent holds bytes (`Bytes`); nothing else is premised but room.
-- Assumes nothing.
use Rattle.std.specs.Prelude.{ℕ, ◌<◌, ◌≤◌, ◌^◌, ◌≡◌, ◌↔◌, true, List, length, take}
use Rattle.std.proofs.Math.Option.{some}
use Rattle.text.specs.Number.{Bytes}
use Rattle.text.specs.Order.{Before}
use Rattle.text.specs.declared.Written.{Written}
use Rattle.path.specs.declared.Pair.{Pair}
use Rattle.path.specs.declared.Revision.{Revision}
use Rattle.path.specs.Pair.{pair}
use Rattle.path.specs.Revision.{revision, below}
use Rattle.iteration.specs.Key.{iteration_key}
use Rattle.iteration.specs.Block.{block_of, first_above, last_below}
use Rattle.iteration.specs.ScanLaws.{below-before, first-nearest, first-all, last-nearest, last-all}
use Rattle.demands.specs.PathCalls.{IterationKeyCall}
use Rattle.demands.specs.KeyCalls.{ReadKeyCall, AboveCall, BelowCall, reading_key}
use Rattle.demands.specs.KeyCalls as calls
use Rattle.demands.specs.Demand2.{iteration_keys}
use Rattle.demands.specs.Scanned.{WhenKey, Block, WhenScanned}
use Rattle.demands.specs.IterationLaws as laws

-- ---- "Reading and writing must undo each other."
pub read_undoes_write : (number height : ℕ) → number < 2 ^ 64 → height < 2 ^ 64 → (out : List ℕ) (x : Written) (out₁ : List ℕ) → IterationKeyCall number height out x out₁ → 38 ≤ length out
    → (y : Pair) → ReadKeyCall (take x.length out₁) y → y ≡ pair 0 number height
read_undoes_write number height a b out x out₁ wrote room y read = laws.read_back number height a b x out₁ (iteration_keys number height out x out₁ wrote room).1 y (reading_key read)

module _ (k : List ℕ) (b : Bytes k) (y : Pair) (read : ReadKeyCall k y) where
  pub write_undoes_read : y.refusal ≡ 0 → (out : List ℕ) (x : Written) (out₁ : List ℕ) → IterationKeyCall y.number y.height out x out₁ → 38 ≤ length out → take x.length out₁ ≡ k
  write_undoes_read z out x out₁ wrote room = laws.write-back k b y (reading_key read) z x out₁ (iteration_keys y.number y.height out x out₁ wrote room).1

  -- "15 BAD_ITER_KEY from the single reader (wrong length or text)": exactly what no number and height are written as
  pub when_key : WhenKey k y.refusal
  when_key = laws.when_key k b y (reading_key read)

-- ---- "A block whose length is no multiple of 38, that holds a 38-byte piece that is no key, or that is out of order or holds equal keys, is
-- refused before anything is searched": a block is the keys of rising revisions, one after the other, and nothing else is
pub blocks : (b : List ℕ) (ps : List Revision) → Bytes b → (block_of b ≡ some ps) ↔ Block b ps
blocks = laws.blocks

-- they rise as bytes where they rise as pairs
pub rise_as_bytes : (p q : Revision) → (p.number.0 < 2 ^ 64) × (p.height.0 < 2 ^ 64) → (q.number.0 < 2 ^ 64) × (q.height.0 < 2 ^ 64)
    → (below p q ≡ true) ↔ Before (iteration_key p.number.0 p.height.0) (iteration_key q.number.0 q.height.0)
rise_as_bytes = below-before

-- ---- "the first key above a given pair; the last one below it." 16 exactly when there is no block, 12 exactly when none of its keys is on
-- that side; else the answer is one of its keys, on that side, and no key of the block lies between
module _ (b : List ℕ) (number height : ℕ) (y : Pair) where
  abbrev pub asked : Revision
  asked = revision number height

  pub first_above_lem : AboveCall b number height y → WhenScanned (λ q. below asked q) (λ r q. below r q) b y
  first_above_lem call = laws.when-scanned (first_above asked) (λ q. below asked q) (λ r q. below r q) (first-nearest asked) (first-all asked) b y (calls.above call)

  pub last_below_lem : BelowCall b number height y → WhenScanned (λ q. below q asked) (λ r q. below q r) b y
  last_below_lem call = laws.when-scanned (last_below asked) (λ q. below q asked) (λ r q. below q r) (last-nearest asked) (last-all asked) b y (calls.below call)
