-- A block of iteration keys, and the two scans over it.
-- Assumes nothing.
use Rattle.std.specs.Prelude.{◌≡◌, ◌⊎◌, ℕ, zero, suc, ◌/◌, ◌%◌, ◌^◌, ◌<◌, Bool, true, false, cond, ◌&&◌, List, [], ◌∷◌, ◌++◌, eqb, length, take, drop, Result, Err}
use Rattle.std.proofs.Math.Option.{Option, none, some}
use Rattle.text.specs.Refusal.{bad_block}
use Rattle.text.specs.Refusal as refusal
use Rattle.path.specs.declared.Revision.{Revision}
use Rattle.path.specs.Revision.{below}
use Rattle.iteration.specs.Key.{iteration_key, key_revision, answered}

-- q is above the last one, if there was one
abbrev pub follows : Option Revision → Revision → Bool
follows none q = true
follows (some p) q = below p q

-- each is above the one before it, the first above the last one, if there was one
unfoldable pub rising : Option Revision → List Revision → Bool
rising last [] = true
rising last (p ∷ ps) = follows last p && rising (some p) ps

abbrev pub onto : Option Revision → Option (List Revision) → Option (List Revision)
onto (some p) (some ps) = some (p ∷ ps)
onto (some p) none = none
onto none x = none

-- the revisions of n keys that stand one after the other
unfoldable pub keys_in : ℕ → List ℕ → Option (List Revision)
keys_in zero s = some []
keys_in (suc n) s = onto (key_revision (take 38 s)) (keys_in n (drop 38 s))

abbrev pub in_order : Option (List Revision) → Option (List Revision)
in_order none = none
in_order (some ps) = cond (rising none ps) (some ps) none

-- a block: pieces of 38 bytes and nothing behind them, each a key, each key above the one before it
unfoldable pub block_of : List ℕ → Option (List Revision)
block_of s = cond (eqb (length s % 38) 0) (in_order (keys_in (length s / 38) s)) none

abbrev pub is_block : Option (List Revision) → Bool
is_block none = false
is_block (some ps) = true

-- the first that is above p
unfoldable pub first_above : Revision → List Revision → Option Revision
first_above p [] = none
first_above p (q ∷ qs) = cond (below p q) (some q) (first_above p qs)

abbrev pub or_else : Option Revision → Option Revision → Option Revision
or_else (some q) x = some q
or_else none x = x

-- the last that is below p
unfoldable pub last_below : Revision → List Revision → Option Revision
last_below p [] = none
last_below p (q ∷ qs) = or_else (last_below p qs) (cond (below q p) (some q) none)

-- what a scan answers: 16 where there is no block, 12 where none of its keys qualifies
abbrev pub scanned : (List Revision → Option Revision) → Option (List Revision) → Result Revision ℕ
scanned f none = Err bad_block
scanned f (some ps) = answered refusal.absent (f ps)

-- ---- what is said of blocks beside the calls
-- q is one of the revisions
abbrev pub Among : Revision → List Revision → Type 0
Among q [] = ⊥
Among q (p ∷ ps) = (q ≡ p) ⊎ Among q ps

-- q is the nearest of the revisions on one side of a pair: it is on that side, and none of them there is nearer
pub record Nearest (side : Revision → Bool) (nearer : Revision → Revision → Bool) (ps : List Revision) (q : Revision) : Type 0 where
  pub among : Among q ps
  pub there : side q ≡ true
  pub none_between : (r : Revision) → Among r ps → side r ≡ true → nearer r q ≡ false

-- the counts of each fit a u64
abbrev pub Counted : List Revision → Type 0
Counted ps = (r : Revision) → Among r ps → (r.number.0 < 2 ^ 64) × (r.height.0 < 2 ^ 64)

-- the keys of some revisions, one after the other
unfoldable pub keys_of : List Revision → List ℕ
keys_of [] = []
keys_of (p ∷ ps) = iteration_key p.number.0 p.height.0 ++ keys_of ps
