-- Records: keys with their values, in strictly rising byte order of key.
-- Assumes nothing.
use Rattle.std.specs.Prelude.{List, [], ◌∷◌, ℕ}
use Rattle.std.proofs.Math.Option.{Option, none, some}
use Rattle.text.specs.Order.{by, cmp, Before}

abbrev pub Key : Type 0
Key = List ℕ

module _ {Val : Type 0} where
  -- what a key holds
  unfoldable pub get : List (Key × Val) → Key → Option Val
  get [] k = none
  get (r ∷ rs) k = by (cmp k r.0) (get rs k) (some r.1) (get rs k)

  -- with a key's value added or replaced
  unfoldable pub put : List (Key × Val) → Key → Val → List (Key × Val)
  put [] k v = (k, v) ∷ []
  put (r ∷ rs) k v = by (cmp k r.0) ((k, v) ∷ r ∷ rs) ((k, v) ∷ rs) (r ∷ put rs k v)

  -- without a key's record
  unfoldable pub del : List (Key × Val) → Key → List (Key × Val)
  del [] k = []
  del (r ∷ rs) k = by (cmp k r.0) (r ∷ del rs k) rs (r ∷ del rs k)

  -- every key comes after k
  abbrev pub After : Key → List (Key × Val) → Type 0
  After k [] = Unit {0}
  After k (r ∷ rs) = Before k r.0 × After k rs

  abbrev pub Sorted : List (Key × Val) → Type 0
  Sorted [] = Unit {0}
  Sorted (r ∷ rs) = After r.0 rs × Sorted rs
