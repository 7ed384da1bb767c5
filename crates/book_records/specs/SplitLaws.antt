-- Records parted at a key's place. Assumes nothing.
use Rattle.std.specs.Prelude.{◌≡◌, length, take, drop}
use Rattle.std.proofs.Math.Path.{refl}
use Rattle.std.proofs.Common.{ap, not-suc-le-zero, le_of_suc-le-suc, arith}
use mathlib.Core.List.{List, [], ◌∷◌, ◌++◌}
use Rattle.std.proofs.Math.Option.{none, some}
use Prim.Native.Nat.{ℕ, zero, suc, ◌<◌, ◌≤◌, Ordering}
use Rattle.std.proofs.Math.ListN.{get_elem?}
use Rattle.text.specs.Order.{cmp, Before}
use Rattle.book_records.specs.Records.{Key, get, put, del, After, Sorted}
use Rattle.book_records.specs.RecordLaws.{get_after, after_trans}

module _ {Val : Type 0} where
  -- k comes after every key
  abbrev pub AllBefore : Key → List (Key × Val) → Type 0
  AllBefore k [] = Unit {0}
  AllBefore k (r ∷ rs) = (cmp k r.0 ≡ Ordering.gt) × AllBefore k rs

  pub put-between : (xs ys : List (Key × Val)) (k : Key) (v : Val) → AllBefore k xs → After k ys → put (xs ++ ys) k v ≡ xs ++ (k, v) ∷ ys
  unfolding put
  put-between [] [] k v h a = refl
  put-between [] (y ∷ ys) k v h a = rw a.0
  put-between (x ∷ xs) ys k v h a = rw h.0 (ap (λ (l : List (Key × Val)). x ∷ l) (put-between xs ys k v h.1 a))

  pub put-over : (xs : List (Key × Val)) (y : Key × Val) (ys : List (Key × Val)) (k : Key) (v : Val) → AllBefore k xs → cmp k y.0 ≡ Ordering.eq → put (xs ++ y ∷ ys) k v ≡ xs ++ (k, v) ∷ ys
  unfolding put
  put-over [] y ys k v h e = rw e
  put-over (x ∷ xs) y ys k v h e = rw h.0 (ap (λ (l : List (Key × Val)). x ∷ l) (put-over xs y ys k v h.1 e))

  pub get-between : (xs ys : List (Key × Val)) (k : Key) → AllBefore k xs → After k ys → get (xs ++ ys) k ≡ none
  unfolding get
  get-between [] ys k h a = get_after ys k a
  get-between (x ∷ xs) ys k h a = rw h.0 (get-between xs ys k h.1 a)

  pub get-over : (xs : List (Key × Val)) (y : Key × Val) (ys : List (Key × Val)) (k : Key) → AllBefore k xs → cmp k y.0 ≡ Ordering.eq → get (xs ++ y ∷ ys) k ≡ some y.1
  unfolding get
  get-over [] y ys k h e = rw e
  get-over (x ∷ xs) y ys k h e = rw h.0 (get-over xs y ys k h.1 e)

  pub del-over : (xs : List (Key × Val)) (y : Key × Val) (ys : List (Key × Val)) (k : Key) → AllBefore k xs → cmp k y.0 ≡ Ordering.eq → del (xs ++ y ∷ ys) k ≡ xs ++ ys
  unfolding del
  del-over [] y ys k h e = rw e
  del-over (x ∷ xs) y ys k h e = rw h.0 (ap (λ (l : List (Key × Val)). x ∷ l) (del-over xs y ys k h.1 e))

  -- each key that comes after k, by its position
  pub after-at : (k : Key) (s : List (Key × Val)) (i : ℕ) (q : Key × Val) → After k s → get_elem? s i ≡ some q → Before k q.0
  after-at k [] i q h e = cc
  after-at k (r ∷ s) zero q h e = let p : r ≡ q = cc in rw p at h.0
  after-at k (r ∷ s) (suc i) q h e = after-at k s i q h.1 e

  -- two keys in order, by their positions
  pub sorted-at : (s : List (Key × Val)) (i j : ℕ) (r q : Key × Val) → Sorted s → i < j → get_elem? s i ≡ some r → get_elem? s j ≡ some q → Before r.0 q.0
  sorted-at [] i j r q h l e f = cc
  sorted-at (x ∷ s) i zero r q h l e f = absurd (not-suc-le-zero l)
  sorted-at (x ∷ s) zero (suc j) r q h l e f = let p : x ≡ r = cc in rw p at (after-at x.0 s j q h.0 f)
  sorted-at (x ∷ s) (suc i) (suc j) r q h l e f = sorted-at s i j r q h.1 (le_of_suc-le-suc l) e f

  pub sorted-drop : (s : List (Key × Val)) (p : ℕ) → Sorted s → Sorted (drop p s)
  sorted-drop s zero h = h
  sorted-drop [] (suc p) h = tt
  sorted-drop (r ∷ rs) (suc p) h = sorted-drop rs p h.1

  pub after-head : (k : Key) (y : Key × Val) (ys : List (Key × Val)) → Sorted (y ∷ ys) → cmp k y.0 ≡ Ordering.lt → After k (y ∷ ys)
  after-head k y ys h e = (e, after_trans k y.0 ys e h.0)

  pub before-take : (s : List (Key × Val)) (p : ℕ) (k : Key) → p ≤ length s → ((j : ℕ) (r : Key × Val) → j < p → get_elem? s j ≡ some r → cmp k r.0 ≡ Ordering.gt) → AllBefore k (take p s)
  before-take s zero k l h = tt
  before-take [] (suc p) k l h = tt
  before-take (r ∷ rs) (suc p) k l h = (h 0 r (omega arith) refl, before-take rs p k (omega arith) (λ j q b e. h (suc j) q (omega arith) e))
