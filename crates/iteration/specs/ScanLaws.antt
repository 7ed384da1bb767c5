-- What the scans find in a rising list: one of it, on its side of the pair, and none of the list between. And a block is the
-- keys of its revisions, in both directions.
-- Assumes nothing.
use Rattle.std.proofs.Math.Path.{◌≡◌, refl}
use Rattle.std.proofs.Common.{sym, ◌∙◌, inl, inr, ⊎_elim, arith, length-append, length-drop, take-append-drop, take_at, drop_at, eq-eqb}
use Rattle.std.specs.Prelude.{Bool, ◌↔◌, ◌⊎◌, length, take, drop}
use Rattle.std.proofs.Math.Bool.{true, false, cond}
use mathlib.Core.List.{List, [], ◌∷◌}
use Rattle.std.proofs.Math.Option.{Option, none, some}
use Prim.Native.Nat.{Ordering}
use Prim.Native.Nat.{ℕ, zero, suc, ◌*◌, ◌/◌, ◌%◌, ◌^◌, ◌<◌, compare}
use Rattle.text.specs.Number.{Bytes}
use Rattle.text.specs.NumberLaws.{bytes_take, bytes_drop}
use Rattle.text.specs.Order.{then, cmp, Before}
use Rattle.text.specs.OrderLaws.{Tri, tri, compare-lt, compare_gt, compare_same}
use Rattle.text.specs.OrderLaws as laws
use Rattle.text.specs.PartLaws.{and_left, and_right}
use Rattle.path.specs.declared.Revision.{Revision}
use Rattle.path.specs.Revision.{below}
use Rattle.path.specs.RevisionLaws.{below-is, is_below, below_trans, below-not-above, below_self}
use Rattle.iteration.specs.Key.{iteration_key, key_revision}
use Rattle.iteration.specs.KeyLaws.{key-length, key_compare}
use Rattle.iteration.specs.ReadLaws.{read-written, written_read, key-counted}
use Rattle.iteration.specs.Block.{follows, rising, onto, keys_in, block_of, first_above, or_else, last_below, Among, Nearest, Counted, keys_of}
use Rattle.iteration.specs.BlockLaws.{parts}

-- all of a rising list are above what it rises from
pub rising-all : (ps : List Revision) (p r : Revision) → rising (some p) ps ≡ true → Among r ps → below p r ≡ true
unfolding rising
rising-all [] p r h m = absurd m
rising-all (q ∷ ps) p r h (inl e) = rw e (and_left (below p q) (rising (some q) ps) h)
rising-all (q ∷ ps) p r h (inr m) = below_trans p q r (and_left (below p q) (rising (some q) ps) h) (rising-all ps q r (and_right (below p q) (rising (some q) ps) h) m)

-- ---- the first above
module _ (p : Revision) where
  first_in : (ps : List Revision) (q : Revision) → first_above p ps ≡ some q → Among q ps × (below p q ≡ true)
  unfolding first_above
  first_in [] q e = let z : ◌≡◌ {A = ℕ} 0 1 = cc in absurd (omega arith)
  first_in (x ∷ ps) q e = go (below p x) refl e (first_in ps q)
    where
      go : (b : Bool) → below p x ≡ b → cond b (some x) (first_above p ps) ≡ some q → (first_above p ps ≡ some q → Among q ps × (below p q ≡ true)) → Among q (x ∷ ps) × (below p q ≡ true)
      go true h k more = let s : x ≡ q = cc in (inl (sym s), rw (← s) h)
      go false h k more = let r = more k in (inr r.0, r.1)

  first-least : (ps : List Revision) (last : Option Revision) (q r : Revision) → rising last ps ≡ true → first_above p ps ≡ some q → Among r ps → below p r ≡ true → below r q ≡ false
  unfolding first_above rising
  first-least [] last q r o e m t = absurd m
  first-least (x ∷ ps) last q r o e m t = go (below p x) refl e m (first-least ps (some x) q r rest)
    where
      rest : rising (some x) ps ≡ true
      rest = and_right (follows last x) (rising (some x) ps) o

      go : (b : Bool) → below p x ≡ b → cond b (some x) (first_above p ps) ≡ some q → Among r (x ∷ ps) → (first_above p ps ≡ some q → Among r ps → below p r ≡ true → below r q ≡ false) → below r q ≡ false
      go true h k (inl s) more = let w : x ≡ q = cc in rw (s, ← w) (below_self x)
      go true h k (inr n) more = let w : x ≡ q = cc in rw (← w) (below-not-above x r (rising-all ps x r rest n))
      go false h k (inl s) more = let f : below p x ≡ true = rw (← s) t in let z : ◌≡◌ {A = ℕ} 0 1 = cc in absurd (omega arith)
      go false h k (inr n) more = more k n t

  pub first-nearest : (ps : List Revision) (q : Revision) → rising none ps ≡ true → first_above p ps ≡ some q → Nearest (λ r. below p r) (λ r x. below r x) ps q
  first-nearest ps q o e = let i = first_in ps q e in record { among = i.0; there = i.1; none_between = λ r m t. first-least ps none q r o e m t }

  pub first-all : (ps : List Revision) → first_above p ps ≡ none → (r : Revision) → Among r ps → below p r ≡ false
  unfolding first_above
  first-all [] e r m = absurd m
  first-all (x ∷ ps) e r m = go (below p x) refl e m (λ k n. first-all ps k r n)
    where
      go : (b : Bool) → below p x ≡ b → cond b (some x) (first_above p ps) ≡ none → Among r (x ∷ ps) → (first_above p ps ≡ none → Among r ps → below p r ≡ false) → below p r ≡ false
      go true h k n more = let z : ◌≡◌ {A = ℕ} 0 1 = cc in absurd (omega arith)
      go false h k (inl s) more = rw s h
      go false h k (inr n) more = more k n

-- ---- the last below
module _ (p : Revision) where
  last_in : (ps : List Revision) (q : Revision) → last_below p ps ≡ some q → Among q ps × (below q p ≡ true)
  unfolding last_below
  last_in [] q e = let z : ◌≡◌ {A = ℕ} 0 1 = cc in absurd (omega arith)
  last_in (x ∷ ps) q e = go (last_below p ps) (last_in ps q) (below x p) refl e
    where
      go : (y : Option Revision) → (y ≡ some q → Among q ps × (below q p ≡ true)) → (b : Bool) → below x p ≡ b → or_else y (cond b (some x) none) ≡ some q → Among q (x ∷ ps) × (below q p ≡ true)
      go (some w) more b h k = let r = more k in (inr r.0, r.1)
      go none more true h k = let s : x ≡ q = cc in (inl (sym s), rw (← s) h)
      go none more false h k = let z : ◌≡◌ {A = ℕ} 0 1 = cc in absurd (omega arith)

  pub last-all : (ps : List Revision) → last_below p ps ≡ none → (r : Revision) → Among r ps → below r p ≡ false
  unfolding last_below
  last-all [] e r m = absurd m
  last-all (x ∷ ps) e r m = go (last_below p ps) (λ k n. last-all ps k r n) (below x p) refl e m
    where
      go : (y : Option Revision) → (y ≡ none → Among r ps → below r p ≡ false) → (b : Bool) → below x p ≡ b → or_else y (cond b (some x) none) ≡ none → Among r (x ∷ ps) → below r p ≡ false
      go (some w) more b h k n = let z : ◌≡◌ {A = ℕ} 0 1 = cc in absurd (omega arith)
      go none more true h k n = let z : ◌≡◌ {A = ℕ} 0 1 = cc in absurd (omega arith)
      go none more false h k (inl s) = rw s h
      go none more false h k (inr n) = more refl n

  last_greatest : (ps : List Revision) (last : Option Revision) (q r : Revision) → rising last ps ≡ true → last_below p ps ≡ some q → Among r ps → below r p ≡ true → below q r ≡ false
  unfolding last_below rising
  last_greatest [] last q r o e m t = absurd m
  last_greatest (x ∷ ps) last q r o e m t = go (last_below p ps) refl (last_greatest ps (some x) q r rest) (below x p) e m
    where
      rest : rising (some x) ps ≡ true
      rest = and_right (follows last x) (rising (some x) ps) o

      go : (y : Option Revision) → last_below p ps ≡ y → (y ≡ some q → Among r ps → below r p ≡ true → below q r ≡ false) → (b : Bool) → or_else y (cond b (some x) none) ≡ some q → Among r (x ∷ ps) → below q r ≡ false
      go (some w) f more b k (inl s) = rw s (below-not-above x q (rising-all ps x q rest (last_in ps q (f ∙ k)).0))
      go (some w) f more b k (inr n) = more k n t
      go none f more true k (inl s) = let w : x ≡ q = cc in rw (s, ← w) (below_self x)
      go none f more true k (inr n) = let g = last-all ps f r n in let z : ◌≡◌ {A = ℕ} 0 1 = cc in absurd (omega arith)
      go none f more false k n = let z : ◌≡◌ {A = ℕ} 0 1 = cc in absurd (omega arith)

  pub last-nearest : (ps : List Revision) (q : Revision) → rising none ps ≡ true → last_below p ps ≡ some q → Nearest (λ r. below r p) (λ r x. below x r) ps q
  last-nearest ps q o e = let i = last_in ps q e in record { among = i.0; there = i.1; none_between = λ r m t. last_greatest ps none q r o e m t }

-- ---- a block is the keys of its revisions
pub length-keys : (ps : List Revision) → length (keys_of ps) ≡ 38 * length ps
unfolding keys_of
length-keys [] = refl
length-keys (p ∷ ps) = rw length-append (omega (arith, key-length p.number.0 p.height.0, length-keys ps))

keys-read : (ps : List Revision) → Counted ps → keys_in (length ps) (keys_of ps) ≡ some ps
unfolding keys_of keys_in
keys-read [] h = refl
keys-read (p ∷ ps) h =
    let k : List ℕ = iteration_key p.number.0 p.height.0 in
    let l : length k ≡ 38 = key-length p.number.0 p.height.0 in
    let c = h p (inl refl) in
    rw (take_at k (keys_of ps) 38 l, drop_at k (keys_of ps) 38 l, read-written p.number.0 p.height.0 c.0 c.1, keys-read ps (λ r m. h r (inr m)))

pub block_read : (ps : List Revision) → rising none ps ≡ true → Counted ps → block_of (keys_of ps) ≡ some ps
unfolding block_of
block_read ps o h =
    let l = length-keys ps in
    let n : length (keys_of ps) / 38 ≡ length ps = omega arith in
    rw (eq-eqb (length (keys_of ps) % 38) 0 (omega arith), n, keys-read ps h, o)

empty : (s : List ℕ) → length s ≡ 0 → [] ≡ s
empty [] h = refl
empty (x ∷ s) h = absurd (omega arith)

keys-back : (n : ℕ) (s : List ℕ) → Bytes s → length s ≡ 38 * n → (ps : List Revision) → keys_in n s ≡ some ps → keys_of ps ≡ s
unfolding keys_in keys_of
keys-back zero s b l ps e = let w : [] ≡ ps = cc in rw (← w) (empty s (omega arith))
keys-back (suc n) s b l ps e = go (key_revision (take 38 s)) refl (keys_in n (drop 38 s)) e (keys-back n (drop 38 s) (bytes_drop 38 s b) (rw length-drop (omega arith)))
  where
    go : (x : Option Revision) → key_revision (take 38 s) ≡ x → (y : Option (List Revision)) → onto x y ≡ some ps → ((qs : List Revision) → y ≡ some qs → keys_of qs ≡ drop 38 s) → keys_of ps ≡ s
    go none f y k more = let z : ◌≡◌ {A = ℕ} 0 1 = cc in absurd (omega arith)
    go (some p) f none k more = let z : ◌≡◌ {A = ℕ} 0 1 = cc in absurd (omega arith)
    go (some p) f (some qs) k more =
        let w : p ∷ qs ≡ ps = cc in
        rw (← w, written_read (take 38 s) p (bytes_take 38 s b) f, more qs refl) (take-append-drop 38 s)

pub block_back : (s : List ℕ) (ps : List Revision) → Bytes s → block_of s ≡ some ps → keys_of ps ≡ s
block_back s ps b e = let q = parts s ps e in keys-back (length s / 38) s b (omega (arith, q.size)) ps q.read

keys-counted : (n : ℕ) (s : List ℕ) → Bytes s → length s ≡ 38 * n → (ps : List Revision) → keys_in n s ≡ some ps → Counted ps
unfolding keys_in
keys-counted zero s b l ps e r m = let w : [] ≡ ps = cc in absurd (rw (← w) at m)
keys-counted (suc n) s b l ps e r m = go (key_revision (take 38 s)) refl (keys_in n (drop 38 s)) e (keys-counted n (drop 38 s) (bytes_drop 38 s b) (rw length-drop (omega arith)))
  where
    piece : Bytes (take 38 s)
    piece = bytes_take 38 s b

    go : (x : Option Revision) → key_revision (take 38 s) ≡ x → (y : Option (List Revision)) → onto x y ≡ some ps → ((qs : List Revision) → y ≡ some qs → Counted qs) → (r.number.0 < 2 ^ 64) × (r.height.0 < 2 ^ 64)
    go none f y k more = let z : ◌≡◌ {A = ℕ} 0 1 = cc in absurd (omega arith)
    go (some p) f none k more = let z : ◌≡◌ {A = ℕ} 0 1 = cc in absurd (omega arith)
    go (some p) f (some qs) k more =
        let w : ps ≡ p ∷ qs = cc in
        ⊎_elim (λ q. rw q (key-counted (take 38 s) p piece f)) (λ q. more qs refl r q) (rw w at m)

pub block-counted : (s : List ℕ) (ps : List Revision) → Bytes s → block_of s ≡ some ps → Counted ps
block-counted s ps b e = let q = parts s ps e in keys-counted (length s / 38) s b (omega (arith, q.size)) ps q.read

-- ---- what is below comes before, as bytes
pub below-before : (p q : Revision) → (p.number.0 < 2 ^ 64) × (p.height.0 < 2 ^ 64) → (q.number.0 < 2 ^ 64) × (q.height.0 < 2 ^ 64)
    → (below p q ≡ true) ↔ Before (iteration_key p.number.0 p.height.0) (iteration_key q.number.0 q.height.0)
below-before p q a b = (λ h. key ∙ rises (below-is p q h), λ h. falls (tri p.number.0 q.number.0) (tri p.height.0 q.height.0) (sym key ∙ h))
  where
    m : ℕ
    m = p.number.0

    n : ℕ
    n = q.number.0

    h : ℕ
    h = p.height.0

    k : ℕ
    k = q.height.0

    key : cmp (iteration_key m h) (iteration_key n k) ≡ then (compare m n) (compare h k)
    key = key_compare m h n k a.0 a.1 b.0 b.1

    rises : (m < n) ⊎ ((m ≡ n) × (h < k)) → then (compare m n) (compare h k) ≡ Ordering.lt
    rises (inl x) = rw (compare-lt m n x)
    rises (inr x) = rw (x.0, compare_same n, compare-lt h k x.1)

    falls : Tri m n → Tri h k → then (compare m n) (compare h k) ≡ Ordering.lt → below p q ≡ true
    falls (laws.below x) y e = is_below p q (inl x)
    falls (laws.above x) y e = let f = rw (compare_gt m n x) at e in let z : ◌≡◌ {A = ℕ} 0 1 = cc in absurd (omega arith)
    falls (laws.equal x) (laws.below y) e = is_below p q (inr (x, y))
    falls (laws.equal x) (laws.equal y) e = let f = rw (x, compare_same n, y, compare_same k) at e in let z : ◌≡◌ {A = ℕ} 0 1 = cc in absurd (omega arith)
    falls (laws.equal x) (laws.above y) e = let f = rw (x, compare_same n, compare_gt h k y) at e in let z : ◌≡◌ {A = ℕ} 0 1 = cc in absurd (omega arith)
