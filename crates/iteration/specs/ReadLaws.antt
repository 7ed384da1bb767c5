-- Reading an iteration key undoes writing it, and writing undoes reading.
-- Assumes nothing.
use Rattle.std.specs.Prelude.{◌≡◌, refl, Bool, true, false, cond, not, ◌&&◌, List, [], ◌∷◌, ◌++◌, ℕ, zero, suc, ◌+◌, ◌^◌, ◌≤◌, ◌<◌, eqb, length, take, drop, ok_or}
use Rattle.std.specs.Prelude as std
use Rattle.std.proofs.Common.{sym, ap, ◌∙◌, append-nil, arith, length-append, length-take, length-drop, take-take, take_all, take-add, drop-drop, eq-eqb, ne_eqb, eqb-true}
use Rattle.std.proofs.Math.Option.{Option, none, some}
use Rattle.text.specs.Bytes.{bytes}
use Rattle.text.specs.Number.{big_endian, big_at, Bytes}
use Rattle.text.specs.NumberLaws.{length_big, big-at, big-there, big-within}
use Rattle.text.specs.Part.{starts_with}
use Rattle.text.specs.PartLaws.{and_left, and_right}
use Rattle.path.specs.declared.Revision.{Revision}
use Rattle.path.specs.Revision.{revision}
use Rattle.iteration.specs.Key.{iteration_key, revision_at, key_revision, revision_of, answered}
use Rattle.iteration.specs.KeyLaws.{key-length}

abbrev word : List ℕ
word = bytes "iterateConsensusStates"

-- ---- a key that stands in a longer text
part-within : (m n k : ℕ) (t : List ℕ) → m + n ≤ k → take n (drop m (take k t)) ≡ take n (drop m t)
part-within zero n k t h = take-take n k t (omega arith)
part-within (suc m) n zero t h = absurd (omega arith)
part-within (suc m) n (suc k) [] h = refl
part-within (suc m) n (suc k) (x ∷ t) h = part-within m n k t (omega arith)

starts-take : (w : List ℕ) (k : ℕ) (t : List ℕ) → length w ≤ k → starts_with w (take k t) ≡ starts_with w t
unfolding starts_with
starts-take [] k t h = refl
starts-take (x ∷ w) zero t h = absurd (omega arith)
starts-take (x ∷ w) (suc k) [] h = refl
starts-take (x ∷ w) (suc k) (y ∷ t) h = rw (starts-take w k t (omega arith))

-- it is one where the word stands there
pub piece-key : (at : ℕ) (s : List ℕ) → at + 38 ≤ length s → key_revision (take 38 (drop at s)) ≡ cond (starts_with word (drop at s)) (some (revision_at at s)) none
unfolding key_revision
piece-key at s h =
    let l : length (take 38 (drop at s)) ≡ 38 = simp (length-take, length-drop) (omega arith) in
    rw (
      eq-eqb (length (take 38 (drop at s))) 38 l,
      starts-take word 38 (drop at s) (omega arith),
      part-within 22 8 38 (drop at s) (omega arith),
      part-within 30 8 38 (drop at s) (omega arith),
      drop-drop 22 at s,
      drop-drop 30 at s,
    )

pub piece_is : (at : ℕ) (s : List ℕ) (p : Revision) → at + 38 ≤ length s → key_revision (take 38 (drop at s)) ≡ some p → p ≡ revision_at at s
piece_is at s p h e = go (starts_with word (drop at s)) (sym (piece-key at s h) ∙ e)
  where
    go : (b : Bool) → cond b (some (revision_at at s)) none ≡ some p → p ≡ revision_at at s
    go true q = cc
    go false q = cc

-- the ways out of reading it
module _ (at : ℕ) (s : List ℕ) (h : at + 38 ≤ length s) (r : Bool) (e : r ≡ starts_with word (drop at s)) where
  pub key-none : r ≡ false → none ≡ key_revision (take 38 (drop at s))
  key-none t = rw (piece-key at s h, ← e, t)

  pub key_here : (p : Revision) → r ≡ true → p ≡ revision_at at s → some p ≡ key_revision (take 38 (drop at s))
  key_here p f q = rw (piece-key at s h, ← e, f, q)

-- an answer of the code, with its refusal
pub answer-read : (n : ℕ) (r : std.Option Revision) (x : Option Revision) → revision_of r ≡ x → ok_or r n ≡ answered n x
answer-read n std.None x e = ap (answered n) e
answer-read n (std.Some p) x e = ap (answered n) e

-- a text of 38 bytes is the piece at its start, and another is no key
pub key-whole : (k : List ℕ) → length k ≡ 38 → key_revision (take 38 (drop 0 k)) ≡ key_revision k
key-whole k h = rw (take_all 38 k (omega arith))

pub key-other : (k : List ℕ) → (length k ≡ 38 → ⊥) → key_revision k ≡ none
unfolding key_revision
key-other k h = rw (ne_eqb (length k) 38 h)

-- ---- what was written is read
starts_self : (w t : List ℕ) → starts_with w (w ++ t) ≡ true
unfolding starts_with
starts_self [] t = refl
starts_self (x ∷ w) t = rw (eq-eqb x x refl) (starts_self w t)

pub read-written : (n h : ℕ) → n < 2 ^ 64 → h < 2 ^ 64 → key_revision (iteration_key n h) ≡ some (revision n h)
unfolding key_revision iteration_key
read-written n h p q =
    let k : List ℕ = iteration_key n h in
    let e₁ : big_at 22 8 k ≡ n = big-at word (big_endian 8 h) 22 8 n k refl refl (omega arith) in
    let e₂ : big_at 30 8 k ≡ h = big-at (word ++ big_endian 8 n) [] 30 8 h k (simp append-nil) (rw length-append (omega (arith, length_big 8 n))) (omega arith) in
    rw (eq-eqb (length k) 38 (key-length n h), starts_self word (big_endian 8 n ++ big_endian 8 h), e₁, e₂)

-- ---- what was read is written
pub starts_is : (w s : List ℕ) → starts_with w s ≡ true → w ++ drop (length w) s ≡ s
unfolding starts_with
starts_is [] s h = refl
starts_is (x ∷ w) [] h = cc
starts_is (x ∷ w) (y ∷ s) h =
    let e : y ≡ x = eqb-true y x (and_left (eqb y x) (starts_with w s) h) in
    rw (e, starts_is w s (and_right (eqb y x) (starts_with w s) h))

-- a key's length and word, and what is read
pub record Reads (k : List ℕ) (p : Revision) : Type 0 where
  pub size : length k ≡ 38
  pub starts : starts_with word k ≡ true
  pub carries : p ≡ revision_at 0 k

pub key_reads : (k : List ℕ) (p : Revision) → key_revision k ≡ some p → Reads k p
unfolding key_revision
key_reads k p e = go (eqb (length k) 38) refl (starts_with word k) refl e
  where
    go : (a : Bool) → eqb (length k) 38 ≡ a → (b : Bool) → starts_with word k ≡ b → cond (a && b) (some (revision_at 0 k)) none ≡ some p → Reads k p
    go true x true y q = record { size = eqb-true (length k) 38 x; starts = y; carries = cc }
    go true x false y q = let z : ◌≡◌ {A = ℕ} 0 1 = cc in absurd (omega arith)
    go false x b y q = let z : ◌≡◌ {A = ℕ} 0 1 = cc in absurd (omega arith)

pub written_read : (k : List ℕ) (p : Revision) → Bytes k → key_revision k ≡ some p → iteration_key p.number.0 p.height.0 ≡ k
unfolding iteration_key
written_read k p b e =
    let r = key_reads k p e in
    let t : List ℕ = drop 22 k in
    let whole : take 8 t ++ take 8 (drop 30 k) ≡ t =
    rw (← drop-drop 8 22 k, ← take-add 8 8 t) (take_all 16 t (rw length-drop (omega (arith, r.size)))) in
    rw (r.carries, big-there 22 8 k b (omega (arith, r.size)), big-there 30 8 k b (omega (arith, r.size)), whole) (starts_is word k r.starts)

-- the counts that are read fit a u64
pub key-counted : (k : List ℕ) (p : Revision) → Bytes k → key_revision k ≡ some p → (p.number.0 < 2 ^ 64) × (p.height.0 < 2 ^ 64)
key-counted k p b e = let r = key_reads k p e in rw r.carries (big-within 22 8 k b (omega (arith, r.size)), big-within 30 8 k b (omega (arith, r.size)))
