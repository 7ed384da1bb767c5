-- The ways through the renderer.
-- Assumes nothing.
use Rattle.std.specs.Prelude.{ℕ, zero, suc, min, ◌+◌, ◌-◌, ◌≤◌, ◌<◌, ◌≡◌, List, [], get_or, Bool}
use Rattle.std.proofs.Math.Path.{refl}
use Rattle.std.proofs.Math.Bool.{true, false, cond, and-false}
use Rattle.std.proofs.Math.Dec.{eqb}
use Rattle.std.proofs.lemmas.Bool.{eqb-false}
use native.Mathlib.Omega.{arith}
use Rattle.std.proofs.Math.ListN.{length}
use borrow.Author.Tests.{le-leb, lt-leb, eqb-true, ne_eqb}
use Rattle.text.specs.Put.{Wrote, Wanted, refused, text, refusal, done, answer, left}
use Rattle.text.specs.PutLaws.{gives-refusal, gives_same, gives-short, gives-text}
use Rattle.text.specs.TableLaws.{agree_at}
use Rattle.identifiers.specs.CheckLaws.{first-last}
use Rattle.path.specs.Kinds.{Carried, carried, kinds}
use Rattle.path.specs.declared.name.Name.TheVariants.{Client as client, Connection as connection, Port as port, Channel as channel, Upgrade as upgrade}
use Rattle.path.specs.Text.{join_by}
use Rattle.path.specs.Read.{show, render, name_fault, names_fault, limited, parts_of, render_of}
use Rattle.path.specs.Length.{render_length, first_of}
use Rattle.path.specs.MeasureLaws.{render-length, length-by}
use Rattle.writers.specs.Texts.{sequence_texts}
use Rattle.render.specs.Render.{names_of, fault_by, short, checked}

-- ---- the kind
module _ (k : ℕ) (v : Carried (List ℕ)) where
  pub render-low : k < 1 → render_of k v ≡ refused 14
  unfolding render_of
  render-low h = rw (lt-leb 1 k h)

  pub render-high : 19 < k → render_of k v ≡ refused 14
  unfolding render_of
  render-high h = rw (lt-leb k 19 h, and-false)

  -- the first three are one word each
  pub render-word : 1 ≤ k → k ≤ 3 → render_of k v ≡ text (get_or sequence_texts (k - 1) [])
  unfolding render_of parts_of names_fault render show join_by kinds
  render-word l h = agree_at (λ k. render_of k v) (λ k. text (get_or sequence_texts (k - 1) [])) 1 3 refl k l (omega arith)

  module _ (low : 4 ≤ k) (high : k ≤ 19) where
    pub render-kind : render_of k v ≡ limited (parts_of k) v
    unfolding render_of
    render-kind = rw (le-leb 1 k (omega arith), le-leb k 19 high)

    -- ---- the identifiers
    kind-fault : names_fault (parts_of k) v ≡ fault_by name_fault (names_of k) v.first v.second
    unfolding names_of parts_of names_fault kinds
    kind-fault =
        agree_at (λ k. names_fault (parts_of k) v) (λ k. fault_by name_fault (names_of k) v.first v.second) 4 16
        (rw (first-last (name_fault client v.first), first-last (name_fault connection v.first), first-last (name_fault upgrade v.first), first-last (name_fault port v.first), first-last (name_fault channel v.second)))
        k low (omega arith)

    pub kind-refused : (n : ℕ) → n ≡ fault_by name_fault (names_of k) v.first v.second → (n ≡ 0 → ⊥) → limited (parts_of k) v ≡ refused n
    kind-refused n e h = rw (kind-fault, ← e, ne_eqb n 0 h, ne_eqb n 0 h)

    pub kind-limited : fault_by name_fault (names_of k) v.first v.second ≡ 0 → limited (parts_of k) v ≡ short (render (parts_of k) v)
    unfolding short
    kind-limited e = rw (kind-fault, e)

    pub kind-checked : limited (parts_of k) v ≡ checked (fault_by name_fault (names_of k) v.first v.second) (short (render (parts_of k) v))
    kind-checked = go (eqb (fault_by name_fault (names_of k) v.first v.second) 0) refl
      where
        go : (b : Bool) → eqb (fault_by name_fault (names_of k) v.first v.second) 0 ≡ b → limited (parts_of k) v ≡ cond b (short (render (parts_of k) v)) (refused (fault_by name_fault (names_of k) v.first v.second))
        go true e = kind-limited (eqb-true _ 0 e)
        go false e = kind-refused _ refl (eqb-false _ 0 e)

-- ---- what is wanted, by a check's refusal, and by none
module _ {n m : ℕ} (w : Wanted) (e : n ≡ m) where
  pub checked-refused : (n ≡ 0 → ⊥) → checked m w ≡ refused n
  checked-refused h = rw (← e, ne_eqb n 0 h)

  pub checked-wanted : n ≡ 0 → checked m w ≡ w
  checked-wanted h = rw (← e, h)

-- ---- the length, by the lengths of the identifiers up to 4,097
first-capped : (n x y f g : ℕ) → min 4097 (f + (first_of n (min 4097 x) (min 4097 y) + g)) ≡ min 4097 (f + (first_of n x y + g))
unfolding first_of
first-capped zero x y f g = refl
first-capped (suc zero) x y f g = omega arith
first-capped (suc (suc n)) x y f g = omega arith

module _ (k : ℕ) (low : 1 ≤ k) (high : k ≤ 19) (one two : List ℕ) (a b : ℕ) where
  pub length-capped : (x y r : ℕ) → x ≡ min 4097 (length one) → y ≡ min 4097 (length two) → r ≡ render_length (parts_of k) (carried x y a b) → min 4097 r ≡ min 4097 (length (render (parts_of k) (carried one two a b)))
  length-capped x y r e f h = rw (h, e, f, render-length (parts_of k) (carried one two a b), length-by k low high, length-by k low high) (first-capped _ _ _ _ _)

-- ---- the room, where n is the length of w as far as it is wanted
module _ (w out : List ℕ) (n : ℕ) (e : min 4097 n ≡ min 4097 (length w)) where
  pub fit-long : 4096 < n → (refusal 1 ≡ answer (short w) (length out)) × (out ≡ left (short w) out)
  unfolding short
  fit-long h = gives-refusal (short w) out 1 (let l : 4096 < length w = omega arith in rw (lt-leb (length w) 4096 l))

  module _ (few : n ≤ 4096) where
    is-text : short w ≡ text w
    unfolding short
    is-text = let l : length w ≤ 4096 = omega arith in rw (le-leb (length w) 4096 l)

    pub fit-short : length out < n → (refusal 4 ≡ answer (short w) (length out)) × (out ≡ left (short w) out)
    fit-short h = gives_same (short w) out is-text (gives-short w out (omega arith))

    pub fit-done : {r : ℕ} {o : List ℕ} → Wrote out 0 w r o → (done r ≡ answer (short w) (length out)) × (o ≡ left (short w) out)
    fit-done h = gives_same (short w) out is-text (gives-text w out h)

-- ---- the length of a word
pub word-length : (k : ℕ) → 1 ≤ k → k ≤ 3 → length (get_or sequence_texts (k - 1) []) ≡ render_length (parts_of k) (carried 0 0 0 0)
unfolding parts_of render_length kinds
word-length k l h = agree_at (λ k. length (get_or sequence_texts (k - 1) [])) (λ k. render_length (parts_of k) (carried 0 0 0 0)) 1 3 refl k l (omega arith)
