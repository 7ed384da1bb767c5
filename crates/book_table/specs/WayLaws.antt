-- What the ways through the functions on a table come to.
-- Assumes nothing.
use Rattle.std.specs.Prelude.{◌≡◌, ℕ, zero, suc, ◌+◌, ◌-◌, ◌*◌, ◌<◌, ◌≤◌, true, false, List, [], ◌∷◌, ◌++◌, length, ◌≢◌, slice_index, slice_set, refl}
use Rattle.std.proofs.Math.Path.{sym, ap}
use Rattle.std.proofs.Common.{◌∙◌, add-one, arith, below_none, below_more, drop_of_length-le}
use mathlib.Core.List.{append-nil}
use Prim.Native.Nat.{Ordering}
use borrow.Author.Tests.{eq-eqb, ne_eqb}
use Rattle.std.proofs.Math.ListN.{length-set, length-replicate}
use Rattle.text.specs.Order.{cmp}
use Rattle.text.specs.OrderLaws.{cmp-eq, cmp_self}
use Rattle.text.specs.Put.{put}
use Rattle.text.specs.PutLaws.{put-zero, put-set}
use Rattle.book_records.specs.Records.{Key}
use Rattle.book_form.specs.Form.{zeros, key_at}
use Rattle.book_form.specs.FormLaws.{length-zeros}
use Rattle.book_form.specs.Compare.{ordering_of}
use Rattle.std.specs.declared.cmp.Ordering.{Ordering as Order}
use Rattle.std.specs.Ordering.{is_eq}
use Rattle.book_form.specs.Counted.{stored}
use Rattle.book_form.specs.VersionLaws.{owned-key}
use Rattle.book.specs.Book.{Current, Counts}
use Rattle.book.specs.BookLaws.{lawful, sizes}
use Rattle.book.specs.FindLaws.{told_eq, told_not}
use Rattle.book_table.specs.FirstLaws.{first-stop}
use Rattle.book_table.specs.Probe.{Holds, Lacks}
use Rattle.book_table.specs.Table.{home, spot, bucket, free, free_spot, filled}
use Rattle.book_table.specs.TableLaws.{Sound, sound-filled, Passed, walk-slot, walk-missing}

-- ---- the first free bucket
abbrev pub AllUsed : List ℕ → ℕ → ℕ → Type 0
AllUsed t h d = (e : ℕ) → e < d → free t h e ≡ false

module _ (t : List ℕ) (h d : ℕ) (u : AllUsed t h d) where
  pub used-more : (bucket t h d ≢ 0) → AllUsed t h (d + 1)
  used-more n = below_more (λ (e : ℕ). free t h e ≡ false) d u (ne_eqb (bucket t h d) 0 n)

  stopped : d ≤ 512 → (d < 512 → bucket t h d ≡ 0) → spot h d ≡ free_spot t h
  unfolding free_spot
  stopped l z = ap (spot h) (sym (first-stop (free t h) 512 d l u (λ k. eq-eqb (bucket t h d) 0 (z k))))

  pub free-here : d < 512 → bucket t h d ≡ 0 → (spot h d ≡ free_spot t h) × (spot h d < 512)
  free-here l z = (stopped (omega arith) (λ k. z), omega arith)

  pub free-nowhere : d ≤ 512 → 512 ≤ d → h < 512 → (h ≡ free_spot t h) × (h < 512)
  free-nowhere l m n = (let e : h ≡ spot h d = omega arith in e ∙ stopped l (λ k. absurd (let z : ⊥ = omega arith in z)), n)

pub used_start : (t : List ℕ) (h : ℕ) → AllUsed t h 0
used_start t h = below_none (λ (e : ℕ). free t h e ≡ false)

-- ---- filling
module _ (f : ℕ → Key) where
  pub length-filled : (n : ℕ) → length (filled f n) ≡ 512
  unfolding filled
  length-filled zero = length-replicate {A = ℕ} 512 0
  length-filled (suc n) = length-set (filled f n) (free_spot (filled f n) (home (f n))) (suc n) ∙ length-filled n

  -- a table with the first i keys in it
  pub record Filling (i : ℕ) (t : List ℕ) : Type 0 where
    pub size : length t ≡ 512
    pub table : t ≡ filled f i

  filling : (i : ℕ) (t : List ℕ) → t ≡ filled f i → Filling i t
  filling i t e = record { size = ap length e ∙ length-filled i; table = e }

  pub fill_none : (t t₁ : List ℕ) → length t ≡ 512 → t₁ ≡ put t 0 (zeros 512) → Filling 0 t₁
  unfolding filled
  fill_none t t₁ l e =
      filling 0 t₁
      (e
      ∙ put-zero t (zeros 512)
      ∙ ap (λ (x : List ℕ). zeros 512 ++ x) (drop_of_length-le t (let q : length t ≤ length (zeros 512) = omega (arith, length-zeros 512) in q))
      ∙ append-nil (zeros 512))

  pub fill_more : (t t₁ k : List ℕ) (i h p : ℕ) → Filling i t → k ≡ f i → h ≡ home k → (p ≡ free_spot t h) × (p < 512) → t₁ ≡ put t p ((i + 1) ∷ []) → Filling (i + 1) t₁
  unfolding filled
  fill_more t t₁ k i h p g ek eh ep e =
      let pp : p ≡ free_spot (filled f i) (home (f i)) = cc (ep.0, g.table) in
      filling (i + 1) t₁
      (e
      ∙ sym (put-set t p (i + 1) (omega (arith, ep.1, g.size)))
      ∙ ap (λ (x : List ℕ). slice_set x p (i + 1)) g.table
      ∙ ap (λ (q : ℕ). slice_set (filled f i) q (i + 1)) pp
      ∙ rw (add-one i))

-- the key in a slot, as it is read
pub key-there : (b : List ℕ) (n : ℕ) → Counts Current b n → (i : ℕ) → i < n → (key : List ℕ) → key ≡ stored b (12 + 322 * i + 1) → slice_index b (12 + 322 * i) ∷ key ≡ key_at Current b i
key-there b n h i l key e =
    ap (λ (k : List ℕ). slice_index b (12 + 322 * i) ∷ k) e ∙ sym (owned-key b (12 + 322 * i) (omega (arith, (sizes Current lawful b n h).used)))

-- ---- probing
module _ (b t k : List ℕ) (n : ℕ) (hold : Counts Current b n × (t ≡ filled (key_at Current b) n)) where
  abbrev f : ℕ → Key
  f = key_at Current b

  pub table-sound : Sound f n t
  table-sound = rw hold.1 (sound-filled f n (omega (arith, (sizes Current lawful b n hold.0).most)))

  pub passed_start : Passed t f k 0
  passed_start e l = absurd (let z : ⊥ = omega arith in z)

  module _ (h d v : ℕ) (eh : h ≡ home k) (ev : v ≡ bucket t h d) where
    ew : v ≡ bucket t (home k) d
    ew = ev ∙ ap (λ (x : ℕ). bucket t x d) eh

    pub ended-free : Passed t f k d → v ≡ 0 → Lacks f n k
    ended-free p z = walk-missing f n t table-sound k d p (λ l. sym ew ∙ z)

    pub slot-there : (v ≢ 0) → 12 + 322 * (v - 1) + 257 ≤ length b
    slot-there z =
        let l : v - 1 < n = omega (arith, ew, walk-slot f n t table-sound k d (λ e. z (ew ∙ e))) in
        omega (arith, (sizes Current lawful b n hold.0).used)

    module _ (z : v ≡ 0 → ⊥) (r : Order) (e : r ≡ ordering_of (cmp k (f (v - 1)))) where
      pub ended-found : is_eq r ≡ true → Holds f n k (v - 1)
      ended-found q = (omega (arith, ew, walk-slot f n t table-sound k d (λ x. z (ew ∙ x))), sym (cmp-eq k (f (v - 1)) (told_eq _ r e q)))

      pub passed-more : Passed t f k d → is_eq r ≡ false → Passed t f k (d + 1)
      passed-more p q =
          below_more (λ (i : ℕ). (bucket t (home k) i ≢ 0) × (f (bucket t (home k) i - 1) ≢ k)) d p
          (λ x. z (ew ∙ x), λ x. told_not is_eq (cmp k (f (v - 1))) Ordering.eq r e q refl (ap (cmp k) (ap (λ (y : ℕ). f (y - 1)) ew ∙ x) ∙ cmp_self k))

  pub ended-all : (d : ℕ) → Passed t f k d → 512 ≤ d → Lacks f n k
  ended-all d p l = walk-missing f n t table-sound k d p (λ m. absurd (let z : ⊥ = omega arith in z))
