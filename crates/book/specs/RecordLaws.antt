-- What the functions on keys and on texts come to, in a book of the version that the calls take.
-- Assumes nothing.
use Rattle.std.specs.Prelude.{◌≡◌, Bool, true, false, ℕ, ◌+◌, ◌*◌, ◌-◌, ◌<◌, ◌≤◌, length, take, get_or, Option, Some, None, Result, Ok, Err}
use Rattle.std.proofs.Math.Path.{refl, ap}
use Rattle.std.proofs.Common.{sym, ◌∙◌, subst, drop_at, drop-drop}
use mathlib.Core.List.{List, [], ◌∷◌, ◌++◌}
use Prim.Native.Nat.{Ordering}
use native.Mathlib.Omega.{arith}
use Rattle.std.proofs.Math.ListN.{drop}
use Rattle.std.proofs.lemmas.List.{replicate-append-replicate}
use Rattle.text.specs.Order.{cmp}
use Rattle.text.specs.declared.Written.{Written}
use Rattle.text.specs.Put.{put}
use Rattle.text.specs.Put as buffer
use Rattle.text.specs.PutLaws.{put-zero}
use Rattle.book_records.specs.Act.{Meaning, writes, removes, looks}
use Rattle.book_records.specs.declared.Manner.{Manner}
use Rattle.book_records.specs.Calls.{ValueFits, is_owner, is_retired}
use Rattle.book_records.specs.TextLaws.{Keyed, look-means, write_means, remove-means}
use Rattle.book_form.specs.Form.{QuotasFit, layout, slots, inserted, removed, zeros, key_at}
use Rattle.book_form.specs.FormLaws.{length-zeros, zeros-over}
use Rattle.book_form.specs.Counted.{counted_in, stored}
use Rattle.book_form.specs.declared.Quotas.{Quotas}
use Rattle.book_form.specs.declared.Version.TheVariants.{Three}
use Rattle.book_form.specs.Version.{quotas_in}
use Rattle.book_form.specs.Tells.{Tells}
use Rattle.book_form.specs.VersionLaws.{value-length}
use Rattle.book.specs.Book.{Current, Book, Counts, Judged, FullIs}
use Rattle.book.specs.BookLaws.{lawful, sizes}
use Rattle.book.specs.Check.{Slotted}
use Rattle.book.specs.CheckLaws.{book_good}
use Rattle.book.specs.Find.{Placed, Spotted}
use Rattle.book.specs.Outcome.{Changed, Found, Recorded, Removed, Looked, Made}
use Rattle.book.specs.Outcome as o
use Rattle.book.specs.ShareLaws.{book-told}
use Rattle.book.specs.FindLaws.{slot-left, looked-absent, write_replaced, write-inserted, write-full, remove-done, remove_absent}

pub spotted : (b k : List ℕ) (n : ℕ) (s : Result ℕ ℕ) (q : Result ℕ ℕ) → Spotted Current b k n s → s ≡ q → Spotted Current b k n q
spotted b k n s q h e = rw e at h

pub judged-holds : (b : List ℕ) (a : Option ℕ) (n : ℕ) → Judged Current b a → a ≡ Some n → Counts Current b n
judged-holds b a n h e = rw e at h

pub judged-none : (b : List ℕ) (a : Option ℕ) → Judged Current b a → a ≡ None → Book Current b → ⊥
judged-none b a h e = rw e at h

-- the value of a record, in its slot
pub value-at : (b : List ℕ) (at : ℕ) → stored b (at + 1 + 256) ≡ (Current.record_of (drop at b)).1
value-at b at = ap (λ (m : ℕ). stored b m) (let q : at + 1 + 256 ≡ at + 257 = omega arith in q) ∙ ap counted_in (sym (drop-drop 257 at b))

-- where a value stands, in a slot of the book
pub value_room : (b : List ℕ) (n p : ℕ) → Counts Current b n → p < n
    → (12 + 322 * p + 1 + 256 + 1 + get_or b (12 + 322 * p + 1 + 256) 0 ≤ length b) × (length (stored b (12 + 322 * p + 1 + 256)) ≤ 64)
value_room b n p h l =
    let z = sizes Current lawful b n h in
    let r : 12 + 322 * p + 322 ≤ length b = omega (arith, z.used) in
    let g = book_good Current lawful b h.0 p (omega (arith, h.1)) in
    let w = value-length Three b (12 + 322 * p) 1 refl r refl g.ok in
    (omega (arith, w.0), w.1)

module _ (b : List ℕ) (owner : ℕ) (key : List ℕ) (n p : ℕ) (h : Counts Current b n) where
  abbrev k : List ℕ
  k = owner ∷ key

  abbrev x : Book Current b
  x = h.0

  pub at_place : Placed Current b k n p → Placed Current b k (length x.records) p
  at_place pl = rw (← h.1) at pl

  pub record Room : Type 0 where
    pub within : p < n
    pub slot : 12 + 322 * (p + 1) ≤ length b
    pub all : 12 + 322 * n ≤ length b
    pub most : n ≤ 200
    pub short : length (stored b (12 + 322 * p + 1 + 256)) ≤ 64
    pub value : 12 + 322 * p + 1 + 256 + 1 + get_or b (12 + 322 * p + 1 + 256) 0 ≤ length b

  pub room : Spotted Current b k n (Ok p) → Room
  room s =
      let l : p < n = s.1 in
      let z = sizes Current lawful b n h in
      let w = value_room b n p h l in
      record { within = l; slot = omega (arith, z.used); all = z.used; most = z.most; short = w.1; value = w.0 }

  fit : (v : List ℕ) → length key ≤ 255 → ValueFits v → Current.Fit (k, v)
  fit v hk hv = (omega arith, omega arith, hv)

  -- the quotas are those of the header
  told : quotas_in b ≡ x.extra
  told = book-told Three b x

  pub inside : Spotted Current b k n (Ok p) → p < length x.records
  inside s = let l : p < n = s.1 in omega (arith, h.1)

  module _ (s : Spotted Current b k n (Ok p)) where
    pub write-taken : (v b₁ : List ℕ) → length key ≤ 255 → ValueFits v → b₁ ≡ put b (12 + 322 * p) (Current.slot (k, v)) → Changed Current b (writes k v) 0 b₁
    write-taken v b₁ hk hv w = write_replaced Current lawful b k x p (at_place s.0) (inside s) s.2 v b₁ (fit v hk hv) w

    pub remove-taken : (b₁ : List ℕ) → b₁ ≡ removed Current (quotas_in b) p (p + 1) n b → Changed Current b (removes k) 0 b₁
    remove-taken b₁ w =
        remove-done Current lawful b k x p (at_place s.0) (inside s) s.2 b₁ (w ∙ ap (λ (e : Quotas). removed Current e p (p + 1) n b) told ∙ ap (λ (m : ℕ). removed Current x.extra p (p + 1) m b) (sym h.1))

  module _ (s : Spotted Current b k n (Err p)) where
    nowhere : p < length x.records → cmp k (key_at Current b p) ≡ Ordering.eq → ⊥
    nowhere l = s.1 (omega (arith, h.1))

    pub free-place : p ≤ n
    free-place = s.0.within

    pub look-free : (out : List ℕ) → Found Current b (looks k) out (buffer.refusal 12) out
    look-free = looked-absent Current lawful b k x p (at_place s.0) nowhere

    pub remove-free : Changed Current b (removes k) 12 b
    remove-free = remove_absent Current lawful b k x p (at_place s.0) nowhere

    module _ (r : Bool) (f : FullIs b owner r) where
      pub write-no_room : (v : List ℕ) → r ≡ true → Changed Current b (writes k v) 11 b
      write-no_room v e = write-full Current lawful b k x p (at_place s.0) nowhere v (sym (f x) ∙ e)

      module _ (w : is_owner owner ≡ true) (e : r ≡ false) where
        left : length x.records < x.slots
        left = slot-left Current lawful b k x p (at_place s.0) nowhere w (sym (f x) ∙ e)

        pub room-left : (n < 200) × (12 + 322 * (n + 1) ≤ length b)
        room-left = let z = sizes Current lawful b n h in omega (arith, left, h.1, z.bytes, x.most)

        pub write-room : (v b₁ : List ℕ) → length key ≤ 255 → ValueFits v → b₁ ≡ inserted Current (quotas_in b) p n b (k, v) → Changed Current b (writes k v) 0 b₁
        write-room v b₁ hk hv q =
            write-inserted Current lawful b k x p (at_place s.0) nowhere v b₁ (fit v hk hv) (sym (f x) ∙ e) left (rw (← h.1) at (q ∙ ap (λ (e : Quotas). inserted Current e p n b (k, v)) told))

-- ---- calls on texts
module _ (m : Manner) (b : List ℕ) (owner : ℕ) (w : is_owner owner ≡ true) (t field : List ℕ) (n : ℕ) (k : Keyed m t field n) (key : List ℕ) (part : key ≡ take (n - 0) field) where
  ek : owner ∷ key ≡ owner ∷ k.key
  ek = ap (λ (l : List ℕ). owner ∷ l) (part ∙ ap (λ (j : ℕ). take j field) (let q : n - 0 ≡ n = omega arith in q) ∙ k.here)

  pub look-text : (out : List ℕ) (r : Written) (out₁ : List ℕ) → 64 ≤ length out → Found Current b (looks (owner ∷ key)) out r out₁ → Looked Current m b owner t out r out₁
  look-text out r out₁ h l = subst (λ (q : Meaning). Found Current b q out r out₁) (ap looks ek ∙ sym (look-means m owner w t field n k (length out) h)) l

  pub write-text : (v : List ℕ) (r : ℕ) (b₁ : List ℕ) → is_retired (owner ∷ k.key) ≡ false → ValueFits v → Changed Current b (writes (owner ∷ key) v) r b₁ → Recorded Current m b owner t v r b₁
  write-text v r b₁ s h l = subst (λ (q : Meaning). Changed Current b q r b₁) (ap (λ (j : List ℕ). writes j v) ek ∙ sym (write_means m owner w t field n k v s h)) l

  pub remove-text : (r : ℕ) (b₁ : List ℕ) → Changed Current b (removes (owner ∷ key)) r b₁ → Removed Current m b owner t r b₁
  remove-text r b₁ l = subst (λ (q : Meaning). Changed Current b q r b₁) (ap removes ek ∙ sym (remove-means m owner w t field n k)) l

  pub key_short : length key ≤ 255
  key_short = omega (arith, ap length ek, k.short)

-- ---- a new book
module _ (b : List ℕ) (C : ℕ) (s : Slotted Current b C) (q : Quotas) where
  pub new_none : C ≡ 0 → Made Current q b 9 b
  new_none e = o.Made.no_size (s.none e) refl refl

  module _ (z : C ≡ 0 → ⊥) (t : Bool) (fits : Tells t (QuotasFit Current C q)) where
    pub new_small : t ≡ false → Made Current q b 11 b
    new_small e = o.Made.no_slots C (s.some z) (fits.fails e) refl refl

    pub new-made : t ≡ true → (b₁ b₂ : List ℕ) → b₁ ≡ put b 0 (zeros (length b)) → b₂ ≡ put b₁ 0 (Current.header q 0) → Made Current q b 0 b₂
    unfolding layout slots
    new-made h b₁ b₂ e f = o.Made.new_book C (s.some z) (fits.holds h) refl (f ∙ ap (λ (l : List ℕ). put l 0 (Current.header q 0)) (e ∙ zeros-over b) ∙ tail)
      where
        tail : put (zeros (length b)) 0 (Current.header q 0) ≡ layout Current C q []
        tail =
            put-zero (zeros (length b)) (Current.header q 0)
            ∙ ap (λ (k : ℕ). Current.header q 0 ++ drop k (zeros (length b))) (lawful.header-length q 0)
            ∙ ap (λ (k : ℕ). Current.header q 0 ++ drop 12 (zeros k)) (s.some z).size
            ∙ ap (λ (l : List ℕ). Current.header q 0 ++ drop 12 l) (sym (replicate-append-replicate 12 (322 * C) 0))
            ∙ ap (λ (l : List ℕ). Current.header q 0 ++ l) (drop_at (zeros 12) (zeros (322 * C)) 12 (length-zeros 12))
            ∙ ap (λ (k : ℕ). Current.header q 0 ++ zeros (322 * k)) (let q : C ≡ C - 0 = omega arith in q)
