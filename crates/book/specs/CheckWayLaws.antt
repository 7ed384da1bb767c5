-- The ways out of the functions that check a book of any version, one law each.
-- Assumes nothing.
use Rattle.std.specs.Prelude.{◌≡◌, Bool, true, false, leb, length, drop, get_or, Err}
use Rattle.std.proofs.Math.Path.{refl, ap}
use Rattle.std.proofs.Common.{sym, ◌∙◌, subst, arith, leb-true, leb-false}
use mathlib.Core.List.{List, []}
use Prim.Native.Nat.{ℕ, ◌+◌, ◌*◌, ◌<◌, ◌≤◌, Ordering}
use Rattle.std.proofs.Math.ListN.{take}
use Rattle.text.specs.Number.{Bytes}
use Rattle.text.specs.Order.{cmp}
use Rattle.text.specs.Part.{same}
use Rattle.text.specs.PartLaws.{same-is, same_refl}
use Rattle.path.specs.declared.Path.{Path}
use Rattle.path.specs.declared.Refusal.{Refusal}
use Rattle.path.specs.Reading.{Reading, Read}
use Rattle.path.specs.Read.{read_path}
use Rattle.book_records.specs.Calls.{Exact}
use Rattle.book_records.specs.MannerLaws.{exact_yes, exact-no, exact-refused}
use Rattle.book_form.specs.declared.Quotas.{Quotas}
use Rattle.book_form.specs.declared.Version.{Version}
use Rattle.book_form.specs.declared.Version.TheVariants.{One, Two, Three}
use Rattle.book_form.specs.Form.{QuotasFit, layout, slot_at, key_at, SlotOk}
use Rattle.book_form.specs.Counted.{stored}
use Rattle.book_form.specs.Version.{number_of, owners_of, form_of, header, count_in, quotas_in, V3}
use Rattle.book_form.specs.VersionLaws.{version_lawful, owned-key}
use Rattle.book_form.specs.Compare.{ordering_of}
use Rattle.std.specs.declared.cmp.Ordering.{Ordering as Order}
use Rattle.std.specs.Ordering.{is_lt}
use Rattle.book_form.specs.Tells.{Tells, tells_true, tells_false}
use Rattle.book.specs.Book.{Book, Counts}
use Rattle.book.specs.SizeLaws.{book-sized, book-slots}
use Rattle.book.specs.Check.{Slotted, Frame, owner_ok, SlotGood, SlotsGood, Rises, Rising, Parted, SharesFit, Shares}
use Rattle.book.specs.BookLaws.{few-records, sizes}
use Rattle.book.specs.CheckLaws.{book_good, book-rising}
use Rattle.book.specs.ShareLaws.{book-told, front-told}
use Rattle.book.specs.FindLaws.{told_lt, told_not}

-- ---- the size and the header
module _ (v : Version) (b : List ℕ) where
  counted : (x : Book (form_of v) b) → count_in b ≡ length x.records
  unfolding layout header
  counted x = rw x.bytes (omega arith)

  eight : (x : Book (form_of v) b) → take 8 b ≡ header (number_of v) (count_in b) []
  unfolding layout header
  eight x = first x ∙ ap (λ (n : ℕ). header (number_of v) n []) (sym (counted x))
    where
      first : (x : Book (form_of v) b) → take 8 b ≡ header (number_of v) (length x.records) []
      first x = rw x.bytes refl

  pub no_front : same (take 8 b) (header (number_of v) (count_in b) []) ≡ false → Book (form_of v) b → ⊥
  no_front h x =
      let e : same (header (number_of v) (count_in b) []) (header (number_of v) (count_in b) []) ≡ false = rw (eight x) at h in
      let z : ◌≡◌ {A = ℕ} 0 1 = cc (same_refl (header (number_of v) (count_in b) [])) in
      omega arith

  module _ (r : ℕ) (s : Slotted (form_of v) b r) where
    pub no_size : r ≡ 0 → Book (form_of v) b → ⊥
    no_size e x = s.none e x.slots (book-sized (form_of v) (version_lawful v) b x)

    pub no_room_when : (n : ℕ) → n ≡ count_in b → r < n → Book (form_of v) b → ⊥
    no_room_when n e h x = omega (arith, book-slots (form_of v) (version_lawful v) b r s x, counted x, few-records (form_of v) (version_lawful v) b x)

    pub no-quotas : (t : Bool) → Tells t (QuotasFit (form_of v) r ((owners_of v).told b)) → t ≡ false → Book (form_of v) b → ⊥
    no-quotas t q e x = q.fails e (rw (book-slots (form_of v) (version_lawful v) b r s x, book-told v b x) x.quotas)

    pub head-room : (r ≡ 0 → ⊥) → (form_of v).head ≤ length b
    head-room z = omega (arith, (s.some z).size)

    pub frame_of : (r ≡ 0 → ⊥) → Bytes b → (n : ℕ) → same (take 8 b) (header (number_of v) (count_in b) []) ≡ true → QuotasFit (form_of v) r ((owners_of v).told b) → n ≡ count_in b → n ≤ r → Frame (form_of v) b n
    frame_of z g n t q e f =
        record {
          extra = (owners_of v).told b;
          room = r;
          sized = s.some z;
          few = f;
          quotas = q;
          front = front-told v b (number_of v) n g (head-room z) (same-is (take 8 b) (header (number_of v) (count_in b) []) t ∙ ap (λ (k : ℕ). header (number_of v) k []) (sym e));
        }

-- ---- a slot and its key
pub tells-exact : (k x : List ℕ) (r : Reading) (p : Path) (e : Bool) → r ≡ Read p e → r ≡ read_path x → x ≡ k → Tells e (Exact k)
tells-exact k x r p e q h s = go e (ap read_path (sym s) ∙ sym h ∙ q)
  where
    go : (v : Bool) → read_path k ≡ Read p v → Tells v (Exact k)
    go true w = tells_true (exact_yes k p w)
    go false w = tells_false (exact-no k p w)

pub tells-refused : (k x : List ℕ) (r : Reading) (w : Refusal) → r ≡ Err w → r ≡ read_path x → x ≡ k → Tells false (Exact k)
tells-refused k x r w q h s = tells_false (exact-refused k w (ap read_path (sym s) ∙ sym h ∙ q))

-- the key of a slot is exact where its owner is one and what stands behind it is exact
exact_of : (v : Version) (b : List ℕ) (at : ℕ) → at < length b → owner_ok v (get_or b at 0) ≡ true → Exact (stored b (at + (owners_of v).lead)) → (form_of v).Exact ((form_of v).record_of (drop at b)).0
exact_of One b at h o e = let z : at + 0 ≡ at = omega arith in rw z at e
exact_of Two b at h o e = let z : at + 0 ≡ at = omega arith in rw z at e
exact_of Three b at h o e = rw (owned-key b at h) (o, e)

exact-back : (v : Version) (b : List ℕ) (at : ℕ) → at < length b → (form_of v).Exact ((form_of v).record_of (drop at b)).0 → (owner_ok v (get_or b at 0) ≡ true) × Exact (stored b (at + (owners_of v).lead))
exact-back One b at h e = let z : at + 0 ≡ at = omega arith in (refl, rw z e)
exact-back Two b at h e = let z : at + 0 ≡ at = omega arith in (refl, rw z e)
exact-back Three b at h e = rw (owned-key b at h) at e

module _ (v : Version) (b : List ℕ) (i at : ℕ) (ea : at ≡ slot_at (form_of v) i) where
  pub tells-slot : (r : Bool) → Tells r (SlotOk (form_of v) (drop at b)) → r ≡ false → Tells false (SlotGood (form_of v) b i)
  tells-slot r t e = tells_false (λ g. t.fails e (rw ea g.ok))

  module _ (h : at < length b) where
    pub tells-owner : (r : Bool) → r ≡ owner_ok v (get_or b at 0) → r ≡ false → Tells false (SlotGood (form_of v) b i)
    tells-owner r t e = tells_false (λ g.
        let w = (exact-back v b at h (rw ea g.exact)).0 in
        let z : ◌≡◌ {A = ℕ} 0 1 = cc in
        omega arith)

    pub tells_both : (r q : Bool) (l : ℕ) → SlotOk (form_of v) (drop at b) → q ≡ owner_ok v (get_or b at 0) → q ≡ true → l ≡ (owners_of v).lead → Tells r (Exact (stored b (at + l))) → Tells r (SlotGood (form_of v) b i)
    tells_both r q l ok eq t el tells =
        let o : SlotOk (form_of v) (drop (slot_at (form_of v) i) b) = rw ea at ok in
        record {
          holds = λ e. record { ok = o; exact = rw ea at (exact_of v b at h (sym eq ∙ t) (rw el at (tells.holds e))) };
          fails = λ e g. tells.fails e (rw el (exact-back v b at h (rw ea g.exact)).1);
        }

-- ---- the order of two keys
module _ (v : Version) (b : List ℕ) (i at : ℕ) (r : Order) (ea : at ≡ slot_at (form_of v) i) (e : r ≡ ordering_of (cmp ((form_of v).record_of (drop at b)).0 ((form_of v).record_of (drop (at + (form_of v).width) b)).0)) where
  order_is : r ≡ ordering_of (cmp (key_at (form_of v) b i) (key_at (form_of v) b (i + 1)))
  order_is =
      e
      ∙ ap (λ (q : ℕ). ordering_of (cmp ((form_of v).record_of (drop q b)).0 ((form_of v).record_of (drop (at + (form_of v).width) b)).0)) ea
      ∙ ap (λ (q : ℕ). ordering_of (cmp (key_at (form_of v) b i) ((form_of v).record_of (drop q b)).0)) (let q : at + (form_of v).width ≡ slot_at (form_of v) (i + 1) = omega (arith, ea) in q)

  pub rises_yes : is_lt r ≡ true → Rises (form_of v) b i
  rises_yes h = told_lt _ r order_is h

  pub rises-no : is_lt r ≡ false → Rises (form_of v) b i → ⊥
  rises-no h = told_not is_lt (cmp (key_at (form_of v) b i) (key_at (form_of v) b (i + 1))) Ordering.lt r order_is h refl

-- ---- by the version, as a match tells it
module _ (v : Version) (b : List ℕ) where
  pub fits_one : v ≡ One → (C : ℕ) → Tells true (QuotasFit (form_of v) C ((owners_of v).told b))
  fits_one e C = subst (λ (u : Version). Tells true (QuotasFit (form_of u) C ((owners_of u).told b))) (sym e) (tells_true (omega arith))

  pub fits-two : v ≡ Two → (C : ℕ) → Tells true (QuotasFit (form_of v) C ((owners_of v).told b))
  fits-two e C = subst (λ (u : Version). Tells true (QuotasFit (form_of u) C ((owners_of u).told b))) (sym e) (tells_true (omega arith))

  pub fits-three : v ≡ Three → (C : ℕ) (q : Quotas) (r : Bool) → q ≡ quotas_in b → Tells r (QuotasFit V3 C q) → Tells r (QuotasFit (form_of v) C ((owners_of v).told b))
  fits-three e C q r w t =
      subst (λ (u : Version). Tells r (QuotasFit (form_of u) C ((owners_of u).told b))) (sym e) (subst (λ (p : Quotas). Tells r (QuotasFit V3 C p)) w t)

  sole_parted : (u : Version) → ((k : List ℕ) → (form_of u).owner k ≡ 1) → (n : ℕ) → Parted (form_of u) b n n
  sole_parted u h n = record { few = omega arith; ones = λ i l. h (key_at (form_of u) b i); twos = λ i l k. absurd (let z : ⊥ = omega arith in z) }

  pub parted-one : v ≡ One → (n : ℕ) → Parted (form_of v) b n n
  parted-one e n = subst (λ (u : Version). Parted (form_of u) b n n) (sym e) (sole_parted One (λ k. refl) n)

  pub parted-two : v ≡ Two → (n : ℕ) → Parted (form_of v) b n n
  parted-two e n = subst (λ (u : Version). Parted (form_of u) b n n) (sym e) (sole_parted Two (λ k. refl) n)

  pub parted-three : v ≡ Three → (n m : ℕ) → Parted V3 b n m → Parted (form_of v) b n m
  parted-three e n m p = subst (λ (u : Version). Parted (form_of u) b n m) (sym e) p

  pub shares-one : v ≡ One → (n m : ℕ) → Tells true (Shares v b n m)
  shares-one e n m = rw e (tells_true tt)

  pub shares-two : v ≡ Two → (n m : ℕ) → Tells true (Shares v b n m)
  shares-two e n m = rw e (tells_true tt)

  pub shares-three : v ≡ Three → (n m : ℕ) (q : Quotas) (r : Bool) → q ≡ quotas_in b → Tells r (SharesFit q n m) → Tells r (Shares v b n m)
  shares-three e n m q r w t = rw e (subst (λ (p : Quotas). Tells r (SharesFit p n m)) w t)

-- a test of two numbers
pub tells-leb : (a b : ℕ) (P : Type 0) → (a ≤ b → P) → (P → a ≤ b) → Tells (leb a b) P
tells-leb a b P f g = go (leb a b) refl
  where
    go : (v : Bool) → leb a b ≡ v → Tells v P
    go true e = tells_true (f (leb-true a b e))
    go false e = tells_false (λ p. omega (arith, leb-false a b e, g p))

-- what a book with n records has
pub filed : (b : List ℕ) (n : ℕ) → Counts V3 b n → ((n ≤ 200) × (12 + 322 * n ≤ length b)) × (SlotsGood V3 b n × Rising V3 b n)
filed b n h =
    let L = version_lawful Three in
    let z = sizes V3 L b n h in
    ((z.most, z.used), (rw h.1 at (book_good V3 L b h.0), rw h.1 at (book-rising V3 L b h.0)))
