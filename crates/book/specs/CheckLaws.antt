-- What is checked is a book, and a book is what is checked.
-- Assumes nothing.
use Rattle.std.specs.Prelude.{◌≡◌, Bool, false, true}
use Rattle.std.proofs.Math.Path.{refl, sym, ap}
use Rattle.std.proofs.Common.{◌∙◌, not-suc-le-zero, le_of_suc-le-suc, add-one, arith, length-drop, take-append-drop, drop-drop}
use mathlib.Core.List.{List, [], ◌∷◌, ◌++◌, append_assoc}
use Rattle.std.proofs.Math.Option.{some}
use Prim.Native.Nat.{ℕ, zero, suc, ◌+◌, ◌*◌, ◌-◌, ◌<◌}
use Rattle.std.proofs.Math.Dec.{eqb}
use Rattle.std.proofs.Math.ListN.{length, take, drop, get_elem?}
use Rattle.std.proofs.Math.Seq.{take_at, drop_at}
use Rattle.text.specs.Order.{Before}
use Rattle.text.specs.Part.{every}
use Rattle.text.specs.PlaceLaws.{at_some, at_lt}
use Rattle.book_records.specs.Records.{Sorted}
use Rattle.book_records.specs.RecordLaws.{after_trans}
use Rattle.book_records.specs.Act.{Rec}
use Rattle.book_form.specs.Form.{Form, AllFit, AllExact, Within, slots, layout, zeros, slot_at, key_at, SlotOk}
use Rattle.book_form.specs.FormLaws.{Lawful, length_before, blank-zeros, zeros-blank}
use Rattle.book_form.specs.Tells.{Tells}
use Rattle.book.specs.Book.{Book, Counts}
use Rattle.book.specs.BookLaws.{fit_at, few-records, size_is, slot-there, record_is, key_is}
use Rattle.book.specs.Check.{Frame, SlotsGood, Rising}

-- ---- facts of every record, by positions
-- keys that rise from each to the next are in order
sorted-by-next : (s : List Rec) → ((i : ℕ) (r q : Rec) → get_elem? s i ≡ some r → get_elem? s (suc i) ≡ some q → Before r.0 q.0) → Sorted s
sorted-by-next [] h = tt
sorted-by-next (r ∷ []) h = (tt, tt)
sorted-by-next (r ∷ q ∷ s) h =
    let more = sorted-by-next (q ∷ s) (λ i a b e f. h (suc i) a b e f) in
    let e : Before r.0 q.0 = h 0 r q refl refl in
    ((e, after_trans r.0 q.0 s e more.0), more)

sorted-next : (s : List Rec) → Sorted s → (i : ℕ) (r q : Rec) → get_elem? s i ≡ some r → get_elem? s (suc i) ≡ some q → Before r.0 q.0
sorted-next [] h i r q e f = absurd (let z : ◌≡◌ {A = ℕ} 0 1 = cc in let y : ⊥ = omega arith in y)
sorted-next (a ∷ []) h i r q e f = absurd (let z : ◌≡◌ {A = ℕ} 0 1 = cc in let y : ⊥ = omega arith in y)
sorted-next (a ∷ b ∷ s) h zero r q e f =
    let p : a ≡ r = cc in
    let o : b ≡ q = cc in
    rw (← p, ← o) h.0.0
sorted-next (a ∷ b ∷ s) h (suc i) r q e f = sorted-next (b ∷ s) h.1 i r q e f

module _ (F : Form) where
  exact-by : (s : List Rec) → ((i : ℕ) (r : Rec) → get_elem? s i ≡ some r → F.Exact r.0) → AllExact F s
  exact-by [] h = tt
  exact-by (r ∷ s) h = (h 0 r refl, exact-by s (λ i q e. h (suc i) q e))

  pub exact-at : (s : List Rec) (i : ℕ) (r : Rec) → AllExact F s → get_elem? s i ≡ some r → F.Exact r.0
  exact-at [] i r h e = absurd (let z : ◌≡◌ {A = ℕ} 0 1 = cc in let y : ⊥ = omega arith in y)
  exact-at (q ∷ s) zero r h e = let p : q ≡ r = cc in rw p at h.0
  exact-at (q ∷ s) (suc i) r h e = exact-at s i r h.1 e

  -- the records of the first n slots
  unfoldable records : ℕ → List ℕ → List Rec
  records zero x = []
  records (suc n) x = F.record_of x ∷ records n (drop F.width x)

  shifted : (i : ℕ) (x : List ℕ) → drop (F.width * i) (drop F.width x) ≡ drop (F.width * suc i) x
  shifted i x = drop-drop (F.width * i) F.width x ∙ ap (λ (m : ℕ). drop m x) (let e : F.width + F.width * i ≡ F.width * suc i = omega arith in e)

  length-records : (n : ℕ) (x : List ℕ) → length (records n x) ≡ n
  unfolding records
  length-records zero x = refl
  length-records (suc n) x = ap suc (length-records n (drop F.width x))

  none : (x : List ℕ) → drop (F.width * 0) x ≡ x
  none x = ap (λ (m : ℕ). drop m x) (let e : F.width * 0 ≡ 0 = omega arith in e)

  record-at : (n : ℕ) (x : List ℕ) (i : ℕ) → i < n → get_elem? (records n x) i ≡ some (F.record_of (drop (F.width * i) x))
  unfolding records
  record-at zero x i h = absurd (not-suc-le-zero h)
  record-at (suc n) x zero h = ap (λ (y : List ℕ). some (F.record_of y)) (sym (none x))
  record-at (suc n) x (suc i) h = record-at n (drop F.width x) i (le_of_suc-le-suc h) ∙ ap (λ (y : List ℕ). some (F.record_of y)) (shifted i x)

  -- slots that are each in order are the slots of their records
  slots_are : (n : ℕ) (x : List ℕ) → ((i : ℕ) → i < n → SlotOk F (drop (F.width * i) x)) → x ≡ slots F (records n x) ++ drop (F.width * n) x
  unfolding records slots
  slots_are zero x h = sym (none x)
  slots_are (suc n) x h =
      let more = slots_are n (drop F.width x) (λ i l. rw (shifted i x) (h (suc i) (omega arith))) in
      let ok : SlotOk F x = rw (none x) at (h 0 (omega arith)) in
      sym (take-append-drop F.width x)
      ∙ ap (λ (l : List ℕ). l ++ drop F.width x) ok.bytes
      ∙ ap (λ (l : List ℕ). F.slot (F.record_of x) ++ l) more
      ∙ ap (λ (l : List ℕ). F.slot (F.record_of x) ++ (slots F (records n (drop F.width x)) ++ l)) (shifted n x)
      ∙ sym (append_assoc (F.slot (F.record_of x)) (slots F (records n (drop F.width x))) (drop (F.width * suc n) x))

  fits : (n : ℕ) (x : List ℕ) → ((i : ℕ) → i < n → SlotOk F (drop (F.width * i) x)) → AllFit F (records n x)
  unfolding records
  fits zero x h = tt
  fits (suc n) x h =
      let ok : SlotOk F x = rw (none x) at (h 0 (omega arith)) in
      (ok.fit, fits n (drop F.width x) (λ i l. rw (shifted i x) (h (suc i) (omega arith))))

  -- ---- what is checked is a book
  -- no owner is above its quota, whatever records have the keys of the first n slots
  abbrev pub WithinBy : (b : List ℕ) (n : ℕ) → Frame F b n → Type 0
  WithinBy b n c = (s : List Rec) → length s ≡ n → ((i : ℕ) (r : Rec) → get_elem? s i ≡ some r → key_at F b i ≡ r.0) → Within F c.room c.extra s

  pub to-book : (b : List ℕ) (n : ℕ) (c : Frame F b n) → SlotsGood F b n → Rising F b n → WithinBy b n c → every (λ x. eqb x 0) (drop (slot_at F n) b) ≡ true → Counts F b n
  unfolding layout
  to-book b n c good order within blank =
      (record { slots = C; extra = c.extra; records = s; least = c.sized.least; most = c.sized.most; fit = fits n y ok; exact = exact-by s keys; sorted = sorted-by-next s next; quotas = c.quotas; within = within s len (λ i r e. here i r (omega (arith, at_lt s i r e, len)) e); bytes = bytes }, len)
    where
      C : ℕ
      C = c.room

      y : List ℕ
      y = drop F.head b

      s : List Rec
      s = records n y

      len : length s ≡ n
      len = length-records n y

      same : (i : ℕ) → drop (F.width * i) y ≡ drop (slot_at F i) b
      same i = drop-drop (F.width * i) F.head b

      ok : (i : ℕ) → i < n → SlotOk F (drop (F.width * i) y)
      ok i h = rw (same i) (good i h).ok

      here : (i : ℕ) (r : Rec) → i < n → get_elem? s i ≡ some r → key_at F b i ≡ r.0
      here i r l e =
          let er : F.record_of (drop (slot_at F i) b) ≡ r = let z = rw (same i) at (record-at n y i l) in cc in
          ap (λ (q : Rec). q.0) er

      keys : (i : ℕ) (r : Rec) → get_elem? s i ≡ some r → F.Exact r.0
      keys i r e =
          let l : i < n = omega (arith, at_lt s i r e, len) in
          rw (here i r l e) at (good i l).exact

      next : (i : ℕ) (r q : Rec) → get_elem? s i ≡ some r → get_elem? s (suc i) ≡ some q → Before r.0 q.0
      next i r q e f =
          let l : suc i < n = omega (arith, at_lt s (suc i) q f, len) in
          let o : Before (key_at F b i) (key_at F b (suc i)) = rw (add-one i) at (order i (omega arith)) in
          rw (here i r (omega arith) e, here (suc i) q l f) at o

      unused : length (drop (slot_at F n) b) ≡ F.width * (C - n)
      unused =
          let e : F.width * C ≡ F.width * n + F.width * (C - n) = ap (λ (k : ℕ). F.width * k) (let q : C ≡ n + (C - n) = omega (arith, c.few) in q) ∙ omega arith in
          omega (arith, length-drop (slot_at F n) b, c.sized.size, e)

      rest : drop (slot_at F n) b ≡ zeros (F.width * (C - n))
      rest = blank-zeros (drop (slot_at F n) b) blank ∙ ap zeros unused

      bytes : b ≡ layout F C c.extra s
      bytes =
          sym (take-append-drop F.head b)
          ∙ ap (λ (l : List ℕ). l ++ y) c.front
          ∙ ap (λ (l : List ℕ). F.header c.extra n ++ l) (slots_are n y ok)
          ∙ ap (λ (l : List ℕ). F.header c.extra n ++ (slots F s ++ l)) (same n ∙ rest)
          ∙ ap (λ (m : ℕ). F.header c.extra m ++ (slots F s ++ zeros (F.width * (C - m)))) (sym len)

-- ---- and a book is what is checked
module _ (F : Form) (L : Lawful F) (b : List ℕ) (x : Book F b) where
  abbrev s : List Rec
  s = x.records

  front-is : take F.head b ≡ F.header x.extra (length s)
  unfolding layout
  front-is = ap (λ (l : List ℕ). take F.head l) x.bytes ∙ take_at (F.header x.extra (length s)) (slots F s ++ zeros (F.width * (x.slots - length s))) F.head (L.header-length x.extra (length s))

  pub book-frame : Frame F b (length s)
  book-frame =
      record {
        room = x.slots;
        extra = x.extra;
        sized = record { least = x.least; most = x.most; size = size_is F L b x };
        few = few-records F L b x;
        quotas = x.quotas;
        front = front-is;
      }

  pub book_good : SlotsGood F b (length s)
  book_good i h =
      let r : Rec = (at_some s i h).0 in
      let e : get_elem? s i ≡ some r = (at_some s i h).1 in
      let f : F.Fit r = fit_at F s i r x.fit e in
      let t = slot-there F L b x i r e in
      record {
        ok = record {
          bytes = ap (λ (l : List ℕ). take F.width l) t.1 ∙ take_at (F.slot r) t.0 F.width (L.slot-length r f) ∙ ap F.slot (sym (record_is F L b x i r e));
          fit = rw (record_is F L b x i r e) f;
        };
        exact = rw (key_is F L b x i r e) (exact-at F s i r x.exact e);
      }

  pub book-rising : Rising F b (length s)
  book-rising i h =
      let l : i < length s = omega arith in
      let k : suc i < length s = omega arith in
      let r = at_some s i l in
      let q = at_some s (suc i) k in
      rw (key_is F L b x i r.0 r.1, add-one i, key_is F L b x (suc i) q.0 q.1) (sorted-next s x.sorted i r.0 q.0 r.1 q.1)

  book-rest : every (λ v. eqb v 0) (drop (slot_at F (length s)) b) ≡ true
  unfolding layout
  book-rest =
      let n : ℕ = length s in
      let h : List ℕ = F.header x.extra n in
      let z : List ℕ = zeros (F.width * (x.slots - n)) in
      let e : drop (slot_at F n) b ≡ z =
      ap (λ (l : List ℕ). drop (slot_at F n) l) (x.bytes ∙ sym (append_assoc h (slots F s) z))
      ∙ drop_at (h ++ slots F s) z (slot_at F n) (length_before F L x.extra n s x.fit) in
      ap (every (λ v. eqb v 0)) e ∙ zeros-blank (F.width * (x.slots - n))

module _ (F : Form) (L : Lawful F) (b : List ℕ) (n : ℕ) (f : Frame F b n) where
  pub records_are : (x : Book F b) → length x.records ≡ n
  records_are x = (L.header_inj x.extra f.extra (length x.records) n (sym (front-is F L b x) ∙ f.front)).1

  pub no_good : (r : Bool) → Tells r (SlotsGood F b n) → r ≡ false → Book F b → ⊥
  no_good r t e x = t.fails e (rw (records_are x) at (book_good F L b x))

  pub no-rising : (r : Bool) → Tells r (Rising F b n) → r ≡ false → Book F b → ⊥
  no-rising r t e x = t.fails e (rw (records_are x) at (book-rising F L b x))

  pub no-rest : (r : Bool) → r ≡ every (λ v. eqb v 0) (drop (slot_at F n) b) → r ≡ false → Book F b → ⊥
  no-rest r t e x =
      let g : every (λ v. eqb v 0) (drop (slot_at F n) b) ≡ true = rw (records_are x) at (book-rest F L b x) in
      let z : ◌≡◌ {A = ℕ} 0 1 = cc in
      omega arith
