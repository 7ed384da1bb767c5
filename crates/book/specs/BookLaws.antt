-- Laws of books: the bytes tell the records, and what stands where.
-- Assumes nothing.
use Rattle.std.specs.Prelude.{◌≡◌, refl, List, [], ◌∷◌, ◌++◌, ℕ, zero, suc, ◌*◌, ◌-◌, ◌≤◌, length, take, drop, Option, Some, None}
use Rattle.std.proofs.Common.{sym, ap, ◌∙◌, arith, take-append-drop, drop_at, length-take-le}
use Rattle.std.proofs.Math.Option.{some}
use Rattle.std.proofs.Math.ListN.{get_elem?}
use Rattle.text.specs.PlaceLaws.{at_lt, drop-place}
use Rattle.book_records.specs.Act.{Rec}
use Rattle.book_form.specs.Form.{Form, AllFit, slots, layout, zeros, slot_at, key_at}
use Rattle.book_form.specs.FormLaws.{Lawful, few, layout_parted, length_before, length-layout, layout_inj, fit-take, slot_up, place-back}
use Rattle.book_form.specs.declared.Version.TheVariants.{Three}
use Rattle.book_form.specs.VersionLaws.{version_lawful}
use Rattle.book.specs.Book.{Current, Book, Counts, Judged}

-- the form that the calls take is lawful
pub lawful : Lawful Current
lawful = version_lawful Three

pub parted : (s : List Rec) (j : ℕ) (r : Rec) → get_elem? s j ≡ some r → s ≡ take j s ++ r ∷ drop (suc j) s
parted s j r e = sym (take-append-drop j s) ∙ ap (λ (l : List Rec). take j s ++ l) (drop-place s j r e)

module _ (F : Form) where
  pub fit_at : (s : List Rec) (i : ℕ) (r : Rec) → AllFit F s → get_elem? s i ≡ some r → F.Fit r
  fit_at [] i r h e = absurd (let z : ◌≡◌ {A = ℕ} 0 1 = cc in let y : ⊥ = omega arith in y)
  fit_at (q ∷ s) zero r h e = let p : q ≡ r = cc in rw p at h.0
  fit_at (q ∷ s) (suc i) r h e = fit_at s i r h.1 e

module _ (F : Form) (L : Lawful F) where
  -- there are no more records than slots
  pub few-records : (b : List ℕ) (x : Book F b) → length x.records ≤ x.slots
  few-records b x = few F L x.slots x.extra x.records x.exact x.quotas x.within

  pub size_is : (b : List ℕ) (x : Book F b) → length b ≡ slot_at F x.slots
  size_is b x = ap length x.bytes ∙ length-layout F L x.slots x.extra x.records x.fit (few-records b x)

  -- the bytes tell the number of slots, what the header says, and the records
  pub one-book : (b : List ℕ) (x y : Book F b) → (x.slots ≡ y.slots) × (x.extra ≡ y.extra) × (x.records ≡ y.records)
  one-book b x y = (same, told.0, told.1)
    where
      same : x.slots ≡ y.slots
      same =
          let e : slot_at F x.slots ≡ slot_at F y.slots = sym (size_is b x) ∙ size_is b y in
          omega (arith, place-back F L x.slots y.slots (omega arith), place-back F L y.slots x.slots (omega arith))

      told : (x.extra ≡ y.extra) × (x.records ≡ y.records)
      told = layout_inj F L x.slots x.extra y.extra x.records y.records x.fit y.fit (sym x.bytes ∙ y.bytes ∙ rw same)

  -- a check has one answer
  pub one_judged : (b : List ℕ) (r q : Option ℕ) → Judged F b r → Judged F b q → r ≡ q
  one_judged b (Some m) (Some n) x y = ap Some (sym x.1 ∙ ap length (one-book b x.0 y.0).2 ∙ y.1)
  one_judged b (Some m) None x y = absurd (y x.0)
  one_judged b None (Some n) x y = absurd (x y.0)
  one_judged b None None x y = refl

  -- the numbers of a book with n records
  pub record Sizes (b : List ℕ) (n : ℕ) (x : Book F b) : Type 0 where
    pub bytes : length b ≡ slot_at F x.slots
    pub few : n ≤ x.slots
    pub most : n ≤ 200
    pub used : slot_at F n ≤ length b

  pub sizes : (b : List ℕ) (n : ℕ) (h : Counts F b n) → Sizes b n h.0
  sizes b n h =
      let x = h.0 in
      let f : n ≤ x.slots = omega (arith, few-records b x, h.1) in
      record { bytes = size_is b x; few = f; most = omega (arith, x.most); used = omega (arith, size_is b x, slot_up F L n x.slots f) }

  -- a slot of a book, and the record in it
  pub slot-there : (b : List ℕ) (x : Book F b) (i : ℕ) (r : Rec) → get_elem? x.records i ≡ some r → (tail : List ℕ) × (drop (slot_at F i) b ≡ F.slot r ++ tail)
  slot-there b x i r e =
      let s = x.records in
      let a : List Rec = take i s in
      let d : List Rec = drop (suc i) s in
      let la : length a ≡ i = length-take-le i s (omega (arith, at_lt s i r e)) in
      let n : ℕ = length (a ++ r ∷ d) in
      let tail : List ℕ = slots F d ++ zeros (F.width * (x.slots - n)) in
      let pre : List ℕ = F.header x.extra n ++ slots F a in
      let lp : length pre ≡ slot_at F i = length_before F L x.extra n a (fit-take F L i s x.fit) ∙ ap (slot_at F) la in
      (tail, ap (λ (l : List ℕ). drop (slot_at F i) l) (x.bytes ∙ ap (layout F x.slots x.extra) (parted s i r e) ∙ layout_parted F L x.slots x.extra a r d) ∙ drop_at pre (F.slot r ++ tail) (slot_at F i) lp)

  pub record_is : (b : List ℕ) (x : Book F b) (i : ℕ) (r : Rec) → get_elem? x.records i ≡ some r → F.record_of (drop (slot_at F i) b) ≡ r
  record_is b x i r e =
      let t = slot-there b x i r e in
      ap F.record_of t.1 ∙ L.record_of-slot r t.0 (fit_at F x.records i r x.fit e)

  pub key_is : (b : List ℕ) (x : Book F b) (i : ℕ) (r : Rec) → get_elem? x.records i ≡ some r → key_at F b i ≡ r.0
  key_is b x i r e = ap (λ (q : Rec). q.0) (record_is b x i r e)
