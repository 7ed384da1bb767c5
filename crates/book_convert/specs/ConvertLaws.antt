-- The ways out of the conversions, one law each, that each has one outcome, and that it is a book.
-- Assumes nothing.
use Rattle.std.specs.Prelude.{◌≡◌, refl, List, [], ◌∷◌, ◌++◌, map, ℕ, zero, suc, ◌+◌, ◌<◌, ◌≤◌, length, take, drop, Option, Some, None}
use Rattle.std.proofs.Common.{sym, ap, ◌∙◌, arith, drop-drop}
use Rattle.std.proofs.Math.Option.{some}
use Rattle.std.proofs.Math.ListN.{get_elem?}
use Rattle.std.proofs.lemmas.List.{length-map}
use Rattle.text.specs.PlaceLaws.{at_some}
use Rattle.text.specs.Put.{put}
use Rattle.book_records.specs.Act.{Rec}
use Rattle.book_form.specs.declared.Version.TheVariants.{One, Two}
use Rattle.book_form.specs.Form.{Form, AllFit, zeros, layout, slot_at}
use Rattle.book_form.specs.FormLaws.{Lawful, slot_up}
use Rattle.book_form.specs.Counted.{counted, stored}
use Rattle.book_form.specs.Version.{slot, V1, V2}
use Rattle.book_form.specs.VersionLaws.{version_lawful}
use Rattle.book.specs.Book.{Book, Counts, Judged}
use Rattle.book.specs.BookLaws.{one-book, fit_at, record_is, sizes}
use Rattle.book.specs.Check.{Slotted}
use Rattle.book.specs.SizeLaws.{book-slots}
use Rattle.book_convert.specs.Convert.{same, Ready, CopiedAs, Converted}
use Rattle.book_convert.specs.Convert as convert
use Rattle.book_convert.specs.CopyLaws.{written, written_none, written-more, written_all}

-- ---- copying the records of a book of one form into one of another, each as g has it
at_map : (g : Rec → Rec) (s : List Rec) (i : ℕ) (r : Rec) → get_elem? s i ≡ some r → get_elem? (map g s) i ≡ some (g r)
at_map g [] i r e = absurd (let z : ◌≡◌ {A = ℕ} 0 1 = cc in let y : ⊥ = omega arith in y)
at_map g (q ∷ s) zero r e = let p : q ≡ r = cc in rw p
at_map g (q ∷ s) (suc i) r e = at_map g s i r e

-- the first i records are copied
abbrev pub Copying : (F G : Form) → G.Extra → (Rec → Rec) → List ℕ → ℕ → List ℕ → Type 0
Copying F G e g old i b = (x : Book F old) → b ≡ written G x.slots e (map g x.records) i

-- every record fits in its slot of the other form
abbrev pub Refits : Form → Form → (Rec → Rec) → Type 0
Refits F G g = (r : Rec) → F.Fit r → G.Fit (g r)

pub all_fit : (F G : Form) (g : Rec → Rec) → Refits F G g → (s : List Rec) → AllFit F s → AllFit G (map g s)
all_fit F G g f [] h = tt
all_fit F G g f (r ∷ s) h = (f r h.0, all_fit F G g f s h.1)

module _ (F : Form) (L : Lawful F) (G : Form) (M : Lawful G) (old new : List ℕ) (n : ℕ) (h : Ready F G old n new) where
  same-slots : (x : Book F old) → x.slots ≡ h.counts.0.slots
  same-slots x = (one-book F L old x h.counts.0).0

  same_count : (x : Book F old) → length x.records ≡ n
  same_count x = ap length (one-book F L old x h.counts.0).2 ∙ h.counts.1

  -- there is room for the header
  pub start-room : (n ≤ 200) × (G.head ≤ length new)
  start-room = omega (arith, (sizes F L old n h.counts).most, h.size)

  -- record i is there to be read, and there is room for it
  pub record Copies (i : ℕ) : Type 0 where
    pub few : i < 200
    pub from : slot_at F i + F.width ≤ length old
    pub to : slot_at G i + G.width ≤ length new
    pub fit : F.Fit (F.record_of (drop (slot_at F i) old))

  pub copies : (i : ℕ) → i < n → Copies i
  copies i l =
      let x = h.counts.0 in
      let z = sizes F L old n h.counts in
      let r = at_some x.records i (omega (arith, h.counts.1)) in
      record {
        few = omega (arith, z.most);
        from = omega (arith, z.used, slot_up F L (suc i) n l);
        to = omega (arith, h.size, slot_up G M (suc i) x.slots (omega (arith, z.few)));
        fit = rw (record_is F L old x i r.0 r.1) (fit_at F x.records i r.0 x.fit r.1);
      }

  module _ (e : G.Extra) (g : Rec → Rec) where
    -- no record is copied yet
    pub copy_start : (b₁ b₂ : List ℕ) → b₁ ≡ put new 0 (zeros (length new)) → b₂ ≡ put b₁ 0 (G.header e n) → Copying F G e g old 0 b₂
    copy_start b₁ b₂ f k x =
        let s = map g x.records in
        let l : n ≡ length s = sym (length-map x.records g ∙ same_count x) in
        written_none G M x.slots e s new b₁ b₂ (h.size ∙ ap (slot_at G) (sym (same-slots x))) f (k ∙ ap (λ (m : ℕ). put b₁ 0 (G.header e m)) l)

    -- record i is put behind those before it
    pub copy-next : Refits F G g → (i : ℕ) → i < n → (r : Rec) → r ≡ F.record_of (drop (slot_at F i) old)
        → (b b₁ : List ℕ) → Copying F G e g old i b → b₁ ≡ put b (slot_at G i) (G.slot (g r)) → (j : ℕ) → j ≡ suc i → Copying F G e g old j b₁
    copy-next fits i l r er b b₁ c w j ej x =
        let s = x.records in
        let q = at_some s i (omega (arith, same_count x)) in
        let there : r ≡ q.0 = er ∙ record_is F L old x i q.0 q.1 in
        let m : i < x.slots = omega (arith, (sizes F L old n h.counts).few, same-slots x) in
        w
        ∙ ap (λ (y : List ℕ). put y (slot_at G i) (G.slot (g r))) (c x)
        ∙ ap (λ (y : Rec). put (written G x.slots e (map g s) i) (slot_at G i) (G.slot (g y))) there
        ∙ written-more G M x.slots e (map g s) (all_fit F G g fits s x.fit) i (g q.0) (at_map g s i q.0 q.1) m
        ∙ ap (written G x.slots e (map g s)) (sym ej)

    -- all records are copied
    pub copy_done : (i : ℕ) → i ≡ n → (b : List ℕ) → Copying F G e g old i b → CopiedAs F G e g old b
    copy_done i ei b c x = c x ∙ written_all G M x.slots e (map g x.records) i (ei ∙ sym (length-map x.records g ∙ same_count x))

-- ---- before that
pub no-older : (F : Form) (old : List ℕ) (a : Option ℕ) → Judged F old a → a ≡ None → Book F old → ⊥
no-older F old a j e = rw e at j

pub older : (F : Form) (old : List ℕ) (a : Option ℕ) (n : ℕ) → Judged F old a → a ≡ Some n → Counts F old n
older F old a n j e = rw e at j

-- the book's slots, as they are counted
module _ (F : Form) (L : Lawful F) (old : List ℕ) (n : ℕ) (h : Counts F old n) (C : ℕ) (s : Slotted F old C) where
  pub slots_are : C ≡ h.0.slots
  slots_are = book-slots F L old C s h.0

  module _ (G : Form) (new : List ℕ) (at : ℕ) (ea : at ≡ slot_at G C) where
    pub size-other : (length new ≡ at → ⊥) → length new ≡ slot_at G h.0.slots → ⊥
    size-other z q = z (q ∙ ap (slot_at G) (sym slots_are) ∙ sym ea)

    pub size_ready : length new ≡ at → Ready F G old n new
    size_ready q = record { counts = h; size = q ∙ ea ∙ ap (slot_at G) slots_are }

-- ---- version 1 into version 2
pub plain_fits : Refits V1 V2 same
plain_fits r h = (h.0, h.1, record { least = omega (arith, h.2); most = omega (arith, h.2) })

map_same : (s : List Rec) → map same s ≡ s
map_same [] = refl
map_same (r ∷ s) = ap (λ (l : List Rec). r ∷ l) (map_same s)

pub plain-next : (old new : List ℕ) (n : ℕ) → Ready V1 V2 old n new → (i : ℕ) → i < n
    → (at : ℕ) → at ≡ slot_at V1 i → (key value : List ℕ) → key ≡ stored old at → value ≡ take 32 (drop (at + 256) old)
    → (to : ℕ) → to ≡ slot_at V2 i → (b b₁ : List ℕ) → Copying V1 V2 tt same old i b → b₁ ≡ put b to (counted 255 key ++ counted 64 value) → Copying V1 V2 tt same old (i + 1) b₁
unfolding slot
plain-next old new n h i l at ea key value ek ev to et b b₁ c w =
    let k : key ≡ stored old (slot_at V1 i) = ek ∙ ap (stored old) ea in
    let v : value ≡ take 32 (drop 256 (drop (slot_at V1 i) old)) = ev ∙ ap (λ (m : ℕ). take 32 (drop (m + 256) old)) ea ∙ ap (λ (y : List ℕ). take 32 y) (sym (drop-drop 256 (slot_at V1 i) old)) in
    copy-next V1 (version_lawful One) V2 (version_lawful Two) old new n h tt same plain_fits i l (key, value) (λ j. (k j, v j)) b b₁ c (w ∙ ap (λ (m : ℕ). put b m (counted 255 key ++ counted 64 value)) et) (i + 1) (omega arith)

pub convert-none : (old new : List ℕ) → (Book V1 old → ⊥) → Converted old new 9 new
convert-none old new n = convert.Converted.no_old n refl refl

pub convert-other : (old new : List ℕ) (n : ℕ) → Counts V1 old n → (C : ℕ) → Slotted V1 old C → (at : ℕ) → at ≡ slot_at V2 C → (length new ≡ at → ⊥) → Converted old new 4 new
convert-other old new n h C s at ea z = convert.Converted.other_size h.0 (size-other V1 (version_lawful One) old n h C s V2 new at ea z) refl refl

pub convert-done : (old new : List ℕ) (n : ℕ) → Ready V1 V2 old n new → (new₁ : List ℕ) → CopiedAs V1 V2 tt same old new₁ → Converted old new 0 new₁
convert-done old new n h new₁ c = let x = h.counts.0 in convert.Converted.converted x h.size refl (c x ∙ ap (layout V2 x.slots tt) (map_same x.records))

-- what is made is a book of version 2 with the same slots and records
all_refit : (s : List Rec) → AllFit V1 s → AllFit V2 s
all_refit s h = rw (map_same s) at (all_fit V1 V2 same plain_fits s h)

pub converted-book : {old new new₁ : List ℕ} {r : ℕ} → Converted old new r new₁ → r ≡ 0 → (x : Book V1 old) → (y : Book V2 new₁) × (y.slots ≡ x.slots) × (y.records ≡ x.records)
converted-book (convert.Converted.no_old n e f) z x = absurd (n x)
converted-book (convert.Converted.other_size y n e f) z x = absurd (let q : ⊥ = omega (arith, e) in q)
converted-book {old} (convert.Converted.converted y n e f) z x =
    let o = one-book V1 (version_lawful One) old y x in
    (record { slots = y.slots; extra = tt; records = y.records; least = y.least; most = y.most; fit = all_refit y.records y.fit; exact = y.exact; sorted = y.sorted; quotas = y.quotas; within = y.within; bytes = f }, o.0, o.2)

pub one-converted : {old new : List ℕ} {r q : ℕ} {b₁ b₂ : List ℕ} → Converted old new r b₁ → Converted old new q b₂ → (r ≡ q) × (b₁ ≡ b₂)
one-converted (convert.Converted.no_old n e f) (convert.Converted.no_old m g k) = (e ∙ sym g, f ∙ sym k)
one-converted (convert.Converted.no_old n e f) (convert.Converted.other_size y m g k) = absurd (n y)
one-converted (convert.Converted.no_old n e f) (convert.Converted.converted y m g k) = absurd (n y)
one-converted (convert.Converted.other_size x n e f) (convert.Converted.no_old m g k) = absurd (m x)
one-converted (convert.Converted.other_size x n e f) (convert.Converted.other_size y m g k) = (e ∙ sym g, f ∙ sym k)
one-converted {old} (convert.Converted.other_size x n e f) (convert.Converted.converted y m g k) = absurd (n (m ∙ ap (slot_at V2) (one-book V1 (version_lawful One) old y x).0))
one-converted (convert.Converted.converted x n e f) (convert.Converted.no_old m g k) = absurd (m x)
one-converted {old} (convert.Converted.converted x n e f) (convert.Converted.other_size y m g k) = absurd (m (n ∙ ap (slot_at V2) (one-book V1 (version_lawful One) old x y).0))
one-converted {old} (convert.Converted.converted x n e f) (convert.Converted.converted y m g k) =
    let o = one-book V1 (version_lawful One) old x y in
    (e ∙ sym g, f ∙ ap (λ (C : ℕ). layout V2 C tt x.records) o.0 ∙ ap (layout V2 y.slots tt) o.2 ∙ sym k)
