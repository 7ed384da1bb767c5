-- The ways out of the conversion into version 3, one law each, that it has one outcome, and that it is a book.
-- Assumes nothing.
use Rattle.std.specs.Prelude.{◌≡◌, refl, Bool, true, false, cond, List, [], ◌∷◌, map, ℕ, ◌+◌, ◌<◌, ◌≤◌, eqb, length, drop, get_or}
use Rattle.std.proofs.Common.{sym, ap, ◌∙◌, arith, drop-drop, eqb-true, ne_eqb}
use Rattle.std.proofs.lemmas.Bool.{eqb-false}
use Rattle.text.specs.OrderLaws.{cmp-cons-eq}
use Rattle.text.specs.Put.{put}
use Rattle.book_records.specs.Records.{Key, After, Sorted}
use Rattle.book_records.specs.Act.{Rec, count_by}
use Rattle.book_records.specs.Calls.{owner_of}
use Rattle.book_form.specs.declared.Quotas.{Quotas}
use Rattle.book_form.specs.declared.Version.TheVariants.{Two, Three}
use Rattle.book_form.specs.Form.{AllExact, QuotasFit, Within, layout, slot_at}
use Rattle.book_form.specs.Tells.{Tells}
use Rattle.book_form.specs.Counted.{counted_in, stored}
use Rattle.book_form.specs.Version.{V2, V3}
use Rattle.book_form.specs.VersionLaws.{version_lawful, value-length}
use Rattle.book.specs.Book.{Book, Counts}
use Rattle.book.specs.BookLaws.{one-book}
use Rattle.book.specs.Check.{Slotted}
use Rattle.book.specs.CheckLaws.{book_good}
use Rattle.book_convert.specs.Convert.{firsts, Enough, Ready, CopiedAs, ConvertedOwners, no_old, other_size, too_many, converted}
use Rattle.book_convert.specs.ConvertLaws.{Refits, all_fit, Copying, copies, copy-next, slots_are, size-other}

-- ---- the ways out
pub owned-fits : Refits V2 V3 firsts
owned-fits r h = (omega arith, omega (arith, h.1), h.2)

module _ (old new : List ℕ) (n : ℕ) (h : Ready V2 V3 old n new) (i : ℕ) (l : i < n) where
  -- the value of record i is there
  pub owned_value : get_or old (slot_at V2 i + 256) 0 ≤ 64
  owned_value =
      let x = h.counts.0 in
      let ok = (book_good V2 (version_lawful Two) old x i (omega (arith, h.counts.1))).ok in
      let e : slot_at V2 i + 0 + 256 ≡ slot_at V2 i + 256 = omega arith in
      rw e at (value-length Two old (slot_at V2 i) 0 refl (copies V2 (version_lawful Two) V3 (version_lawful Three) old new n h i l).from refl ok).0

  pub owned-next : (at : ℕ) → at ≡ slot_at V2 i → (key value : List ℕ) → key ≡ stored old at → value ≡ stored old (at + 256)
      → (to : ℕ) → to ≡ slot_at V3 i → (e : Quotas) (b b₁ : List ℕ) → Copying V2 V3 e firsts old i b → b₁ ≡ put b to (V3.slot (1 ∷ key, value)) → Copying V2 V3 e firsts old (i + 1) b₁
  owned-next at ea key value ek ev to et e b b₁ c w =
      let k : key ≡ stored old (slot_at V2 i) = ek ∙ ap (stored old) ea in
      let v : value ≡ counted_in (drop 256 (drop (slot_at V2 i) old)) = ev ∙ ap (λ (m : ℕ). stored old (m + 256)) ea ∙ ap counted_in (sym (drop-drop 256 (slot_at V2 i) old)) in
      copy-next V2 (version_lawful Two) V3 (version_lawful Three) old new n h e firsts owned-fits i l (key, value) (λ j. (k j, v j)) b b₁ c (w ∙ ap (λ (m : ℕ). put b m (V3.slot (1 ∷ key, value))) et) (i + 1) (omega arith)

-- its key and its value fit in their fields
pub owned-short : (old new : List ℕ) (n : ℕ) → Ready V2 V3 old n new → (i : ℕ) → i < n → (at : ℕ) → at ≡ slot_at V2 i
    → (key value : List ℕ) → key ≡ stored old at → value ≡ stored old (at + 256) → (length key ≤ 255) × (length value ≤ 64)
owned-short old new n h i l at ea key value ek ev =
    let f = (copies V2 (version_lawful Two) V3 (version_lawful Three) old new n h i l).fit in
    let k : key ≡ stored old (slot_at V2 i) = ek ∙ ap (stored old) ea in
    let v : value ≡ counted_in (drop 256 (drop (slot_at V2 i) old)) = ev ∙ ap (λ (m : ℕ). stored old (m + 256)) ea ∙ ap counted_in (sym (drop-drop 256 (slot_at V2 i) old)) in
    (rw k f.1, rw v f.2.most)

pub owners-none : (old new : List ℕ) (q : Quotas) → (Book V2 old → ⊥) → ConvertedOwners old new q 9 new
owners-none old new q n = no_old n refl refl

pub owners-other : (old new : List ℕ) (q : Quotas) (n : ℕ) → Counts V2 old n → (C : ℕ) → Slotted V2 old C → (at : ℕ) → at ≡ slot_at V3 C → (length new ≡ at → ⊥) → ConvertedOwners old new q 4 new
owners-other old new q n h C s at ea z = other_size h.0 (size-other V2 (version_lawful Two) old n h C s V3 new at ea z) refl refl

module _ (old new : List ℕ) (q : Quotas) (n : ℕ) (h : Ready V2 V3 old n new) (C : ℕ) (s : Slotted V2 old C) (t : Bool) (fits : Tells t (QuotasFit V3 C q)) where
  abbrev x : Book V2 old
  x = h.counts.0

  ec : C ≡ x.slots
  ec = slots_are V2 (version_lawful Two) old n h.counts C s

  pub owners-sum : t ≡ false → ConvertedOwners old new q 11 new
  owners-sum e = too_many x h.size (λ z. fits.fails e (rw ec z.quotas)) refl refl

  pub owners_many : q.one < n → ConvertedOwners old new q 11 new
  owners_many l = too_many x h.size (λ z. omega (arith, z.records, h.counts.1)) refl refl

  pub owners-done : t ≡ true → n ≤ q.one → (new₁ : List ℕ) → CopiedAs V2 V3 q firsts old new₁ → ConvertedOwners old new q 0 new₁
  owners-done e l new₁ c = converted x h.size (record { quotas = rw ec at (fits.holds e); records = omega (arith, h.counts.1) }) refl (c x)

-- ---- what is made is a book of version 3 with the same slots, whose records are owner 1's
firsts-exact : (s : List Rec) → AllExact V2 s → AllExact V3 (map firsts s)
firsts-exact [] h = tt
firsts-exact (r ∷ s) h = ((refl, h.0), firsts-exact s h.1)

firsts_after : (k : Key) (s : List Rec) → After k s → After (1 ∷ k) (map firsts s)
firsts_after k [] h = tt
firsts_after k (r ∷ s) h = (cmp-cons-eq 1 1 k r.0 refl ∙ h.0, firsts_after k s h.1)

firsts-sorted : (s : List Rec) → Sorted s → Sorted (map firsts s)
firsts-sorted [] h = tt
firsts-sorted (r ∷ s) h = (firsts_after r.0 s h.0, firsts-sorted s h.1)

count-one : (s : List Rec) → count_by owner_of 1 (map firsts s) ≡ length s
unfolding count_by
count-one [] = refl
count-one (r ∷ s) = omega (arith, count-one s)

count-other : (o : ℕ) → (1 ≡ o → ⊥) → (s : List Rec) → count_by owner_of o (map firsts s) ≡ 0
unfolding count_by
count-other o n [] = refl
count-other o n (r ∷ s) = rw (ne_eqb 1 o n) (omega (arith, count-other o n s))

firsts-within : (C : ℕ) (q : Quotas) (s : List Rec) → length s ≤ q.one → Within V3 C q (map firsts s)
firsts-within C q s l o = go (eqb o 1) refl
  where
    go : (t : Bool) → eqb o 1 ≡ t → count_by owner_of o (map firsts s) ≤ cond t q.one (cond (eqb o 2) q.two 0)
    go true e = rw (eqb-true o 1 e) (omega (arith, count-one s))
    go false e = omega (arith, count-other o (λ z. eqb-false o 1 e (sym z)) s)

pub owners-book : {old new new₁ : List ℕ} {q : Quotas} {r : ℕ} → ConvertedOwners old new q r new₁ → r ≡ 0 → (x : Book V2 old) → (y : Book V3 new₁) × (y.slots ≡ x.slots) × (y.extra ≡ q) × (y.records ≡ map firsts x.records)
owners-book (no_old n e f) z x = absurd (n x)
owners-book (other_size y n e f) z x = absurd (let w : ⊥ = omega (arith, e) in w)
owners-book (too_many y n m e f) z x = absurd (let w : ⊥ = omega (arith, e) in w)
owners-book {old} {q = q} (converted y n m e f) z x =
    let o = one-book V2 (version_lawful Two) old y x in
    let s = y.records in (
      record {
        slots = y.slots;
        extra = q;
        records = map firsts s;
        least = y.least;
        most = y.most;
        fit = all_fit V2 V3 firsts owned-fits s y.fit;
        exact = firsts-exact s y.exact;
        sorted = firsts-sorted s y.sorted;
        quotas = m.quotas;
        within = firsts-within y.slots q s m.records;
        bytes = f;
      },
      o.0,
      refl,
      ap (map firsts) o.2,
    )

-- ---- one outcome
same_size : (old new : List ℕ) (x y : Book V2 old) → length new ≡ slot_at V3 x.slots → length new ≡ slot_at V3 y.slots
same_size old new x y e = e ∙ ap (slot_at V3) (one-book V2 (version_lawful Two) old x y).0

same_enough : (old : List ℕ) (q : Quotas) (x y : Book V2 old) → Enough q x.slots (length x.records) → Enough q y.slots (length y.records)
same_enough old q x y e =
    let o = one-book V2 (version_lawful Two) old x y in
    record { quotas = rw o.0 at e.quotas; records = rw o.2 at e.records }

pub one-owners : {old new : List ℕ} {q : Quotas} {r p : ℕ} {b₁ b₂ : List ℕ} → ConvertedOwners old new q r b₁ → ConvertedOwners old new q p b₂ → (r ≡ p) × (b₁ ≡ b₂)
one-owners (no_old n e f) (no_old m g k) = (e ∙ sym g, f ∙ sym k)
one-owners (no_old n e f) (other_size y m g k) = absurd (n y)
one-owners (no_old n e f) (too_many y m w g k) = absurd (n y)
one-owners (no_old n e f) (converted y m w g k) = absurd (n y)
one-owners (other_size x n e f) (no_old m g k) = absurd (m x)
one-owners (other_size x n e f) (other_size y m g k) = (e ∙ sym g, f ∙ sym k)
one-owners {old} {new} (other_size x n e f) (too_many y m w g k) = absurd (n (same_size old new y x m))
one-owners {old} {new} (other_size x n e f) (converted y m w g k) = absurd (n (same_size old new y x m))
one-owners (too_many x n v e f) (no_old m g k) = absurd (m x)
one-owners {old} {new} (too_many x n v e f) (other_size y m g k) = absurd (m (same_size old new x y n))
one-owners (too_many x n v e f) (too_many y m w g k) = (e ∙ sym g, f ∙ sym k)
one-owners {old} {q = q} (too_many x n v e f) (converted y m w g k) = absurd (v (same_enough old q y x w))
one-owners (converted x n v e f) (no_old m g k) = absurd (m x)
one-owners {old} {new} (converted x n v e f) (other_size y m g k) = absurd (m (same_size old new x y n))
one-owners {old} {q = q} (converted x n v e f) (too_many y m w g k) = absurd (w (same_enough old q x y v))
one-owners {old} {q = q} (converted x n v e f) (converted y m w g k) =
    let o = one-book V2 (version_lawful Two) old x y in
    (e ∙ sym g, f ∙ ap (λ (C : ℕ). layout V3 C q (map firsts x.records)) o.0 ∙ ap (λ (s : List Rec). layout V3 y.slots q (map firsts s)) o.2 ∙ sym k)
