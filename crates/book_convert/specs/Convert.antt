-- The conversions: a book of version 1 into one of version 2, and a book of version 2 into one of version 3, whose records are all owner 1's.
-- Assumes nothing.
use Rattle.std.specs.Prelude.{◌≡◌, List, ◌∷◌, map, ℕ, ◌≤◌, length}
use Rattle.text.specs.Refusal.{bad_book, no_room, full}
use Rattle.book_records.specs.Act.{Rec}
use Rattle.book_form.specs.declared.Quotas.{Quotas}
use Rattle.book_form.specs.Form.{Form, QuotasFit, layout, slot_at}
use Rattle.book_form.specs.Version.{V1, V2, V3}
use Rattle.book.specs.Book.{Book, Counts}

-- 9 where the first buffer is no book of version 1, then 4 where the second has not the size of a book of version 2 with as many slots,
-- and nothing changed; or the layout of the same records, whatever the second held
pub data Converted (old new : List ℕ) (r : ℕ) (new₁ : List ℕ) : Type 0 where
  no_old : (Book V1 old → ⊥) → r ≡ bad_book → new₁ ≡ new → Converted old new r new₁
  other_size : (x : Book V1 old) → (length new ≡ slot_at V2 x.slots → ⊥) → r ≡ no_room → new₁ ≡ new → Converted old new r new₁
  converted : (x : Book V1 old) → length new ≡ slot_at V2 x.slots → r ≡ 0 → new₁ ≡ layout V2 x.slots tt x.records → Converted old new r new₁

-- a record of version 1 as version 2 has it: the same; and one of version 2 as version 3 has it: owner 1's
abbrev pub same : Rec → Rec
same r = r

abbrev pub firsts : Rec → Rec
firsts r = (1 ∷ r.0, r.1)

-- the slots are enough for both quotas, and owner 1's for the records
pub record Enough (q : Quotas) (C n : ℕ) : Type 0 where
  pub quotas : QuotasFit V3 C q
  pub records : n ≤ q.one

-- 9 where the first buffer is no book of version 2, then 4 where the second has not the size of a book of version 3 with as many slots,
-- then 11 where the quotas are not enough, and nothing changed; or the layout of the same records, all of them owner 1's
pub data ConvertedOwners (old new : List ℕ) (q : Quotas) (r : ℕ) (new₁ : List ℕ) : Type 0 where
  no_old : (Book V2 old → ⊥) → r ≡ bad_book → new₁ ≡ new → ConvertedOwners old new q r new₁
  other_size : (x : Book V2 old) → (length new ≡ slot_at V3 x.slots → ⊥) → r ≡ no_room → new₁ ≡ new → ConvertedOwners old new q r new₁
  too_many : (x : Book V2 old) → length new ≡ slot_at V3 x.slots → (Enough q x.slots (length x.records) → ⊥) → r ≡ full → new₁ ≡ new → ConvertedOwners old new q r new₁
  converted : (x : Book V2 old) → length new ≡ slot_at V3 x.slots → Enough q x.slots (length x.records) → r ≡ 0 → new₁ ≡ layout V3 x.slots q (map firsts x.records) → ConvertedOwners old new q r new₁

-- a book of one form with n records, and a buffer of the size that its conversion into another has
pub record Ready (F G : Form) (old : List ℕ) (n : ℕ) (new : List ℕ) : Type 0 where
  pub counts : Counts F old n
  pub size : length new ≡ slot_at G counts.0.slots

-- the book of form G that holds the records of the book `old` of form F, each as g has it
abbrev pub CopiedAs : (F G : Form) → G.Extra → (Rec → Rec) → List ℕ → List ℕ → Type 0
CopiedAs F G e g old new = (x : Book F old) → new ≡ layout G x.slots e (map g x.records)
