-- What it is to be a book of a form: the bytes of a layout with 1 to 200 slots, whose records are in strictly rising order of key, each
-- record fit for a slot and each key exact; with quotas that have their slots, and no owner above its own.
-- Assumes nothing.
use Rattle.std.specs.Prelude.{◌≡◌, Bool, List, ℕ, ◌≤◌, eqb, length, Option, Some, None}
use Rattle.book_records.specs.Records.{Key, Sorted}
use Rattle.book_records.specs.Act.{Rec, Meaning, Answer, act, count_by, full_by}
use Rattle.book_records.specs.Calls.{owner_of}
use Rattle.book_form.specs.Form.{Form, AllFit, AllExact, QuotasFit, Within, layout, slot_at}
use Rattle.book_form.specs.Version.{V3}

-- the form that the calls take and make
abbrev pub Current : Form
Current = V3

-- a buffer of as many bytes as a book with C slots has
pub record Sized (F : Form) (b : List ℕ) (C : ℕ) : Type 0 where
  pub least : 1 ≤ C
  pub most : C ≤ 200
  pub size : length b ≡ slot_at F C

pub record Book (F : Form) (b : List ℕ) : Type 0 where
  pub slots : ℕ
  pub extra : F.Extra
  pub records : List Rec
  pub least : 1 ≤ slots
  pub most : slots ≤ 200
  pub fit : AllFit F records
  pub exact : AllExact F records
  pub sorted : Sorted records
  pub quotas : QuotasFit F slots extra
  pub within : Within F slots extra records
  pub bytes : b ≡ layout F slots extra records

-- the bytes of this book with other records in it
abbrev pub bytes_with : {F : Form} {b : List ℕ} → Book F b → List Rec → List ℕ
bytes_with {F} x s = layout F x.slots x.extra s

-- an owner's quota in this book, and whether the records s have no room for a new key k: its owner has as many as its quota says
abbrev pub quota_in : {F : Form} {b : List ℕ} → Book F b → ℕ → ℕ
quota_in {F} x = F.quota x.extra x.slots

abbrev pub full_in : {F : Form} {b : List ℕ} → Book F b → Key → List Rec → Bool
full_in {F} x = full_by F.owner (quota_in x)

-- what a call that means this answers on this book, and the records that it leaves
abbrev pub acts : {F : Form} {b : List ℕ} → Book F b → Meaning → Answer × List Rec
acts x m = act (full_in x) m x.records

-- a book with n records
abbrev pub Counts : Form → List ℕ → ℕ → Type 0
Counts F b n = (x : Book F b) × (length x.records ≡ n)

-- the answer of a check: the number of records, or that it is no book
abbrev pub Judged : Form → List ℕ → Option ℕ → Type 0
Judged F b (Some n) = Counts F b n
Judged F b None = Book F b → ⊥

-- the answer of a test: whether an owner's records in the book b have reached its quota
abbrev pub FullIs : List ℕ → ℕ → Bool → Type 0
FullIs b o r = (x : Book Current b) → r ≡ eqb (count_by owner_of o x.records) (quota_in x o)
