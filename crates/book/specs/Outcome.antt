-- The outcomes of calls. Two cases: the buffer is no book, 9 and nothing changed; or it is this book, the answer of `act` and the
-- layout of the records that `act` leaves.
-- Assumes nothing.
use Rattle.std.specs.Prelude.{◌≡◌, List, [], ℕ, length}
use Rattle.text.specs.Refusal.{bad_book, full}
use Rattle.text.specs.declared.Written.{Written}
use Rattle.text.specs.Put.{put}
use Rattle.text.specs.Put as buffer
use Rattle.book_records.specs.Act.{Meaning, Answer, says, done, gives, number}
use Rattle.book_records.specs.declared.Manner.{Manner}
use Rattle.book_records.specs.Calls.{write, remove, look, meaning}
use Rattle.book_form.specs.Form.{Form, QuotasFit, layout}
use Rattle.book_form.specs.declared.Quotas.{Quotas}
use Rattle.book.specs.Book.{Sized, Book, bytes_with, acts}

-- a call that means m, on the buffer b: its answer, and the bytes after
pub data Outcome (F : Form) (m : Meaning) (b : List ℕ) (a : Answer) (b₁ : List ℕ) : Type 0 where
  no_book : (Book F b → ⊥) → a ≡ says bad_book → b₁ ≡ b → Outcome F m b a b₁
  this_book : (x : Book F b) → a ≡ (acts x m).0 → b₁ ≡ bytes_with x (acts x m).1 → Outcome F m b a b₁

-- a write or a removal: the refusal number r, and the bytes after
pub record Changed (F : Form) (b : List ℕ) (m : Meaning) (r : ℕ) (b₁ : List ℕ) : Type 0 where
  pub answer : Answer
  pub outcome : Outcome F m b answer b₁
  pub number : r ≡ number answer

-- a lookup: the book is only lent to be read; a value stands from byte 0 of `out` on, and its length is answered; else `out` is unchanged
abbrev pub written_by : Answer → Written
written_by (says n) = buffer.refusal n
written_by done = buffer.done 0
written_by (gives v) = buffer.done (length v)

abbrev pub shown : Answer → List ℕ → List ℕ
shown (says n) out = out
shown done out = out
shown (gives v) out = put out 0 v

pub record Found (F : Form) (b : List ℕ) (m : Meaning) (out : List ℕ) (r : Written) (out₁ : List ℕ) : Type 0 where
  pub answer : Answer
  pub outcome : Outcome F m b answer b
  pub written : r ≡ written_by answer
  pub value : out₁ ≡ shown answer out

-- ---- what the contracts of the functions say
abbrev pub Recorded : Form → Manner → List ℕ → ℕ → List ℕ → List ℕ → ℕ → List ℕ → Type 0
Recorded F m b o t v r b₁ = Changed F b (meaning (write m o t v)) r b₁

abbrev pub Removed : Form → Manner → List ℕ → ℕ → List ℕ → ℕ → List ℕ → Type 0
Removed F m b o t r b₁ = Changed F b (meaning (remove m o t)) r b₁

abbrev pub Looked : Form → Manner → List ℕ → ℕ → List ℕ → List ℕ → Written → List ℕ → Type 0
Looked F m b o t out r out₁ = Found F b (meaning (look m o t (length out))) out r out₁

-- making a book: 9 where no book has that length, then 11 where it has not the slots for the quotas, and nothing changed; or the layout of
-- no records
pub data Made (F : Form) (e : F.Extra) (b : List ℕ) (r : ℕ) (b₁ : List ℕ) : Type 0 where
  no_size : ((C : ℕ) → Sized F b C → ⊥) → r ≡ bad_book → b₁ ≡ b → Made F e b r b₁
  no_slots : (C : ℕ) → Sized F b C → (QuotasFit F C e → ⊥) → r ≡ full → b₁ ≡ b → Made F e b r b₁
  new_book : (C : ℕ) → Sized F b C → QuotasFit F C e → r ≡ 0 → b₁ ≡ layout F C e [] → Made F e b r b₁

-- the quotas as a caller gives them
abbrev pub quotas : ℕ → ℕ → Quotas
quotas q₁ q₂ = record { one = q₁; two = q₂ }
