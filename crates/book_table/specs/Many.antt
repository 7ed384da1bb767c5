-- What the calls on a table come to: filling, and many lookups at once.
-- Assumes nothing.
use Rattle.std.specs.Prelude.{◌≡◌, ℕ, true, false, List, [], ◌∷◌, ◌++◌, map, length, ◌≢◌, refl}
use Rattle.text.specs.Refusal.{bad_book, bad_owner, bad_table}
use Rattle.text.specs.declared.Written.{Written}
use Rattle.text.specs.Put.{put, text, answer, left, refusal}
use Rattle.book_records.specs.Act.{Rec, Answer, says, gives}
use Rattle.book_records.specs.declared.Manner.TheVariants.{Plain}
use Rattle.book_records.specs.Calls.{is_owner, look, meaning}
use Rattle.book_form.specs.Form.{Form, zeros}
use Rattle.book.specs.Book.{Book, acts}
use Rattle.book.specs.Outcome.{written_by, shown}
use Rattle.book_table.specs.Table.{fill}
use Rattle.book_table.specs.Lines.{lines}

-- the 66 bytes of an answer: its number, the length of its value, and the value in 64 bytes that were zeros
unfoldable pub entry_of : Answer → List ℕ
entry_of a = (written_by a).refusal ∷ (written_by a).length ∷ shown a (zeros 64)

-- the bytes of some texts, one after the other
unfoldable pub entries : (List ℕ → Answer) → List (List ℕ) → List ℕ
entries f [] = []
entries f (t ∷ ts) = entry_of (f t) ++ entries f ts

module _ {F : Form} {b : List ℕ} where
  -- the table that filling gives
  abbrev pub table_of : Book F b → List ℕ
  table_of x = fill (map (λ (r : Rec). r.0) x.records)

  -- what the plain lookup of an owner's text alone answers, with 64 bytes of room
  abbrev pub looked_up : Book F b → ℕ → List ℕ → Answer
  looked_up x o t = (acts x (meaning (look Plain o t 64))).0

-- filling: the refusal number r, and the bytes of `out` after
pub data Fills (F : Form) (b out : List ℕ) (r : ℕ) (out₁ : List ℕ) : Type 0 where
  no_book : (Book F b → ⊥) → r ≡ bad_book → out₁ ≡ out → Fills F b out r out₁
  this_book : (x : Book F b) → r ≡ (answer (text (table_of x)) (length out)).refusal → out₁ ≡ left (text (table_of x)) out → Fills F b out r out₁

-- many lookups: the answer r, and the bytes of `out` after
pub data LooksMany (F : Form) (b : List ℕ) (o : ℕ) (table texts out : List ℕ) (r : Written) (out₁ : List ℕ) : Type 0 where
  no_book : (Book F b → ⊥) → r ≡ refusal bad_book → out₁ ≡ out → LooksMany F b o table texts out r out₁
  no_owner : Book F b → is_owner o ≡ false → r ≡ refusal bad_owner → out₁ ≡ out → LooksMany F b o table texts out r out₁
  bad_table_when : (x : Book F b) → is_owner o ≡ true → (table ≢ table_of x) → r ≡ refusal bad_table → out₁ ≡ out → LooksMany F b o table texts out r out₁
  this_table : (x : Book F b) → is_owner o ≡ true → table ≡ table_of x → r ≡ answer (text (entries (looked_up x o) (lines texts))) (length out) → out₁ ≡ left (text (entries (looked_up x o) (lines texts))) out → LooksMany F b o table texts out r out₁

-- the bytes of one text, written from a place on
pub record Entered (F : Form) (b : List ℕ) (o : ℕ) (t out : List ℕ) (at : ℕ) (out₁ : List ℕ) : Type 0 where
  pub entry : List ℕ
  pub is : (x : Book F b) → entry ≡ entry_of (looked_up x o t)
  pub size : length entry ≡ 66
  pub written : out₁ ≡ put out at entry

nothing_held : entry_of (says 12) ≡ 12 ∷ 0 ∷ zeros 64
unfolding entry_of
nothing_held = refl

two_bytes : entry_of (gives (7 ∷ 8 ∷ [])) ≡ 0 ∷ 2 ∷ 7 ∷ 8 ∷ zeros 62
unfolding entry_of put
two_bytes = refl
