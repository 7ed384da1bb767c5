-- What a function has to test to tell a book: facts on positions, which hold exactly of the bytes of a book (CheckLaws).
-- Assumes nothing.
use Rattle.std.specs.Prelude.{◌≡◌, Bool, true, List, ℕ, ◌+◌, ◌<◌, ◌≤◌, take, drop, Option, Some, None}
use Rattle.text.specs.Order.{Before}
use Rattle.book_records.specs.Calls.{is_owner}
use Rattle.book_form.specs.Form.{Form, QuotasFit, slot_at, key_at, SlotOk}
use Rattle.book_form.specs.declared.Version.{Version}
use Rattle.book_form.specs.declared.Version.TheVariants.{One, Two, Three}
use Rattle.book_form.specs.declared.Quotas.{Quotas}
use Rattle.book_form.specs.Version.{quotas_in}
use Rattle.book.specs.Book.{Sized, Book}

module _ (F : Form) where
  -- the number of slots that a book of this size has, 0 where no book is of this size
  pub record Slotted (b : List ℕ) (r : ℕ) : Type 0 where
    pub none : r ≡ 0 → (C : ℕ) → Sized F b C → ⊥
    pub some : (r ≡ 0 → ⊥) → Sized F b r

  -- the size and the header are those of a book with n records
  pub record Frame (b : List ℕ) (n : ℕ) : Type 0 where
    pub room : ℕ
    pub extra : F.Extra
    pub sized : Sized F b room
    pub few : n ≤ room
    pub quotas : QuotasFit F room extra
    pub front : take F.head b ≡ F.header extra n

  abbrev pub Framed : List ℕ → Option ℕ → Type 0
  Framed b (Some n) = Frame b n
  Framed b None = Book F b → ⊥

  -- slot i is a record's, and its key is exact
  pub record SlotGood (b : List ℕ) (i : ℕ) : Type 0 where
    pub ok : SlotOk F (drop (slot_at F i) b)
    pub exact : F.Exact (key_at F b i)

  abbrev pub SlotsGood : List ℕ → ℕ → Type 0
  SlotsGood b n = (i : ℕ) → i < n → SlotGood b i

  -- the keys of the first n slots rise
  abbrev pub Rises : List ℕ → ℕ → Type 0
  Rises b i = Before (key_at F b i) (key_at F b (i + 1))

  abbrev pub Rising : List ℕ → ℕ → Type 0
  Rising b n = (i : ℕ) → i + 1 < n → Rises b i

  -- of the first n slots the first m are owner 1's, and the others owner 2's
  pub record Parted (b : List ℕ) (n m : ℕ) : Type 0 where
    pub few : m ≤ n
    pub ones : (i : ℕ) → i < m → F.owner (key_at F b i) ≡ 1
    pub twos : (i : ℕ) → m ≤ i → i < n → F.owner (key_at F b i) ≡ 2

-- a slot of version 3 begins with an owner, one of another version with no such byte
abbrev pub owner_ok : Version → ℕ → Bool
owner_ok One o = true
owner_ok Two o = true
owner_ok Three o = is_owner o

-- no owner has more of n slots than its quota, where the first m are owner 1's
pub record SharesFit (q : Quotas) (n m : ℕ) : Type 0 where
  pub one : m ≤ q.one
  pub two : n ≤ m + q.two

-- the same of a book's own quotas: before version 3 there is one, every slot
abbrev pub Shares : Version → List ℕ → ℕ → ℕ → Type 0
Shares One b n m = Unit {0}
Shares Two b n m = Unit {0}
Shares Three b n m = SharesFit (quotas_in b) n m
