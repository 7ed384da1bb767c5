-- `hp_book_convert` makes a book of version 2 with the slots and the records of a book of version 1; and it is refused exactly when. What
-- lookups give after it and after `hp_book_convert_owners` is in `ConvertOwnersCall`.
-- Assumes nothing.
use Rattle.std.specs.Prelude.{ℕ, ◌≡◌, List, ◌↔◌, length}
use contract.Lifetimes.{Lfts}
use borrow.Fn.World.{ArgsD, ResD}
use borrow.Fn.Kinds.{ended_of}
use denote.Triple.Clauses.{AtExit}
use Rattle.text.specs.Refusal.{bad_book, no_room}
use Rattle.book_form.specs.Form.{Form, slot_at}
use Rattle.book_form.specs.Version.{V1, V2}
use Rattle.book.specs.Book.{Book}
use Rattle.hostpath.specs.contracts.hp_book_convert as v
use Rattle.hostpath.proofs.hp_book_convert.Kinds as vk
use Rattle.hostpath.proofs.hp_book_convert.Reads as vr

-- one call: its buffers before and after and its result by name, and what its contract ensures
pub record Converts (old new : List ℕ) (r : ℕ) (new₁ : List ℕ) : Type 0 where
  pub lifetimes : Lfts 2
  pub args : ArgsD v.signature lifetimes
  pub result : ResD v.signature lifetimes
  pub exits : AtExit (ended_of 2 vk.ps vk.r) lifetimes
  pub old_in : args.0.now ≡ old
  pub new_in : args.1.0.now ≡ new
  pub number_out : result ≡ r
  pub new_out : exits.1.0.now ≡ new₁
  pub ensures : vr.Post lifetimes args result exits

-- the second buffer has the size of a book of the form G with as many slots as the old book, of the form F
abbrev pub SameSlots : {F : Form} (G : Form) {old : List ℕ} → Book F old → List ℕ → Type 0
SameSlots G x new = length new ≡ slot_at G x.slots

pub record Conversion (old new : List ℕ) (r : ℕ) (new₁ : List ℕ) : Type 0 where
  -- each answer exactly when
  pub bad_book_when : (r ≡ bad_book) ↔ (Book V1 old → ⊥)
  pub no_room_when : (r ≡ no_room) ↔ ((x : Book V1 old) × (SameSlots V2 x new → ⊥))
  pub done : (r ≡ 0) ↔ ((x : Book V1 old) × SameSlots V2 x new)
  -- the new bytes are a book with the slots and the records of the old one
  pub same_records : r ≡ 0 → (x : Book V1 old) → (y : Book V2 new₁) × (y.slots ≡ x.slots) × (y.records ≡ x.records)

-- what the second buffer held has no influence
pub record ConvertDemand : Type 0 where
  pub each : (old new : List ℕ) (r : ℕ) (new₁ : List ℕ) → Converts old new r new₁ → Conversion old new r new₁
  pub whatever_held : (old new new' : List ℕ) (r r' : ℕ) (new₁ new₁' : List ℕ) → Converts old new r new₁ → Converts old new' r' new₁'
      → length new ≡ length new' → (r ≡ r') × (r ≡ 0 → new₁ ≡ new₁')
