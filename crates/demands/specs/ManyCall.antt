-- `hp_book_fill` and `hp_book_lookup_many`, requests L9 and L10: each refusal exactly when, and each text gets what `hp_book_lookup` gives
-- that owner for it alone. A table covers the records of both owners.
-- Assumes nothing.
use Rattle.std.specs.Prelude.{ℕ, ◌-◌, ◌*◌, ◌<◌, ◌≤◌, ◌≡◌, true, false, List, ◌∷◌, ◌++◌, ◌↔◌, length, take, drop}
use Rattle.std.proofs.Math.Option.{some}
use Rattle.std.proofs.Math.ListN.{get_elem?}
use contract.Lifetimes.{Lfts}
use borrow.Fn.World.{ArgsD, ResD}
use borrow.Fn.Kinds.{ended_of}
use denote.Triple.Clauses.{AtExit}
use Rattle.text.specs.declared.Written.{Written}
use Rattle.text.specs.Refusal.{bad_book, bad_owner, bad_table, no_room}
use Rattle.book_records.specs.declared.Manner.TheVariants.{Plain}
use Rattle.book_records.specs.Calls.{is_owner}
use Rattle.book_form.specs.Form.{zeros}
use Rattle.book.specs.Book.{Current, Book}
use Rattle.book_table.specs.Lines.{lines}
use Rattle.book_table.specs.Many.{table_of}
use Rattle.demands.specs.BookCalls.{Looks}
use Rattle.hostpath.specs.contracts.hp_book_fill as f
use Rattle.hostpath.proofs.hp_book_fill.Kinds as fk
use Rattle.hostpath.proofs.hp_book_fill.Reads as fr
use Rattle.hostpath.specs.contracts.hp_book_lookup_many as m
use Rattle.hostpath.proofs.hp_book_lookup_many.Kinds as mk
use Rattle.hostpath.proofs.hp_book_lookup_many.Reads as mr

-- one call of each function: its buffers before and after, its result, and what its contract ensures
pub record FillsTable (b table : List ℕ) (r : ℕ) (table₁ : List ℕ) : Type 0 where
  pub lifetimes : Lfts 2
  pub args : ArgsD f.signature lifetimes
  pub result : ResD f.signature lifetimes
  pub exits : AtExit (ended_of 2 fk.ps fk.r) lifetimes
  pub book_in : args.0.now ≡ b
  pub table_in : args.1.0.now ≡ table
  pub number_out : result ≡ r
  pub table_out : exits.1.0.now ≡ table₁
  pub ensures : fr.Post lifetimes args result exits

pub record LooksUpMany (b : List ℕ) (owner : ℕ) (table texts out : List ℕ) (r : Written) (out₁ : List ℕ) : Type 0 where
  pub lifetimes : Lfts 4
  pub args : ArgsD m.signature lifetimes
  pub result : ResD m.signature lifetimes
  pub exits : AtExit (ended_of 4 mk.ps mk.r) lifetimes
  pub book_in : args.0.now ≡ b
  pub owner_in : args.1.0 ≡ owner
  pub table_in : args.1.1.0.now ≡ table
  pub texts_in : args.1.1.1.0.now ≡ texts
  pub out_in : args.1.1.1.1.0.now ≡ out
  pub answer_out : result ≡ r
  pub out_out : exits.1.1.1.1.0.now ≡ out₁
  pub ensures : mr.Post lifetimes args result exits

-- "Filling: 9, then 4."
pub record Filling (b table : List ℕ) (r : ℕ) (table₁ : List ℕ) : Type 0 where
  pub bad_book_when : (r ≡ bad_book) ↔ (Book Current b → ⊥)
  pub no_room_when : (r ≡ no_room) ↔ (Book Current b × (length table < 512))
  pub done : (r ≡ 0) ↔ (Book Current b × (512 ≤ length table))
  -- the 512 numbers of the book's keys; later bytes stay
  pub filled : r ≡ 0 → (x : Book Current b) → table₁ ≡ table_of x ++ drop 512 table

-- the bytes that stand for one text in the output
abbrev pub entry_at : List ℕ → ℕ → List ℕ
entry_at out i = take 66 (drop (66 * i) out)

pub record Many (b : List ℕ) (owner : ℕ) (table texts out : List ℕ) (r : Written) (out₁ : List ℕ) : Type 0 where
  -- "Refusals of the whole call: 9, then 22 BAD_TABLE, given exactly when the table is not the 512 numbers that filling would give, then 4."
  -- "23 BAD_OWNER, after 9"
  pub bad_book_when : (r.refusal ≡ bad_book) ↔ (Book Current b → ⊥)
  pub bad_owner_when : (r.refusal ≡ bad_owner) ↔ (Book Current b × (is_owner owner ≡ false))
  pub bad_table_when : (r.refusal ≡ bad_table) ↔ ((x : Book Current b) × (is_owner owner ≡ true) × (table ≡ table_of x → ⊥))
  pub no_room_when : (r.refusal ≡ no_room) ↔ ((x : Book Current b) × (is_owner owner ≡ true) × (table ≡ table_of x) × (length out < 66 * length (lines texts)))
  pub done : (r.refusal ≡ 0) ↔ ((x : Book Current b) × (is_owner owner ≡ true) × (table ≡ table_of x) × (66 * length (lines texts) ≤ length out))
  -- ".. writes 66 bytes a text ..", and later bytes stay
  pub size : r.refusal ≡ 0 → r.length ≡ 66 * length (lines texts)
  pub later : r.refusal ≡ 0 → drop (66 * length (lines texts)) out₁ ≡ drop (66 * length (lines texts)) out
  -- ".. refusal number, value length, the value filled with zeros to 64. Each of these equals what the plain lookup of that text alone gives
  -- with 64 bytes of room; a refusal has length and value zero."
  pub each : r.refusal ≡ 0 → (i : ℕ) (t : List ℕ) → get_elem? (lines texts) i ≡ some t
      → (room : List ℕ) → length room ≡ 64 → (w : Written) (room₁ : List ℕ) → Looks Plain b owner t room w room₁
      → entry_at out₁ i ≡ w.refusal ∷ w.length ∷ (take w.length room₁ ++ zeros (64 - w.length))
  pub refused : r.refusal ≡ 0 → (i : ℕ) (t : List ℕ) → get_elem? (lines texts) i ≡ some t
      → (room : List ℕ) → length room ≡ 64 → (w : Written) (room₁ : List ℕ) → Looks Plain b owner t room w room₁
      → (w.refusal ≡ 0 → ⊥) → entry_at out₁ i ≡ w.refusal ∷ zeros 65

pub record ManyDemand : Type 0 where
  pub fills : (b table : List ℕ) (r : ℕ) (table₁ : List ℕ) → FillsTable b table r table₁ → Filling b table r table₁
  pub looks : (b : List ℕ) (owner : ℕ) (table texts out : List ℕ) (r : Written) (out₁ : List ℕ) → LooksUpMany b owner table texts out r out₁ → Many b owner table texts out r out₁
  -- a table of 512 bytes is taken from either owner as it was filled from this book, and no other is
  pub taken : (b t : List ℕ) (r : ℕ) (t₁ : List ℕ) → FillsTable b t r t₁ → r ≡ 0 → length t ≡ 512
      → (owner : ℕ) → is_owner owner ≡ true
      → (table texts out : List ℕ) (q : Written) (out₁ : List ℕ) → LooksUpMany b owner table texts out q out₁ → (q.refusal ≡ bad_table) ↔ (table ≡ t₁ → ⊥)
