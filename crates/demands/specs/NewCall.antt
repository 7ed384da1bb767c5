-- `hp_book_new` makes a proper book without records, with the quotas that it is given, of a buffer that is as long as some book, whatever
-- it held; of every other it says 9, and of one that has not the slots for the quotas 11.
-- Assumes nothing.
use Rattle.std.specs.Prelude.{ℕ, ◌+◌, ◌*◌, ◌<◌, ◌≤◌, ◌≡◌, List, [], ◌↔◌, length}
use contract.Lifetimes.{Lfts}
use borrow.Fn.World.{ArgsD, ResD}
use borrow.Fn.Kinds.{ended_of}
use denote.Triple.Clauses.{AtExit}
use Rattle.text.specs.Refusal.{bad_book, full}
use Rattle.book.specs.Book.{quota_in}
use Rattle.demands.specs.Held.{ProperBook}
use Rattle.hostpath.specs.contracts.hp_book_new as n
use Rattle.hostpath.proofs.hp_book_new.Kinds as nk
use Rattle.hostpath.proofs.hp_book_new.Reads as nr

-- one call: its buffer before and after and its result by name, and what its contract ensures
pub record NewCall (b : List ℕ) (one two : ℕ) (r : ℕ) (b₁ : List ℕ) : Type 0 where
  pub lifetimes : Lfts 1
  pub args : ArgsD n.signature lifetimes
  pub result : ResD n.signature lifetimes
  pub exits : AtExit (ended_of 1 nk.ps nk.r) lifetimes
  pub book_in : args.0.now ≡ b
  pub one_in : args.1.0 ≡ one
  pub two_in : args.1.1.0 ≡ two
  pub number_out : result ≡ r
  pub book_out : exits.0.now ≡ b₁
  pub ensures : nr.Post lifetimes args result exits

-- some proper book with C slots has as many bytes
pub record BookLength (b : List ℕ) (C : ℕ) : Type 0 where
  pub like : List ℕ
  pub book : ProperBook like
  pub slots : book.slots ≡ C
  pub same : length like ≡ length b

pub record NewSays (b : List ℕ) (one two : ℕ) (r : ℕ) (b₁ : List ℕ) : Type 0 where
  -- each answer exactly when: 9 where no book has that length, 11 where the quotas sum to more than its slots
  pub bad_book_when : (r ≡ bad_book) ↔ ((C : ℕ) → BookLength b C → ⊥)
  pub no_slots : (r ≡ full) ↔ ((C : ℕ) × BookLength b C × (C < one + two))
  pub done : (r ≡ 0) ↔ ((C : ℕ) × BookLength b C × (one + two ≤ C))
  -- a refusal changes no byte
  pub refusal_keeps : (r ≡ 0 → ⊥) → b₁ ≡ b
  -- else the bytes are a proper book without records and with these quotas, as many as they were
  pub empty : r ≡ 0 → (x : ProperBook b₁) × (x.records ≡ []) × (quota_in x 1 ≡ one) × (quota_in x 2 ≡ two)
  pub same_size : length b₁ ≡ length b

pub record NewDemand : Type 0 where
  pub each : (b : List ℕ) (one two : ℕ) (r : ℕ) (b₁ : List ℕ) → NewCall b one two r b₁ → NewSays b one two r b₁
  -- what the buffer held has no influence
  pub whatever_held : (b b' : List ℕ) (one two : ℕ) (r r' : ℕ) (b₁ b₁' : List ℕ) → NewCall b one two r b₁ → NewCall b' one two r' b₁' → length b ≡ length b' → (r ≡ r') × (r ≡ 0 → b₁ ≡ b₁')
  -- a book has 12 + 322·C bytes, C from 1 to 200
  pub lengths : (b : List ℕ) (C : ℕ) → BookLength b C ↔ ((1 ≤ C) × (C ≤ 200) × (length b ≡ 12 + 322 * C))
