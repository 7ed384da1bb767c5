-- What every call on a book does, on all bytes, of any functions: `Does b c a b₁` says that the call c, made on the bytes b, may be answered by
-- a and leave the bytes b₁. Demand 3 speaks of lists on a proper book that has room for their writes; these lines have no such premise.
-- Assumes nothing.
use Rattle.std.specs.Prelude.{ℕ, ◌≡◌, ◌↔◌, List, [], length}
use Rattle.std.proofs.Math.Option.{Option, none, some}
use Rattle.book_records.specs.Records.{Key}
use Rattle.book_records.specs.Act.{Seen}
use Rattle.book_records.specs.Calls.{Call, PathOf}
use Rattle.book_records.specs.Refusals.{GoodWrite, GoodRemoval, GoodLookup}
use Rattle.book.specs.Book.{quota_in}
use Rattle.demands.specs.Held.{Updates, Accepted, leaves, Looks, ProperBook, Full, Holds}
use Rattle.demands.specs.Refusals.{Refused}

-- on the bytes b nothing refuses the call c
pub data Served (b : List ℕ) (c : Call) : Type 0 where
  adds : {k : Key} {v : List ℕ} → GoodWrite c k v → (h : Holds b k none) → (Full h.book k → ⊥) → Served b c
  replaces : {k : Key} {v u : List ℕ} → GoodWrite c k v → Holds b k (some u) → Served b c
  removes : {k : Key} {u : List ℕ} → GoodRemoval c k → Holds b k (some u) → Served b c
  finds : {k : Key} {room : ℕ} {u : List ℕ} → GoodLookup c k room → Holds b k (some u) → Served b c

-- of one call: its answer, and the bytes that it leaves
pub record Says (b : List ℕ) (c : Call) (a : Seen) (b₁ : List ℕ) : Type 0 where
  -- each refusal exactly when: 9 on what is no book, 23 where the owner is neither 1 nor 2, and the others by their rows
  pub refused_exactly : (n : ℕ) → (n ≡ 0 → ⊥) → (a.number ≡ n) ↔ Refused b c n
  -- 0 exactly when nothing refuses it
  pub served_exactly : (a.number ≡ 0) ↔ Served b c
  -- a refusal changes no byte, and gives nothing
  pub refusal_keeps : (a.number ≡ 0 → ⊥) → (b₁ ≡ b) × (a.value ≡ [])
  -- a book stays a book, and the bytes as many as they were
  pub stays_a_book : ProperBook b → ProperBook b₁
  pub same_size : length b₁ ≡ length b
  -- with the quotas that it had
  pub same_quotas : (x : ProperBook b) (y : ProperBook b₁) (o : ℕ) → quota_in y o ≡ quota_in x o
  -- after an accepted write its path holds the value, after an accepted removal nothing
  pub left : Accepted c a → (k : Key) → PathOf c k → Holds b₁ k (leaves c)
  -- every other path holds what it held
  pub others_keep : (k : Key) → (PathOf c k → ⊥) → (o : Option (List ℕ)) → Holds b k o → Holds b₁ k o
  -- an accepted lookup gives what its path holds, and no lookup changes a byte
  pub lookup_gives : Looks c → a.number ≡ 0 → (k : Key) × PathOf c k × Holds b k (some a.value)
  pub lookup_keeps : Looks c → b₁ ≡ b
  -- a write or a removal gives nothing
  pub update_silent : Updates c.asked → a.value ≡ []

abbrev pub EachCall : (List ℕ → Call → Seen → List ℕ → Type 0) → Type 0
EachCall Does = (b : List ℕ) (c : Call) (a : Seen) (b₁ : List ℕ) → Does b c a b₁ → Says b c a b₁
