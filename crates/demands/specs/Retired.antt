-- Request L14, kind 8 is retired from books, of any functions: `Does b c a b₁` says that the call c, made on the bytes b, may be answered by a
-- and leave the bytes b₁. Of the generated contracts it is in `RetiredCalls`. Which keys are of kind 8 is `is_retired` in `book_records` (Calls).
-- Assumes nothing.
use Rattle.std.specs.Prelude.{ℕ, ◌≡◌, ◌↔◌, ◌⊎◌, true, List}
use Rattle.std.proofs.Math.Option.{none, some}
use Rattle.std.proofs.Math.ListN.{get_elem?}
use Rattle.text.specs.Refusal.{retired}
use Rattle.runs.specs.Runs.{Runs}
use Rattle.book_records.specs.Records.{Key}
use Rattle.book_records.specs.Act.{Seen}
use Rattle.book_records.specs.Calls.{to_write, to_remove, Call, PathOf, is_retired}
use Rattle.book_records.specs.Refusals.{HasKey, GoodRemoval, GoodLookup}
use Rattle.demands.specs.Held.{Holds, ProperBook}

-- ---- one call, on all bytes
-- a write on a book whose text has a key, and that is of kind 8: whatever the value is, whatever the book holds, full or not
pub record Retires (b : List ℕ) (c : Call) : Type 0 where
  pub book : ProperBook b
  pub value : List ℕ
  pub asked : c.asked ≡ to_write value
  pub key : Key
  pub has : HasKey c key
  pub is_retired_lem : is_retired key ≡ true

pub record RetiredCall (b : List ℕ) (c : Call) (a : Seen) (b₁ : List ℕ) : Type 0 where
  -- "25 RETIRED, for writes only, after 10 and before 6": given exactly when, and it changes no byte
  pub given_exactly : (a.number ≡ retired) ↔ Retires b c
  pub nothing_changed : Retires b c → b₁ ≡ b
  -- "Records already in a book can be looked up and removed", as all others
  pub removal_works : (k : Key) (u : List ℕ) → is_retired k ≡ true → GoodRemoval c k → Holds b k (some u) → (a.number ≡ 0) × Holds b₁ k none
  pub lookup_works : (k : Key) (u : List ℕ) (room : ℕ) → is_retired k ≡ true → GoodLookup c k room → Holds b k (some u) → (a.number ≡ 0) × (a.value ≡ u)

-- ---- a list of calls
-- at position i of these calls and their answers an accepted removal of the path k
pub record RemovedAt (calls : List Call) (answers : List Seen) (k : Key) (i : ℕ) : Type 0 where
  pub call : Call
  pub answer : Seen
  pub there : get_elem? calls i ≡ some call
  pub said : get_elem? answers i ≡ some answer
  pub asked : call.asked ≡ to_remove
  pub path : PathOf call k
  pub accepted : answer.number ≡ 0

module _ (Does : List ℕ → Call → Seen → List ℕ → Type 0) where
  -- any list of both owners' writes, removals and lookups on a proper book, in any manner, accepted or refused
  pub record Any : Type 0 where
    pub calls : List Call
    pub start : List ℕ
    pub book : ProperBook start
    pub answers : List Seen
    pub end : List ℕ
    pub run : Runs Does start calls answers end

  module _ (x : Any) where
    abbrev pub Removed : Key → ℕ → Type 0
    Removed k i = RemovedAt x.calls x.answers k i

    pub record RetiredStays (k : Key) : Type 0 where
      -- "No new record of kind 8 is written, and none replaced": what its path holds at the end it held at the start, and was not removed;
      -- and what it held and was not removed it holds
      pub held_exactly : (u : List ℕ) → Holds x.end k (some u) ↔ (Holds x.start k (some u) × ((i : ℕ) → Removed k i → ⊥))
      -- what was there is there with the same value, or was removed
      pub stays_or_removed : (u : List ℕ) → Holds x.start k (some u) → Holds x.end k (some u) ⊎ (Holds x.end k none × ((i : ℕ) × Removed k i))
      -- what was not there is not there
      pub none_added : Holds x.start k none → Holds x.end k none
