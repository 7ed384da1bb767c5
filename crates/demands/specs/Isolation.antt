-- Request L10, isolation, of any functions: `Does b c a b₁` says that the call c, made on the bytes b, may be answered by a and leave the
-- bytes b₁, `Finds b owner client p` that `oldest` may answer the pair p, and `Clears b owner client keep n b₁` that a clearing may answer the
-- count n and leave the bytes b₁. Of the generated contracts it is in `IsolatedCalls`.
-- Assumes nothing.
use Rattle.std.specs.Prelude.{ℕ, ◌≡◌, ◌↔◌, Bool, List, eqb}
use Rattle.std.proofs.Math.Option.{Option}
use Rattle.path.specs.declared.Pair.{Pair}
use Rattle.runs.specs.Runs.{Runs}
use Rattle.runs.specs.Without.{without, answers_without}
use Rattle.book_records.specs.Records.{Key}
use Rattle.book_records.specs.Act.{Seen}
use Rattle.book_records.specs.Calls.{Call, owner_of}
use Rattle.book.specs.Book.{quota_in}
use Rattle.book_clear.specs.declared.Count.{Count}
use Rattle.demands.specs.Held.{Holds, ProperBook}

-- what is asked of a book: a write, a removal or a lookup, the oldest state of an owner's client, or to clear out all but so many of its states
pub data Event : Type 0 where
  call : Call → Event
  oldest : ℕ → List ℕ → Event
  clear : ℕ → List ℕ → ℕ → Event

-- what is answered
pub data Reply : Type 0 where
  seen : Seen → Reply
  pair : Pair → Reply
  went : Count → Reply

abbrev pub owner_in : Event → ℕ
owner_in (call c) = c.owner
owner_in (oldest o client) = o
owner_in (clear o client keep) = o

-- an owner's
abbrev pub is_of : ℕ → Event → Bool
is_of o e = eqb (owner_in e) o

module _ (Does : List ℕ → Call → Seen → List ℕ → Type 0) (Finds : List ℕ → ℕ → List ℕ → Pair → Type 0) (Clears : List ℕ → ℕ → List ℕ → ℕ → Count → List ℕ → Type 0) where
  -- `oldest` is lent the book only to be read
  pub data Happens (b : List ℕ) : Event → Reply → List ℕ → Type 0 where
    called : {c : Call} {a : Seen} {b₁ : List ℕ} → Does b c a b₁ → Happens b (call c) (seen a) b₁
    found : {o : ℕ} {client : List ℕ} {p : Pair} → Finds b o client p → Happens b (oldest o client) (pair p) b
    emptied : {o : ℕ} {client : List ℕ} {keep : ℕ} {n : Count} {b₁ : List ℕ} → Clears b o client keep n b₁ → Happens b (clear o client keep) (went n) b₁

  -- any list of both owners' writes, removals, lookups, `oldest` calls and clearings on a proper book, in any manner, accepted or refused
  pub record Any : Type 0 where
    pub events : List Event
    pub start : List ℕ
    pub book : ProperBook start
    pub replies : List Reply
    pub end : List ℕ
    pub run : Runs Happens start events replies end

  module _ (x : Any) (o : ℕ) where
    -- the same list without the owner o's, on the same book
    pub record Alone : Type 0 where
      pub replies : List Reply
      pub end : List ℕ
      pub run : Runs Happens x.start (without (is_of o) x.events) replies end

    pub record Isolation : Type 0 where
      -- "no list of one owner's writes, removals, lookups and `oldest` calls changes any answer to the other from those calls ..", nor does one with
      -- clearings among them, and clearings are answered alike too
      pub same_answers : (y : Alone) → answers_without (is_of o) x.events x.replies ≡ y.replies
      -- ".. or any of the other's records"
      pub same_records : (y : Alone) (k : Key) → (owner_of k ≡ o → ⊥) → (held : Option (List ℕ)) → Holds x.end k held ↔ Holds y.end k held
      -- the book stays a book, with the quotas that it had
      pub stays_a_book : ProperBook x.end
      pub same_quotas : (y : ProperBook x.end) (p : ℕ) → quota_in y p ≡ quota_in x.book p
