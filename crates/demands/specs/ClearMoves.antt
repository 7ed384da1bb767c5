-- Request L13: a clearing "is no demand 3 call and does not move past one on the same client". What it may move past is said here, of any
-- functions as in `Isolation`: any list of writes, removals and lookups on paths of another client or of none, and of any calls of the other
-- owner, on a book that has room for their writes. Of the generated contracts it is in `IsolatedCalls`.
-- Assumes nothing.
use Rattle.std.specs.Prelude.{ℕ, ◌≡◌, List, [], ◌∷◌, ◌++◌, length, take, drop}
use Rattle.path.specs.declared.Pair.{Pair}
use Rattle.runs.specs.Runs.{Runs}
use Rattle.book_records.specs.Records.{Key}
use Rattle.book_records.specs.Act.{Seen}
use Rattle.book_records.specs.Calls.{Call, PathOf}
use Rattle.book_clear.specs.declared.Count.{Count}
use Rattle.demands.specs.Held.{ProperBook, Room}
use Rattle.demands.specs.Isolation.{Event, call, oldest, clear, Reply, owner_in, Happens}
use Rattle.demands.specs.ClearCall.{Elsewhere}

-- what a clearing of the owner's client may change places with
pub data Apart (owner : ℕ) (client : List ℕ) : Event → Type 0 where
  -- a write, removal or lookup on a path of another client or of none
  on_another_path : {c : Call} → ((k : Key) → PathOf c k → Elsewhere owner client k) → Apart owner client (call c)
  -- any call of the other owner
  of_the_other : {e : Event} → (owner_in e ≡ owner → ⊥) → Apart owner client e

abbrev pub AllApart : ℕ → List ℕ → List Event → Type 0
AllApart owner client [] = Unit {0}
AllApart owner client (e ∷ es) = Apart owner client e × AllApart owner client es

-- the writes, removals and lookups of a list
abbrev pub onto : Event → List Call → List Call
onto (call c) cs = c ∷ cs
onto (oldest o client) cs = cs
onto (clear o client keep) cs = cs

abbrev pub calls_in : List Event → List Call
calls_in [] = []
calls_in (e ∷ es) = onto e (calls_in es)

module _ (Does : List ℕ → Call → Seen → List ℕ → Type 0) (Finds : List ℕ → ℕ → List ℕ → Pair → Type 0) (Clears : List ℕ → ℕ → List ℕ → ℕ → Count → List ℕ → Type 0) where
  -- one list run twice on one proper book: with the clearing ahead of some calls, and with it behind them; anything may follow
  pub record Moved (owner : ℕ) (client : List ℕ) (keep : ℕ) : Type 0 where
    pub past : List Event
    pub rest : List Event
    pub start : List ℕ
    pub book : ProperBook start
    pub apart : AllApart owner client past
    pub room : Room book (calls_in past)
    pub went : Reply
    pub replies : List Reply
    pub end : List ℕ
    pub ahead : Runs (Happens Does Finds Clears) start (clear owner client keep ∷ (past ++ rest)) (went ∷ replies) end
    pub others : List Reply
    pub last : List ℕ
    pub behind : Runs (Happens Does Finds Clears) start (past ++ (clear owner client keep ∷ rest)) others last

  pub record Moves {owner : ℕ} {client : List ℕ} {keep : ℕ} (x : Moved owner client keep) : Type 0 where
    -- the same answers, each to its call
    pub same_answers : x.others ≡ take (length x.past) x.replies ++ (x.went ∷ drop (length x.past) x.replies)
    -- the same bytes
    pub same_bytes : x.last ≡ x.end
