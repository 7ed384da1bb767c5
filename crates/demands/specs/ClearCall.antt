-- Request L13, sentence by sentence, of the generated contract of `hp_book_clear`; the formula by which the contract says it is in `book_clear`
-- (Clear), and is not used here but for the number of states in a book. And each refusal exactly when.
-- Assumes nothing.
use Rattle.std.specs.Prelude.{ℕ, ◌+◌, ◌≡◌, true, false, List, ◌∷◌, ◌↔◌, ◌⊎◌, length}
use Rattle.std.proofs.Math.Option.{Option, none, some}
use Rattle.std.proofs.Math.ListN.{get_elem?}
use contract.Lifetimes.{Lfts}
use borrow.Fn.World.{ArgsD, ResD}
use borrow.Fn.Kinds.{ended_of}
use denote.Triple.Clauses.{AtExit}
use Rattle.text.specs.Refusal.{bad_book, bad_owner}
use Rattle.identifiers.specs.Check.{check_of}
use Rattle.identifiers.specs.Check as check
use Rattle.path.specs.declared.Revision.{Revision}
use Rattle.path.specs.Kinds.{Carried}
use Rattle.path.specs.Valid.{ReadsAs}
use Rattle.path.specs.Revision.{revision, below}
use Rattle.book_records.specs.Records.{Key}
use Rattle.book_records.specs.Act.{Rec}
use Rattle.book_records.specs.Calls.{is_owner, owner_of}
use Rattle.book.specs.Book.{quota_in}
use Rattle.book_clear.specs.declared.Count.{Count}
use Rattle.book_clear.specs.declared.role.Role.TheVariants.{State}
use Rattle.book_clear.specs.Clear.{own_role, states_that, least}
use Rattle.demands.specs.Held.{ProperBook, Holds, Full, free}
use Rattle.hostpath.specs.contracts.hp_book_clear as c
use Rattle.hostpath.proofs.hp_book_clear.Kinds as ck
use Rattle.hostpath.proofs.hp_book_clear.Reads as cr

-- one call: its arguments and its answer by name, the book before and after, and what its contract ensures
pub record ClearCall (b : List ℕ) (owner : ℕ) (client : List ℕ) (keep : ℕ) (x : Count) (b₁ : List ℕ) : Type 0 where
  pub lifetimes : Lfts 2
  pub args : ArgsD c.signature lifetimes
  pub result : ResD c.signature lifetimes
  pub exits : AtExit (ended_of 2 ck.ps ck.r) lifetimes
  pub book_in : args.0.now ≡ b
  pub owner_in : args.1.0 ≡ owner
  pub client_in : args.1.1.0.now ≡ client
  pub keep_in : args.1.1.1.0 ≡ keep
  pub answer_out : result ≡ x
  pub book_out : exits.0.now ≡ b₁
  pub ensures : cr.Post lifetimes args result exits

-- ---- the words of the request
-- a path of this kind, of the owner's client, with this revision: the owner, and then a text that reads, exact, as that
pub record Of (kind owner : ℕ) (client : List ℕ) (p : Revision) (k : Key) : Type 0 where
  pub text : List ℕ
  pub parts : Carried (List ℕ)
  pub is : k ≡ owner ∷ text
  pub reads : ReadsAs text kind parts
  pub client_is : parts.first ≡ client
  pub revision_is : revision parts.a parts.b ≡ p

-- a state, and the processed time or height of one, whether the state is there or not
abbrev pub IsState : ℕ → List ℕ → Revision → Key → Type 0
IsState owner client p k = Of 5 owner client p k

abbrev pub IsTimeOrHeight : ℕ → List ℕ → Revision → Key → Type 0
IsTimeOrHeight owner client p k = Of 6 owner client p k ⊎ Of 7 owner client p k

-- a path that is none of these: of another client or of none, or of the other owner
pub record Elsewhere (owner : ℕ) (client : List ℕ) (k : Key) : Type 0 where
  pub no_state : (p : Revision) → IsState owner client p k → ⊥
  pub no_time_or_height : (p : Revision) → IsTimeOrHeight owner client p k → ⊥

-- the bytes are a book that holds something under this path, or nothing
abbrev pub Has : List ℕ → Key → Type 0
Has b k = (v : List ℕ) × Holds b k (some v)

abbrev pub Lacks : List ℕ → Key → Type 0
Lacks b k = Holds b k none

-- at least one state of the owner's client is present; and how many are
abbrev pub SomeState : List ℕ → ℕ → List ℕ → Type 0
SomeState b owner client = (p : Revision) × (k : Key) × IsState owner client p k × Has b k

abbrev pub states : {b : List ℕ} → ProperBook b → ℕ → List ℕ → ℕ
states y owner client = states_that owner client (λ q. true) y.records

-- what is counted as a state in a book is one
abbrev pub StatesCounted : Type 0
StatesCounted = (b : List ℕ) (y : ProperBook b) (i : ℕ) (r : Rec) → get_elem? y.records i ≡ some r → (owner : ℕ) (client : List ℕ) (p : Revision) → (own_role owner client r.0 ≡ State p) ↔ IsState owner client p r.0

pub record ClearSays (b : List ℕ) (owner : ℕ) (client : List ℕ) (keep : ℕ) (x : Count) (b₁ : List ℕ) : Type 0 where
  -- "Refusals: 9, 23, client checks": 9 on what is no book; on a book 23 where the owner is neither 1 nor 2; of an owner the number of the
  -- client's check, where that refuses the client; and else 0
  pub bad_book_when : (x.refusal ≡ bad_book) ↔ (ProperBook b → ⊥)
  pub bad_owner_when : (x.refusal ≡ bad_owner) ↔ (ProperBook b × (is_owner owner ≡ false))
  pub bad_client : (n : ℕ) → (n ≡ 0 → ⊥) → (n ≡ bad_book → ⊥) → (n ≡ bad_owner → ⊥) → (x.refusal ≡ n) ↔ (ProperBook b × (is_owner owner ≡ true) × (check_of check.client client ≡ n))
  pub done : (x.refusal ≡ 0) ↔ (ProperBook b × (is_owner owner ≡ true) × (check_of check.client client ≡ 0))
  -- a refusal changes no byte, and counts nothing
  pub refusal_keeps : (x.refusal ≡ 0 → ⊥) → (b₁ ≡ b) × (x.count ≡ 0)
  -- a book stays a book, of its size and with its quotas
  pub stays_a_book : ProperBook b → ProperBook b₁
  pub same_size : length b₁ ≡ length b
  pub same_quotas : (y : ProperBook b) (z : ProperBook b₁) (o : ℕ) → quota_in z o ≡ quota_in y o
  -- "keeps the k states with the greatest pairs": as many stay as there are or as are to be kept, whichever is less, ..
  pub kept_number : x.refusal ≡ 0 → (y : ProperBook b) (z : ProperBook b₁) → states z owner client ≡ least keep (states y owner client)
  -- .. and each of them is above each that went
  pub kept_greatest : (p q : Revision) (j k : Key) → IsState owner client p j → Has b j → Lacks b₁ j → IsState owner client q k → Has b₁ k → below p q ≡ true
  -- "and removes the rest, each with its processed time and height": these go exactly when their state goes
  pub with_its_state : (p : Revision) (j k : Key) → IsState owner client p j → Has b j → IsTimeOrHeight owner client p k → Has b k → Lacks b₁ k ↔ Lacks b₁ j
  -- "A time or height that has no state goes exactly when its pair is below every kept one": that it has none is not needed, as a kept state is
  -- not below itself
  pub below_every_kept : x.refusal ≡ 0 → SomeState b owner client → (p : Revision) (k : Key) → IsTimeOrHeight owner client p k → Has b k
      → Lacks b₁ k ↔ ((q : Revision) (j : Key) → IsState owner client q j → Has b₁ j → below p q ≡ true)
  -- "with k 0 and at least one state present all of them go": states, times and heights
  pub all_go : x.refusal ≡ 0 → keep ≡ 0 → SomeState b owner client → (p : Revision) (k : Key) → IsState owner client p k ⊎ IsTimeOrHeight owner client p k → Lacks b₁ k
  -- "and with no state present nothing changes for any k"
  pub nothing_changes : (SomeState b owner client → ⊥) → (b₁ ≡ b) × (x.count ≡ 0)
  -- nothing else changes: every other path holds what it held, the other owner's too, and what is held was held before
  pub others_keep : (k : Key) → Elsewhere owner client k → (o : Option (List ℕ)) → Holds b k o → Holds b₁ k o
  pub other_owner_keeps : (k : Key) → (owner_of k ≡ owner → ⊥) → (o : Option (List ℕ)) → Holds b k o → Holds b₁ k o
  pub only_removes : (k : Key) (v : List ℕ) → Holds b₁ k (some v) → Holds b k (some v)
  -- "It reports how many records went, equal to the drop in the book's count"
  pub counted : (y : ProperBook b) (z : ProperBook b₁) → length y.records ≡ length z.records + x.count
  -- "Freed slots serve the next writes": the owner has so many more slots free in its quota, and everybody else as many as before; so after
  -- a call that removed something no new key of the owner is refused with 11
  pub freed : (y : ProperBook b) (z : ProperBook b₁) → free z owner ≡ free y owner + x.count
  pub others_free : (y : ProperBook b) (z : ProperBook b₁) (o : ℕ) → (o ≡ owner → ⊥) → free z o ≡ free y o
  pub room_again : (z : ProperBook b₁) (k : Key) → (x.count ≡ 0 → ⊥) → owner_of k ≡ owner → Full z k → ⊥

-- of every call of a function, on all bytes
abbrev pub ClearDemand : (List ℕ → ℕ → List ℕ → ℕ → Count → List ℕ → Type 0) → Type 0
ClearDemand Clears = (b : List ℕ) (owner : ℕ) (client : List ℕ) (keep : ℕ) (x : Count) (b₁ : List ℕ) → Clears b owner client keep x b₁ → ClearSays b owner client keep x b₁
