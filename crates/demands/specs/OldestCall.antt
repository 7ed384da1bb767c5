-- `hp_book_oldest` answers a pair that the book holds for the owner's client, and none that it holds for it is below; and each refusal
-- exactly when.
-- Assumes nothing.
use Rattle.std.specs.Prelude.{ℕ, ◌≡◌, true, false, List, ◌∷◌, ◌↔◌, Some}
use Rattle.std.proofs.Math.Option.{some}
use Rattle.std.proofs.Math.ListN.{get_elem?}
use contract.Lifetimes.{Lfts}
use borrow.Fn.World.{ArgsD, ResD}
use borrow.Fn.Kinds.{ended_of}
use denote.Triple.Clauses.{AtExit}
use Rattle.text.specs.Refusal.{bad_book, bad_owner}
use Rattle.text.specs.Refusal as refusal
use Rattle.identifiers.specs.Check.{check_of}
use Rattle.identifiers.specs.Check as check
use Rattle.book_records.specs.Calls.{is_owner}
use Rattle.path.specs.declared.Pair.{Pair}
use Rattle.path.specs.Revision.{revision, below}
use Rattle.book_oldest.specs.Oldest.{state_of}
use Rattle.demands.specs.Held.{ProperBook}
use Rattle.hostpath.specs.contracts.hp_book_oldest as o
use Rattle.hostpath.proofs.hp_book_oldest.Kinds as ok
use Rattle.hostpath.proofs.hp_book_oldest.Reads as or

-- one call: its arguments and its answer by name, and what its contract ensures
pub record OldestCall (b : List ℕ) (owner : ℕ) (client : List ℕ) (x : Pair) : Type 0 where
  pub lifetimes : Lfts 2
  pub args : ArgsD o.signature lifetimes
  pub result : ResD o.signature lifetimes
  pub exits : AtExit (ended_of 2 ok.ps ok.r) lifetimes
  pub book_in : args.0.now ≡ b
  pub owner_in : args.1.0 ≡ owner
  pub client_in : args.1.1.0.now ≡ client
  pub answer_out : result ≡ x
  pub ensures : or.Post lifetimes args result exits

-- the bytes are a book, and a record of the owner's in it is a state of the client, with this revision number and height
pub record HoldsState (b : List ℕ) (owner : ℕ) (client : List ℕ) (m h : ℕ) : Type 0 where
  pub book : ProperBook b
  pub place : ℕ
  pub key : List ℕ
  pub value : List ℕ
  pub there : get_elem? book.records place ≡ some (owner ∷ key, value)
  pub tells : state_of client key ≡ Some (revision m h)

pub record OldestSays (b : List ℕ) (owner : ℕ) (client : List ℕ) (x : Pair) : Type 0 where
  -- each answer exactly when: 9 on what is no book; on a book 23 where the owner is neither 1 nor 2; of an owner the number of the client's
  -- check, where that refuses the client; of a client that it accepts 12 where the owner holds nothing, and 0 where it holds something
  pub bad_book_when : (x.refusal ≡ bad_book) ↔ (ProperBook b → ⊥)
  pub bad_owner_when : (x.refusal ≡ bad_owner) ↔ (ProperBook b × (is_owner owner ≡ false))
  pub bad_client : (n : ℕ) → (n ≡ 0 → ⊥) → (n ≡ bad_book → ⊥) → (n ≡ bad_owner → ⊥) → (n ≡ refusal.absent → ⊥) → (x.refusal ≡ n) ↔ (ProperBook b × (is_owner owner ≡ true) × (check_of check.client client ≡ n))
  pub absent : (x.refusal ≡ refusal.absent) ↔ (ProperBook b × (is_owner owner ≡ true) × (check_of check.client client ≡ 0) × ((m h : ℕ) → HoldsState b owner client m h → ⊥))
  pub done : (x.refusal ≡ 0) ↔ ((is_owner owner ≡ true) × (check_of check.client client ≡ 0) × (m : ℕ) × (h : ℕ) × HoldsState b owner client m h)
  -- the answer is held
  pub held : x.refusal ≡ 0 → HoldsState b owner client x.number x.height
  -- and nothing that is held is below it
  pub least : x.refusal ≡ 0 → (m h : ℕ) → HoldsState b owner client m h → below (revision m h) (revision x.number x.height) ≡ false

-- of every call, on all bytes
abbrev pub OldestDemand : Type 0
OldestDemand = (b : List ℕ) (owner : ℕ) (client : List ℕ) (x : Pair) → OldestCall b owner client x → OldestSays b owner client x
