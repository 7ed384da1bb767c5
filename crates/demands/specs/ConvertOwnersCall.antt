-- `hp_book_convert_owners` makes a book of version 3 with the slots and the records of a book of version 2, all of them owner 1's, and with
-- the quotas that it is given; so every lookup of owner 1 gives what the old book held, also where that was converted from version 1, and
-- owner 2 holds nothing. And it is refused exactly when.
-- Assumes nothing.
use Rattle.std.specs.Prelude.{ℕ, ◌+◌, ◌<◌, ◌≤◌, ◌≡◌, List, ◌∷◌, ◌↔◌, ◌⊎◌, length}
use Rattle.std.proofs.Math.Option.{Option, none, some}
use contract.Lifetimes.{Lfts}
use borrow.Fn.World.{ArgsD, ResD}
use borrow.Fn.Kinds.{ended_of}
use denote.Triple.Clauses.{AtExit}
use Rattle.text.specs.declared.Written.{Written}
use Rattle.text.specs.Put.{refusal}
use Rattle.text.specs.Refusal.{bad_book, no_room, full, absent}
use Rattle.book_records.specs.Records.{get}
use Rattle.book_records.specs.Calls.{look}
use Rattle.book_records.specs.declared.Manner.{Manner}
use Rattle.book_records.specs.Refusals.{GoodLookup}
use Rattle.book_form.specs.Version.{V1, V2}
use Rattle.book.specs.Book.{Current, Book, quota_in}
use Rattle.demands.specs.Held.{ProperBook, Holds}
use Rattle.demands.specs.Written.{Done}
use Rattle.demands.specs.BookCalls.{Looks}
use Rattle.demands.specs.ConvertCall.{SameSlots, Converts}
use Rattle.hostpath.specs.contracts.hp_book_convert_owners as v
use Rattle.hostpath.proofs.hp_book_convert_owners.Kinds as vk
use Rattle.hostpath.proofs.hp_book_convert_owners.Reads as vr

-- one call: its buffers before and after, its quotas and its result by name, and what its contract ensures
pub record ConvertsOwners (old new : List ℕ) (one two : ℕ) (r : ℕ) (new₁ : List ℕ) : Type 0 where
  pub lifetimes : Lfts 2
  pub args : ArgsD v.signature lifetimes
  pub result : ResD v.signature lifetimes
  pub exits : AtExit (ended_of 2 vk.ps vk.r) lifetimes
  pub old_in : args.0.now ≡ old
  pub new_in : args.1.0.now ≡ new
  pub one_in : args.1.1.0 ≡ one
  pub two_in : args.1.1.1.0 ≡ two
  pub number_out : result ≡ r
  pub new_out : exits.1.0.now ≡ new₁
  pub ensures : vr.Post lifetimes args result exits

-- the quotas sum to more than the slots of the old book, or it has more records than owner 1's quota
abbrev pub TooMany : {old : List ℕ} → Book V2 old → ℕ → ℕ → Type 0
TooMany x one two = (x.slots < one + two) ⊎ (one < length x.records)

-- a lookup gives what is held: the value, or 12
abbrev pub Gives : Option (List ℕ) → Written → List ℕ → Type 0
Gives (some u) w out₁ = Done u w out₁
Gives none w out₁ = w ≡ refusal absent

-- lookups in the new book that their text and room do not refuse: owner 1's of a text with the rendering k give what `held k` says, and
-- owner 2's say 12
pub record LooksUp (new : List ℕ) (held : List ℕ → Option (List ℕ)) : Type 0 where
  pub ones : (m : Manner) (t out : List ℕ) (w : Written) (out₁ : List ℕ) → Looks m new 1 t out w out₁
      → (k : List ℕ) → GoodLookup (look m 1 t (length out)) (1 ∷ k) (length out) → Gives (held k) w out₁
  pub twos : (m : Manner) (t out : List ℕ) (w : Written) (out₁ : List ℕ) → Looks m new 2 t out w out₁
      → (k : List ℕ) → GoodLookup (look m 2 t (length out)) (2 ∷ k) (length out) → w ≡ refusal absent

pub record OwnersConversion (old new : List ℕ) (one two : ℕ) (r : ℕ) (new₁ : List ℕ) : Type 0 where
  -- each answer exactly when
  pub bad_book_when : (r ≡ bad_book) ↔ (Book V2 old → ⊥)
  pub no_room_when : (r ≡ no_room) ↔ ((x : Book V2 old) × (SameSlots Current x new → ⊥))
  pub too_many : (r ≡ full) ↔ ((x : Book V2 old) × SameSlots Current x new × TooMany x one two)
  pub done : (r ≡ 0) ↔ ((x : Book V2 old) × SameSlots Current x new × (one + two ≤ x.slots) × (length x.records ≤ one))
  -- the new bytes are a book with the slots of the old one and these quotas, in which owner 1 holds what the old one held, and owner 2 nothing
  pub new_book : r ≡ 0 → (x : Book V2 old) → (y : ProperBook new₁) × (y.slots ≡ x.slots) × (quota_in y 1 ≡ one) × (quota_in y 2 ≡ two) × (length y.records ≡ length x.records)
  pub ones : r ≡ 0 → (x : Book V2 old) (k : List ℕ) → Holds new₁ (1 ∷ k) (get x.records k)
  pub twos : r ≡ 0 → (x : Book V2 old) (k : List ℕ) → Holds new₁ (2 ∷ k) none
  -- so lookups say
  pub lookups : r ≡ 0 → (x : Book V2 old) → LooksUp new₁ (get x.records)

pub record ConvertOwnersDemand : Type 0 where
  pub each : (old new : List ℕ) (one two : ℕ) (r : ℕ) (new₁ : List ℕ) → ConvertsOwners old new one two r new₁ → OwnersConversion old new one two r new₁
  -- what the second buffer held has no influence
  pub whatever_held : (old new new' : List ℕ) (one two : ℕ) (r r' : ℕ) (new₁ new₁' : List ℕ) → ConvertsOwners old new one two r new₁ → ConvertsOwners old new' one two r' new₁'
      → length new ≡ length new' → (r ≡ r') × (r ≡ 0 → new₁ ≡ new₁')
  -- what request L4 asks of lookups, after both conversions: a book of version 1 into one of version 2, and that into one of version 3
  pub after_both : (old mid : List ℕ) (r : ℕ) (mid₁ : List ℕ) → Converts old mid r mid₁ → r ≡ 0
      → (new : List ℕ) (one two : ℕ) (q : ℕ) (new₁ : List ℕ) → ConvertsOwners mid₁ new one two q new₁ → q ≡ 0
      → (x : Book V1 old) → LooksUp new₁ (get x.records)
