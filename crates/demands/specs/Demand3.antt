-- Demand 3, sentence by sentence, of any functions: `Does b c a b₁` says that the call c, made on the bytes b, may be answered by a and
-- leave the bytes b₁. What a call and its path are is said in `book_records` (Calls), a proper book in `book` (Book), document 01's refusals in
-- `book_records` and here (Refusals).
-- Assumes nothing.
use Rattle.std.specs.Prelude.{ℕ, ◌<◌, ◌≡◌, ◌↔◌, ◌⊎◌, List, length}
use Rattle.std.proofs.Math.Option.{Option, none, some}
use Rattle.std.proofs.Math.ListN.{get_elem?}
use Rattle.runs.specs.Rearranged.{Rearranged}
use Rattle.runs.specs.Runs.{Runs, before}
use Rattle.book_records.specs.Records.{Key}
use Rattle.book_records.specs.Act.{Seen}
use Rattle.book_records.specs.Refusals.{GoodLookup}
use Rattle.book_records.specs.Calls.{Call, PathOf, SamePath}
use Rattle.demands.specs.Held.{Room, Holds, Looks, Accepted, leaves, ProperBook}
use Rattle.demands.specs.Refusals.{Refused}

module _ (Does : List ℕ → Call → Seen → List ℕ → Type 0) where
  -- "Take a list of writes, removals and lookups on one proper book that has at least as many free slots as the list has writes."
  pub record Taken : Type 0 where
    pub calls : List Call
    pub start : List ℕ
    pub book : ProperBook start
    pub room : Room book calls
    pub answers : List Seen
    pub end : List ℕ
    pub run : Runs Does start calls answers end

  module _ (x : Taken) where
    -- "Rearrange it in any way that keeps calls on the same path in their order." The other list is run on the same book.
    pub record Again : Type 0 where
      pub calls : List Call
      pub moved : Rearranged SamePath x.calls calls
      pub answers : List Seen
      pub end : List ℕ
      pub run : Runs Does x.start calls answers end

    -- the call at position i, with its answer; and the bytes of the book at that point
    pub record Made (i : ℕ) : Type 0 where
      pub call : Call
      pub answer : Seen
      pub there : get_elem? x.calls i ≡ some call
      pub said : get_elem? x.answers i ≡ some answer

    abbrev pub point : ℕ → List ℕ
    point i = before x.run i

    -- at position i an accepted write or removal of the path k
    pub record AcceptedAt (k : Key) (i : ℕ) : Type 0 where
      pub made : Made i
      pub path : PathOf made.call k
      pub accepted : Accepted made.call made.answer

    -- .. and that is its last one
    pub record LastAt (k : Key) (i : ℕ) : Type 0 where
      pub here : AcceptedAt k i
      pub none_later : (j : ℕ) → i < j → AcceptedAt k j → ⊥

    pub record Demand3 : Type 0 where
      -- "Every call gets the same answer, .."
      pub same_answers : (y : Again) (i : ℕ) → i < length x.calls → get_elem? y.answers (y.moved.to i) ≡ get_elem? x.answers i
      -- ".. a refusal exactly when document 01 says so, .."
      pub refused_exactly : (i : ℕ) (m : Made i) (n : ℕ) → (n ≡ 0 → ⊥) → (m.answer.number ≡ n) ↔ Refused (point i) m.call n
      pub never_bad_book : (i : ℕ) (m : Made i) → m.answer.number ≡ 9 → ⊥
      pub never_full : (i : ℕ) (m : Made i) → m.answer.number ≡ 11 → ⊥
      -- ".. and the book ends with the same bytes, .."
      pub same_bytes : (y : Again) → y.end ≡ x.end
      pub stays_a_book : ProperBook x.end
      pub same_size : length x.end ≡ length x.start
      -- ".. in which each path that had an accepted write or removal holds its last accepted write, or nothing if an accepted removal
      -- came after, .."
      pub last_accepted : (k : Key) (i : ℕ) (u : LastAt k i) → Holds x.end k (leaves u.here.made.call)
      -- ".. and every other path what it held at the start."
      pub others_keep : (k : Key) → ((i : ℕ) → AcceptedAt k i → ⊥) → (o : Option (List ℕ)) → Holds x.start k o → Holds x.end k o
      -- (each path is of the one sort or of the other)
      pub each_path : (k : Key) → ((i : ℕ) × LastAt k i) ⊎ ((i : ℕ) → AcceptedAt k i → ⊥)
      -- "A lookup that is not refused gives what its path holds at that point, .."
      pub lookup_gives : (i : ℕ) (m : Made i) → Looks m.call → m.answer.number ≡ 0
          → (k : Key) × PathOf m.call k × Holds (point i) k (some m.answer.value)
      -- ".. and 12 says that it holds nothing."
      pub twelve_says : (i : ℕ) (m : Made i) → Looks m.call → m.answer.number ≡ 12
          → (k : Key) × PathOf m.call k × Holds (point i) k none
      -- (and where it holds nothing, a lookup that its own text and room do not refuse says 12)
      pub twelve_when : (i : ℕ) (m : Made i) (k : Key) (room : ℕ) → GoodLookup m.call k room → Holds (point i) k none → m.answer.number ≡ 12
      -- "Texts with the same rendering are the same path." is `SamePath`.
