-- The numbered refusals of the book's calls: each given exactly when. A row below has the refusals before it, in the order of the documents,
-- denied in its premises: write 9, 23, 1, 2, 3 (17, 18, 19), 20, 10, 25, 6, 11; removal 9, 23, 1, 2, 3 (17, 18, 19), 20, 10, 12; lookup
-- 9, 23, 1, 2, 3 (17, 18, 19), 20, 10, 4, 12; a lenient call lacks 20. The rows of the call alone, between 9 and 11, stand in `book_records` (Refusals).
-- Assumes nothing.
use Rattle.std.specs.Prelude.{ℕ, List}
use Rattle.std.proofs.Math.Option.{none}
use Rattle.text.specs.Refusal.{bad_book}
use Rattle.text.specs.Refusal as refusal
use Rattle.book_records.specs.Records.{Key}
use Rattle.book_records.specs.Calls.{Call}
use Rattle.book_records.specs.Refusals.{GoodWrite, GoodRemoval, GoodLookup, Declined}
use Rattle.demands.specs.Held.{Full, Holds, ProperBook}

-- on the bytes b: no book; by the call alone; or by what the book holds
pub data Refused (b : List ℕ) (c : Call) : ℕ → Type 0 where
  bad_book_when : (ProperBook b → ⊥) → Refused b c bad_book
  declined : {n : ℕ} → ProperBook b → Declined c n → Refused b c n
  book_full : {k : Key} {v : List ℕ} → GoodWrite c k v → (h : Holds b k none) → Full h.book k → Refused b c refusal.full
  absent : {k : Key} → GoodRemoval c k → Holds b k none → Refused b c refusal.absent
  not_found : {k : Key} {room : ℕ} → GoodLookup c k room → Holds b k none → Refused b c refusal.absent
