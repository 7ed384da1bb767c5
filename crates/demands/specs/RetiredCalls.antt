-- Request L14 of the generated contracts: of `hp_book_write`, `hp_book_remove` and `hp_book_lookup` and of the lenient three, in one list of
-- both owners' calls.
-- Assumes nothing.
use Rattle.std.specs.Prelude.{ℕ, ◌≡◌, true, List}
use Rattle.book_records.specs.Records.{Key}
use Rattle.book_records.specs.Act.{Seen}
use Rattle.book_records.specs.Calls.{Call, is_retired}
use Rattle.demands.specs.BookCalls.{Does, each_call}
use Rattle.demands.specs.Retired.{RetiredCall, Any, RetiredStays}
use Rattle.demands.specs.RetiredLaws as laws

-- each call
pub retired_call : (b : List ℕ) (c : Call) (a : Seen) (b₁ : List ℕ) → Does b c a b₁ → RetiredCall b c a b₁
retired_call b c a b₁ d = laws.retired_call b c a b₁ (each_call b c a b₁ d)

-- THE THEOREM: no list of calls adds or changes a record of kind 8
pub retired_stays : (x : Any Does) (k : Key) → is_retired k ≡ true → RetiredStays Does x k
retired_stays x k r = laws.retired_stays Does each_call k r x
