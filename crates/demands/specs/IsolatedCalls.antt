-- Requests L10 and L13 of the generated contracts: of `hp_book_write`, `hp_book_remove` and `hp_book_lookup`, of the lenient three, of
-- `hp_book_oldest` and of `hp_book_clear`, in one list of both owners' calls. Isolation of the owners, and what a clearing may move past.
-- Assumes nothing.
use Rattle.std.specs.Prelude.{ℕ, List}
use Rattle.demands.specs.BookCalls.{Does, permits}
use Rattle.demands.specs.OldestCall.{OldestCall}
use Rattle.demands.specs.OldestCallLaws as finds
use Rattle.demands.specs.ClearCall.{ClearCall}
use Rattle.demands.specs.ClearCallLaws as clears
use Rattle.demands.specs.Isolation.{Any, Isolation}
use Rattle.demands.specs.IsolationLaws as laws
use Rattle.demands.specs.ClearMoves.{Moved, Moves}
use Rattle.demands.specs.ClearMovesLaws as moving

-- THE THEOREM
pub isolation : (x : Any Does OldestCall ClearCall) (o : ℕ) → Isolation Does OldestCall ClearCall x o
isolation x o = laws.isolation Does permits OldestCall (λ b p client q c. finds.outcome c) ClearCall (λ b p client keep n b₁ c. clears.outcome c) x o

-- THE THEOREM
pub moves : {owner : ℕ} {client : List ℕ} {keep : ℕ} (x : Moved Does OldestCall ClearCall owner client keep) → Moves Does OldestCall ClearCall x
moves x = moving.moves Does permits OldestCall (λ b p client q c. finds.outcome c) ClearCall (λ b p client keep n b₁ c. clears.outcome c) x
