-- `book_clear::stretch::note_slots` meets its contract.
use Rattle.std.proofs.Common.{◌≡◌, ◌<◌, length}
use Rattle.book_clear.specs.Notes.{NotedFrom}
use Rattle.book_clear.proofs.stretch.note_slots.Given as goal

abbrev pub invariant-loop-i : goal.invariant-loop-i
invariant-loop-i l = (l.fn.slots.end < l.fn.slots.start → l.i ≡ l.fn.slots.start) × (length l.roles ≡ 200) × NotedFrom l.book l.client l.fn.slots.start l.i l.roles
