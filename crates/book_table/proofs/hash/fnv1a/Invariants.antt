-- `book_table::hash::fnv1a` meets its contract.
use Rattle.std.proofs.Common.{◌≡◌, ◌∷◌, drop}
use Rattle.book_table.specs.Hash.{fnv, fnv_from}
use Rattle.book_table.proofs.hash.fnv1a.Given as goal

abbrev pub invariant-loop-b : goal.invariant-loop-b
invariant-loop-b l = fnv (l.first ∷ l.s) ≡ fnv_from l.h (drop l.b-index l.s)
