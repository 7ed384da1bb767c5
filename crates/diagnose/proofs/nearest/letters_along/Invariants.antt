-- `nearest::letters_along` meets its contract. The invariant: the sum so far and the letters of what is left are the letters of all.
use Prim.Native.Nat.{◌+◌, ◌*◌, ◌≤◌}
use mathlib.Core.Path.{◌≡◌}
use lib.ListN.{drop}
use Rattle.diagnose.specs.Diagnosis.{along, seven}
use Rattle.diagnose.specs.Table.{parts_in}
use Rattle.diagnose.proofs.nearest.letters_along.Given as goal

abbrev pub invariant-loop-k : goal.invariant-loop-k
invariant-loop-k l =
    (l.n ≤ 2) × (l.sum ≤ 256 * l.k)
    × (along l.times (drop l.at (parts_in l.kind.text.now)) (drop l.from (seven l.text.text.now)) ≡ l.sum + along l.n (drop (l.at + l.k) (parts_in l.kind.text.now)) (drop (l.from + l.k) (seven l.text.text.now)))
