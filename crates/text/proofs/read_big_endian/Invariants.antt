-- `text::read_big_endian` meets its contract.
use mathlib.Core.Path.{◌≡◌}
use Prim.Native.Nat.{◌^◌, ◌<◌}
use lib.ListN.{drop}
use Rattle.text.specs.Number.{big_from}
use Rattle.text.proofs.read_big_endian.Given as goal

-- the bytes so far are those of v
abbrev pub invariant-loop-b : goal.invariant-loop-b
invariant-loop-b l = (l.v < 256 ^ l.b-index) × (big_from 0 l.b-items ≡ big_from l.v (drop l.b-index l.b-items))
