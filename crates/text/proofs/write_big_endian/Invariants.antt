-- `text::write_big_endian` meets its contract.
use mathlib.Core.Path.{◌≡◌}
use mathlib.Core.List.{◌++◌}
use Prim.Native.Nat.{◌+◌}
use lib.ListN.{take, drop}
use Rattle.text.specs.Number.{big_endian}
use Rattle.text.proofs.write_big_endian.Given as goal

-- the text that is to be there is what stands there, with the j bytes that are left put in
abbrev pub invariant-loop-j : goal.invariant-loop-j
invariant-loop-j l =
    take l.at l.initial.out ++ (big_endian l.width l.v ++ drop (l.at + l.width) l.initial.out) ≡ take l.at l.out ++ (big_endian l.j l.m ++ drop (l.at + l.j) l.out)
