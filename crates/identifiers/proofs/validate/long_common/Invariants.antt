-- `identifiers::validate::long_common` meets its contract.
use mathlib.Core.Path.{◌≡◌}
use mathlib.Core.Bool.{true}
use Prim.Native.Nat.{◌-◌}
use lib.ListN.{take}
use Rattle.text.specs.Part.{every}
use Rattle.identifiers.specs.Check.{identifier_byte}
use Rattle.identifiers.proofs.validate.long_common.Given as goal

-- what stands before i has identifier bytes only
abbrev pub invariant-loop-i : goal.invariant-loop-i
invariant-loop-i l = every identifier_byte (take l.i l.id) ≡ true

abbrev pub decreases-loop-i : goal.decreases-loop-i
decreases-loop-i l = l.last - l.i
