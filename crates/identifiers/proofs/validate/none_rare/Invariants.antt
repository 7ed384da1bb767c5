-- `identifiers::validate::none_rare` meets its contract.
use mathlib.Core.Path.{◌≡◌}
use mathlib.Core.Bool.{true}
use lib.ListN.{take}
use Rattle.text.specs.Part.{every}
use Rattle.identifiers.specs.Check.{identifier_byte}
use Rattle.identifiers.proofs.validate.none_rare.Given as goal

-- where nothing more than 0 was seen, the bytes so far are identifier bytes
abbrev pub invariant-loop-b : goal.invariant-loop-b
invariant-loop-b l = l.most ≡ 0 → every identifier_byte (take l.b-index l.s) ≡ true
