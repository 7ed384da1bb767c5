-- `identifiers::validate::length_within` meets its contract.
use mathlib.Core.Path.{sym}
use native.Mathlib.Omega.{arith}
use Rattle.identifiers.specs.CheckLaws.{within-less, within_more, within_both}
use Rattle.identifiers.proofs.validate.length_within.Goals as goal

pub returns-then-n-least : goal.returns-then-n-least
returns-then-n-least c = sym (within-less _ _ _ (omega arith))

pub returns-then-most-n : goal.returns-then-most-n
returns-then-most-n c = sym (within_more _ _ _ (omega arith) (omega arith))

pub returns : goal.returns
returns c = sym (within_both _ _ _ (omega arith) (omega arith))
