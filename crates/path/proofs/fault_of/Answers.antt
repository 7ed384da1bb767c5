-- `path::fault_of` meets its contract: each arm answers for the case that it took.
use mathlib.Core.Path.{◌≡◌, sym, ap}
use Rattle.path.specs.declared.Refusal.{Refusal}
use Rattle.path.specs.Read.{as_fault}
use Rattle.path.proofs.fault_of.Goals as goal

answers : (p q : Refusal) → p ≡ q → as_fault q ≡ as_fault p
answers p q e = ap as_fault (sym e)

pub returns-in-TooLong : goal.returns-in-TooLong
returns-in-TooLong c = answers _ _ c.in-TooLong.is

pub returns-in-NotAscii : goal.returns-in-NotAscii
returns-in-NotAscii c = answers _ _ c.in-NotAscii.is

pub returns-in-NotAPath : goal.returns-in-NotAPath
returns-in-NotAPath c = answers _ _ c.in-NotAPath.is

pub returns-in-NoDigits : goal.returns-in-NoDigits
returns-in-NoDigits c = answers _ _ c.in-NoDigits.is

pub returns-in-NotADigit : goal.returns-in-NotADigit
returns-in-NotADigit c = answers _ _ c.in-NotADigit.is

pub returns-in-TooLarge : goal.returns-in-TooLarge
returns-in-TooLarge c = answers _ _ c.in-TooLarge.is
