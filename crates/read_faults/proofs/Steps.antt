-- What the case of an answer that a match took tells.
-- Assumes nothing.
use mathlib.Core.Path.{◌≡◌, refl}
use Rattle.path.specs.declared.Refusal.{Refusal}
use Rattle.path.specs.declared.Refusal.TheVariants.{TooLong, NotAscii, NotAPath, NoDigits as WithoutDigits, NotADigit as WithoutDigit, TooLarge as AboveAll}
use Rattle.read_faults.specs.Fault.{or_fault}

-- a refusal of another case is the first of two
pub some-fault : (r x : Refusal) → (r ≡ NotAPath → ⊥) → r ≡ or_fault r x
some-fault TooLong x h = refl
some-fault NotAscii x h = refl
some-fault NotAPath x h = absurd (h refl)
some-fault (WithoutDigits i) x h = refl
some-fault (WithoutDigit i) x h = refl
some-fault (AboveAll i) x h = refl
