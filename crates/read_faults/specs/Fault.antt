-- What the search for a bad number answers of some kinds.
-- Assumes nothing.
use Rattle.std.specs.Prelude.{ℕ, Bool, false, ◌||◌, List, [], ◌∷◌, get_or}
use Rattle.path.specs.declared.Refusal.{Refusal}
use Rattle.path.specs.declared.Refusal.TheVariants.{TooLong, NotAscii, NotAPath, NoDigits, NotADigit, TooLarge}
use Rattle.path.specs.Kinds.{Kind}
use Rattle.path.specs.Read.{suits_kind}

-- the first fault, or that there is none
abbrev pub shown_first : List Refusal → Refusal
shown_first fs = get_or fs 0 NotAPath

-- the first of two
abbrev pub or_fault : Refusal → Refusal → Refusal
or_fault TooLong y = TooLong
or_fault NotAscii y = NotAscii
or_fault NotAPath y = y
or_fault (NoDigits i) y = NoDigits i
or_fault (NotADigit i) y = NotADigit i
or_fault (TooLarge i) y = TooLarge i

-- one of these kinds fits the text but for its numbers
abbrev pub some_suits : List Kind → List ℕ → Bool
some_suits [] t = false
some_suits (e ∷ es) t = suits_kind e t || some_suits es t
