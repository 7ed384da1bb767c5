-- The characters of a text without the white space at its ends.
-- Assumes nothing.
use Rattle.std.specs.Prelude.{Bool, false, cond, List, [], ◌∷◌, ltb, Some, None}
use Rattle.identifiers.specs.Owned.{blank}
use Rattle.letters.specs.Class.{is_blank}
use Rattle.letters.specs.Character.{Character}

-- white space: of ASCII 9 to 13 and 32, beyond it what the table has
unfoldable pub white : Character → Bool
white (Some c) = cond (ltb c.value 128) (blank c.value) (is_blank c.value)
white None = false

-- without what is white at the start
unfoldable pub trim_front : List Character → List Character
trim_front [] = []
trim_front (c ∷ cs) = cond (white c) (trim_front cs) (c ∷ cs)

-- a character in front of what is left of those behind it
abbrev pub keep_first : Character → List Character → List Character
keep_first c [] = cond (white c) [] (c ∷ [])
keep_first c (d ∷ ds) = c ∷ (d ∷ ds)

-- without what is white at the end
unfoldable pub trim_back : List Character → List Character
trim_back [] = []
trim_back (c ∷ cs) = keep_first c (trim_back cs)
