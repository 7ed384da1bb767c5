-- The plain picture of a text: an ASCII text of the same length, whose bytes stand for the characters of the text.
-- Assumes nothing.
use Rattle.std.specs.Prelude.{ℕ, cond, List, [], ◌∷◌, ◌++◌, ltb, replicate, Some, None}
use Rattle.letters.specs.Character.{Character, size_of, characters}
use Rattle.letters.specs.Class.{is_letter, is_blank}

-- what stands for a character beyond ASCII: `Z` for a letter or number, ` ` for white space, `!` for any other. No word, number or
-- separator of a path has one of the three
unfoldable pub mark_of : ℕ → ℕ
mark_of v = cond (is_letter v) 90 (cond (is_blank v) 32 33)

-- a character of ASCII stands for itself
abbrev pub seen_as : Character → ℕ
seen_as (Some c) = cond (ltb c.value 128) c.value (mark_of c.value)
seen_as None = 33

-- as many bytes as the character has
abbrev pub picture : Character → List ℕ
picture c = replicate (size_of c) (seen_as c)

unfoldable pub pictures : List Character → List ℕ
pictures [] = []
pictures (c ∷ cs) = picture c ++ pictures cs

unfoldable pub narrow : List ℕ → List ℕ
narrow t = pictures (characters t)
