-- Examples of characters, tables and pictures, computed.
-- Assumes nothing.
use Rattle.std.specs.Prelude.{None}
use mathlib.Core.Path.{◌≡◌, refl}
use mathlib.Core.Bool.{true, false}
use mathlib.Core.List.{[], ◌∷◌}
use Rattle.text.specs.Bytes.{bytes}
use Rattle.letters.specs.Character.{point, goes_on, character_of, characters_from, characters, each, utf8}
use Rattle.letters.specs.Table.{part1, part2, part3, part4, letters, blanks}
use Rattle.letters.specs.Class.{inside, is_letter, is_blank}
use Rattle.letters.specs.Narrow.{mark_of, pictures, narrow}

-- Greek `λ`, a dash, Han `漢`, and the digit 𝟗 of four bytes
four-sizes : characters (206 ∷ 187 ∷ 45 ∷ 230 ∷ 188 ∷ 162 ∷ 240 ∷ 157 ∷ 159 ∷ 151 ∷ []) ≡ point 955 2 ∷ point 45 1 ∷ point 28450 3 ∷ point 120791 4 ∷ []
unfolding characters characters_from character_of goes_on
four-sizes = refl

-- the first surrogate; `/` in two bytes and in three; 1114111 and 1114112; a character that is cut short; a byte that none begins with
surrogate : utf8 (237 ∷ 160 ∷ 128 ∷ []) ≡ false
unfolding utf8 each characters characters_from character_of goes_on
surrogate = refl

before_surrogates : utf8 (237 ∷ 159 ∷ 191 ∷ []) ≡ true
unfolding utf8 each characters characters_from character_of goes_on
before_surrogates = refl

overlong-two : utf8 (192 ∷ 175 ∷ []) ≡ false
unfolding utf8 each characters characters_from character_of goes_on
overlong-two = refl

overlong-three : utf8 (224 ∷ 128 ∷ 175 ∷ []) ≡ false
unfolding utf8 each characters characters_from character_of goes_on
overlong-three = refl

last : characters (244 ∷ 143 ∷ 191 ∷ 191 ∷ []) ≡ point 1114111 4 ∷ []
unfolding characters characters_from character_of goes_on
last = refl

past-last : characters (244 ∷ 144 ∷ 128 ∷ 128 ∷ []) ≡ None ∷ None ∷ None ∷ None ∷ []
unfolding characters characters_from character_of goes_on
past-last = refl

cut_short : characters (97 ∷ 206 ∷ 47 ∷ []) ≡ point 97 1 ∷ None ∷ point 47 1 ∷ []
unfolding characters characters_from character_of goes_on
cut_short = refl

never_first : characters (255 ∷ []) ≡ None ∷ []
unfolding characters characters_from character_of goes_on
never_first = refl

-- `aλ漢`, an ideographic space and `€`
picture_of : narrow (97 ∷ 206 ∷ 187 ∷ 230 ∷ 188 ∷ 162 ∷ 227 ∷ 128 ∷ 128 ∷ 226 ∷ 130 ∷ 172 ∷ []) ≡ bytes "aZZZZZ   !!!"
unfolding narrow pictures mark_of is_letter is_blank inside letters part1 part2 part3 part4 blanks characters characters_from character_of goes_on
picture_of = refl
