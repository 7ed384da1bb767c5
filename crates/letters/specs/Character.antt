-- The characters of a text, by UTF-8 as Rust's `str` has it: no overlong form, no surrogate, nothing above 1114111.
-- Assumes nothing.
use Rattle.std.specs.Prelude.{ℕ, zero, suc, ◌+◌, ◌*◌, ◌-◌, Bool, true, false, cond, not, ◌&&◌, List, [], ◌∷◌, ltb, leb, Option, Some, None}
use Rattle.letters.specs.declared.CodePoint.{CodePoint}

-- a character, or none where a byte begins none
abbrev pub Character : Type 0
Character = Option CodePoint

abbrev pub point : ℕ → ℕ → Character
point v n = Some (record { value = v; size = n })

-- a byte that goes on with a character
abbrev pub further : ℕ → Bool
further b = leb 128 b && leb b 191

-- the value v of a character is no overlong form, since shorter forms end below `least`; no surrogate; and not above 1114111
abbrev pub proper : ℕ → ℕ → Bool
proper least v = leb least v && (not (leb 55296 v && leb v 57343) && leb v 1114111)

-- the character of `size` bytes, of which n are still to come, each with six bits more of the value
unfoldable pub goes_on : ℕ → ℕ → ℕ → ℕ → List ℕ → Character
goes_on zero size least v s = cond (proper least v) (point v size) None
goes_on (suc n) size least v [] = None
goes_on (suc n) size least v (b ∷ s) = cond (further b) (goes_on n size least (v * 64 + (b - 128)) s) None

-- the first character of a text: its first byte tells how many follow
unfoldable pub character_of : List ℕ → Character
character_of [] = None
character_of (b ∷ s) =
    cond (ltb b 128) (point b 1)
    (cond (ltb b 192) None
    (cond (ltb b 224) (goes_on 1 2 128 (b - 192) s)
    (cond (ltb b 240) (goes_on 2 3 2048 (b - 224) s)
    (cond (ltb b 248) (goes_on 3 4 65536 (b - 240) s) None))))

-- how many bytes of the text it takes: where none begins, the one byte is passed over
abbrev pub size_of : Character → ℕ
size_of (Some c) = c.size
size_of None = 1

abbrev pub whole : Character → Bool
whole (Some c) = true
whole None = false

-- the characters of what is left of a text, after k bytes that belong to the character before them
unfoldable pub characters_from : ℕ → List ℕ → List Character
characters_from zero [] = []
characters_from (suc k) [] = []
characters_from zero (b ∷ s) = let c = character_of (b ∷ s) in c ∷ characters_from (size_of c - 1) s
characters_from (suc k) (b ∷ s) = characters_from k s

unfoldable pub characters : List ℕ → List Character
characters t = characters_from 0 t

-- each character passes the test
unfoldable pub each : (Character → Bool) → List Character → Bool
each f [] = true
each f (c ∷ cs) = f c && each f cs

-- the text is UTF-8
unfoldable pub utf8 : List ℕ → Bool
utf8 t = each whole (characters t)
