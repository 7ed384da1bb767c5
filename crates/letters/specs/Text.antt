-- What is asked of a text by its picture: its characters, and the white space at its ends.
-- Assumes nothing.
use Rattle.std.specs.Prelude.{ℕ, ◌-◌, List, length, take, drop}
use Rattle.text.specs.Part.{every}
use Rattle.text.specs.Refusal.{bad_char, bad_utf8}
use Rattle.identifiers.specs.Check.{first, unless, identifier_byte}
use Rattle.identifiers.specs.Owned.{trim_start, trim}
use Rattle.letters.specs.Character.{utf8}
use Rattle.letters.specs.Narrow.{narrow}

-- 21, then 5: each character is a letter, a number or one of . _ + - # [ ] < >
unfoldable pub wide_chars : List ℕ → ℕ
wide_chars t = first (unless bad_utf8 (utf8 t)) (unless bad_char (every identifier_byte (narrow t)))

-- how many bytes of white space the text begins with
unfoldable pub leading : List ℕ → ℕ
leading t = length (narrow t) - length (trim_start (narrow t))

-- the text without the white space at its ends: the part of it that stands where the trimmed picture does
unfoldable pub wide_trim : List ℕ → List ℕ
wide_trim t = take (length (trim (narrow t))) (drop (leading t) t)
