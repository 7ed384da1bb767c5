-- The two modes of the calls: which texts are taken, the refusal of all others, and by which text the characters are told.
-- Assumes nothing.
use Rattle.std.specs.Prelude.{ℕ, Bool, List}
use Rattle.text.specs.Part.{ascii}
use Rattle.text.specs.Refusal.{not_ascii, bad_utf8}
use Rattle.letters.specs.Character.{utf8}
use Rattle.letters.specs.Narrow.{narrow}

pub record Mode : Type 0 where
  pub takes : List ℕ → Bool
  pub other : ℕ
  pub seen : List ℕ → List ℕ

-- ASCII, and the text itself
unfoldable pub plain : Mode
plain = record { takes = ascii; other = not_ascii; seen = λ t. t }

-- UTF-8, and the plain picture of the text
unfoldable pub wide : Mode
wide = record { takes = utf8; other = bad_utf8; seen = narrow }
