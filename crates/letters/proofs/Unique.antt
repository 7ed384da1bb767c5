-- The contract of each public function, as the source has it, leaves one outcome: the result, which for a part of the caller's text is its bytes and
-- where it points, and the content of the buffer that is lent.
-- Assumes nothing.
use mathlib.Core.Path.{sym, ◌∙◌}
use Rattle.text.specs.Outcome.{One, OneWith, OnePart}
use Rattle.text.specs.OutcomeLaws.{agree, one-part}
use Rattle.letters.proofs.character_at.Reads as character-at
use Rattle.letters.proofs.is_utf8.Reads as is-utf8
use Rattle.letters.proofs.class.is_letter.Reads as is-letter
use Rattle.letters.proofs.class.is_blank.Reads as is-blank
use Rattle.letters.proofs.picture.narrow.Reads as narrow
use Rattle.letters.proofs.check.wide_chars.Reads as wide-chars
use Rattle.letters.proofs.trim.wide_trim.Reads as wide-trim

pub one-character_at : One character-at.Post
one-character_at κs a r₁ r₂ s₁ s₂ p q = p ∙ sym q

pub one-is_utf8 : One is-utf8.Post
one-is_utf8 κs a r₁ r₂ s₁ s₂ p q = p ∙ sym q

pub one-is_letter : One is-letter.Post
one-is_letter κs a r₁ r₂ s₁ s₂ p q = p ∙ sym q

pub one-is_blank : One is-blank.Post
one-is_blank κs a r₁ r₂ s₁ s₂ p q = p ∙ sym q

pub one-narrow : OneWith narrow.Post (λ κs s. s.1.0.now)
one-narrow κs a r₁ r₂ s₁ s₂ p q = agree p q

pub one-wide_chars : One wide-chars.Post
one-wide_chars κs a r₁ r₂ s₁ s₂ p q = p ∙ sym q

pub one-wide_trim : OnePart wide-trim.Post
one-wide_trim κs a r₁ r₂ s₁ s₂ p q = one-part p q
