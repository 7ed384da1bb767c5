-- Laws of what a lookup answers and shows.
-- Assumes nothing.
use Rattle.std.specs.Prelude.{◌≡◌, refl, List, ℕ, length, take, drop}
use Rattle.std.proofs.Common.{ap, ◌∙◌, take_at}
use Rattle.text.specs.PutLaws.{put-zero}
use Rattle.book_records.specs.Act.{Answer, says, done, gives, seen}
use Rattle.book.specs.Outcome.{written_by, shown}

pub written-number : (a : Answer) → (written_by a).refusal ≡ (seen a).number
written-number (says n) = refl
written-number done = refl
written-number (gives v) = refl

pub written-zero : (a : Answer) → ((written_by a).refusal ≡ 0 → ⊥) → (written_by a).length ≡ 0
written-zero (says n) z = refl
written-zero done z = refl
written-zero (gives v) z = absurd (z refl)

-- as many bytes as it answers are the value
pub written-shown : (a : Answer) (out : List ℕ) → take (written_by a).length (shown a out) ≡ (seen a).value
written-shown (says n) out = refl
written-shown done out = refl
written-shown (gives v) out = ap (λ (l : List ℕ). take (length v) l) (put-zero out v) ∙ take_at v (drop (length v) out) (length v) refl
