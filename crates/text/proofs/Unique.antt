-- The contract of each public function, as the source has it, leaves one outcome: the result, and the content of the buffer that is lent.
-- Assumes nothing.
use mathlib.Core.Path.{◌≡◌, refl, sym, ◌∙◌}
use mathlib.Core.Bool.{Bool, true, false}
use Prim.Native.Nat.{ℕ, ◌≤◌, ◌<◌}
use native.Mathlib.Omega.{arith}
use Rattle.text.specs.Outcome.{One, OneWith}
use Rattle.text.specs.OutcomeLaws.{agree}
use Rattle.text.proofs.over.Reads as over
use Rattle.text.proofs.read_number.Reads as read_number
use Rattle.text.proofs.numeral_fault.Reads as numeral-fault
use Rattle.text.proofs.number_width.Reads as number-width
use Rattle.text.proofs.write_number.Reads as write-number
use Rattle.text.proofs.write_big_endian.Reads as write-big-endian
use Rattle.text.proofs.read_big_endian.Reads as read-big-endian
use Rattle.text.proofs.part.eight.Reads as eight
use Rattle.text.proofs.part.all_ascii.Reads as all_ascii
use Rattle.text.proofs.part.same_at.Reads as same_at
use Rattle.text.proofs.part.equal.Reads as equal
use Rattle.text.proofs.put.write_byte.Reads as write_byte
use Rattle.text.proofs.put.write_text.Reads as write-text
use Rattle.text.proofs.put.give.Reads as give

-- a test that is true above a limit, and false up to it
one-test : (m n : ℕ) (r₁ r₂ : Bool) → (r₁ ≡ true → m < n) × (r₁ ≡ false → n ≤ m) → (r₂ ≡ true → m < n) × (r₂ ≡ false → n ≤ m) → r₁ ≡ r₂
one-test m n true true p q = refl
one-test m n true false p q = absurd (omega (arith, p.0 refl, q.1 refl))
one-test m n false true p q = absurd (omega (arith, q.0 refl, p.1 refl))
one-test m n false false p q = refl

pub one-over : One over.Post
one-over κs a r₁ r₂ s₁ s₂ p q = one-test _ _ r₁ r₂ p q

pub one-read_number : One read_number.Post
one-read_number κs a r₁ r₂ s₁ s₂ p q = p ∙ sym q

pub one-numeral_fault : One numeral-fault.Post
one-numeral_fault κs a r₁ r₂ s₁ s₂ p q = p ∙ sym q

pub one-number_width : One number-width.Post
one-number_width κs a r₁ r₂ s₁ s₂ p q = p ∙ sym q

pub one-write_number : OneWith write-number.Post (λ κs s. s.0.now)
one-write_number κs a r₁ r₂ s₁ s₂ p q = agree p q

pub one-write_big_endian : OneWith write-big-endian.Post (λ κs s. s.0.now)
one-write_big_endian κs a r₁ r₂ s₁ s₂ p q = agree p q

pub one-read_big_endian : One read-big-endian.Post
one-read_big_endian κs a r₁ r₂ s₁ s₂ p q = p ∙ sym q

pub one-eight : One eight.Post
one-eight κs a r₁ r₂ s₁ s₂ p q = p.0 ∙ sym q.0

pub one-all_ascii : One all_ascii.Post
one-all_ascii κs a r₁ r₂ s₁ s₂ p q = p ∙ sym q

pub one-same_at : One same_at.Post
one-same_at κs a r₁ r₂ s₁ s₂ p q = p ∙ sym q

pub one-equal : One equal.Post
one-equal κs a r₁ r₂ s₁ s₂ p q = p ∙ sym q

pub one-write_byte : OneWith write_byte.Post (λ κs s. s.0.now)
one-write_byte κs a r₁ r₂ s₁ s₂ p q = agree p q

pub one-write_text : OneWith write-text.Post (λ κs s. s.0.now)
one-write_text κs a r₁ r₂ s₁ s₂ p q = agree p q

pub one-give : OneWith give.Post (λ κs s. s.0.now)
one-give κs a r₁ r₂ s₁ s₂ p q = agree p q
