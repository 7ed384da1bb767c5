-- Two outcomes that are both what one definition says are the same, and so are two parts that stand at one place.
-- Assumes nothing.
use Rattle.std.specs.Prelude.{ℕ, ◌≡◌, List}
use Rattle.std.proofs.Common.{sym, ◌∙◌}
use Rattle.std.specs.Borrow.{Bor}
use Rattle.text.specs.Outcome.{SamePart}
use Rattle.text.specs.Stands.{Stands}

pub agree : {A B : Type 0} {x y z : A} {u v w : B} → (x ≡ z) × (u ≡ w) → (y ≡ z) × (v ≡ w) → (x ≡ y) × (u ≡ v)
agree p q = (p.0 ∙ sym q.0, p.1 ∙ sym q.1)

pub one-part : {r q x : Bor (List ℕ)} {start : ℕ} {w : List ℕ} → Stands r x start w → Stands q x start w → SamePart r q
one-part e f = (e.bytes ∙ sym f.bytes, e.block ∙ sym f.block, e.offset ∙ sym f.offset)
