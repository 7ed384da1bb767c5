-- Runs of functions that are known by their contracts alone: `Does b c a b₁` says that the call c, on the buffer b, may answer a and leave b₁.
-- Assumes nothing.
use Rattle.std.specs.Prelude.{List, [], ◌∷◌, ℕ, zero, suc}

pub data Runs {B Call Answer : Type 0} (Does : B → Call → Answer → B → Type 0) : B → List Call → List Answer → B → Type 0 where
  stop : {b : B} → Runs Does b [] [] b
  next : {b b₁ b₂ : B} {c : Call} {cs : List Call} {a : Answer} {rs : List Answer} → Does b c a b₁ → Runs Does b₁ cs rs b₂ → Runs Does b (c ∷ cs) (a ∷ rs) b₂

-- the buffer before the call at a position, and after the last call the buffer at the end
module _ {B Call Answer : Type 0} {Does : B → Call → Answer → B → Type 0} where
  unfoldable pub before : {b b₁ : B} {cs : List Call} {rs : List Answer} → Runs Does b cs rs b₁ → ℕ → B
  before (stop {b = b}) i = b
  before (next {b = b} d r) zero = b
  before (next d r) (suc i) = before r i
