-- The values of a function on a run of numbers: a rule in the code is proved by having antt compute both on all of them, once.
-- Assumes nothing.
use Rattle.std.specs.Prelude.{◌≡◌, List, [], ◌∷◌, map, ℕ, zero, suc, ◌+◌, ◌≤◌, ◌<◌}
use Rattle.std.proofs.Common.{⊎_elim, eq-or-lt_of_le, arith}

-- what is none of the n numbers from i on, and not below them, is past them: the last arm of a `match`
abbrev pub NoneOf : ℕ → ℕ → ℕ → Type 0
NoneOf i zero x = Unit
NoneOf i (suc n) x = NoneOf i n x × (x ≡ i + n → ⊥)

pub past : (i n x : ℕ) → NoneOf i n x → i ≤ x → i + n ≤ x
past i zero x h l = omega arith
past i (suc n) x h l = let m = past i n x h.0 l in let k = h.1 in omega arith

-- the n numbers from i on; two functions whose tables over them are the same agree at each
abbrev pub span : ℕ → ℕ → List ℕ
span i zero = []
span i (suc n) = i ∷ span (suc i) n

pub agree_at : {A : Type 0} (f g : ℕ → A) (i n : ℕ) → map f (span i n) ≡ map g (span i n) → (k : ℕ) → i ≤ k → k < i + n → f k ≡ g k
agree_at f g i zero e k l h = absurd (omega arith)
agree_at f g i (suc n) e k l h =
    let head : f i ≡ g i = cc in
    let rest : map f (span (suc i) n) ≡ map g (span (suc i) n) = cc in
    ⊎_elim (λ q. rw (← q) head) (λ q. agree_at f g (suc i) n rest k (omega arith) (omega arith)) (eq-or-lt_of_le l)
