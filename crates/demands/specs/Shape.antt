-- What demand 1 says of a call, over the shape of its contract.
-- Assumes nothing.
use Rattle.std.specs.Prelude.{ℕ, ◌≡◌, Bool, true, ◌||◌, List, [], ◌∷◌, eqb}
use Rattle.std.specs.declared.result.Result.{Result}
use Rattle.std.specs.declared.result.Result.TheVariants.{Ok, Err}

-- 0, or one of the numbers listed for a call
abbrev pub one_of : List ℕ → ℕ → Bool
one_of [] n = eqb n 0
one_of (x ∷ xs) n = eqb n x || one_of xs n

abbrev pub Listed : List ℕ → ℕ → Type 0
Listed ns n = one_of ns n ≡ true

abbrev pub AllZero : List ℕ → Type 0
AllZero [] = Unit {0}
AllZero (n ∷ ns) = (n ≡ 0) × AllZero ns

-- what a call answers that makes something or refuses: its number, 0 where it makes it, and the numbers of what it makes
abbrev pub number_in : {X E : Type 0} → (E → ℕ) → Result X E → ℕ
number_in f (Ok x) = 0
number_in f (Err e) = f e

abbrev pub others_in : {X E : Type 0} → (X → List ℕ) → Result X E → List ℕ
others_in g (Ok x) = g x
others_in g (Err e) = []

-- A contract as Rattle makes it of the source: what it asks of the caller, and what it ensures, of lifetimes, arguments, result, and the
-- parameters at exit. Of the result are shown its refusal number and its other numbers; of the buffer that is lent to be written, if there is
-- one, the bytes before and after.
module _ {L : Type 0} {A R S : L → Type 0} (Pre : (κs : L) → A κs → Type 0) (Post : (κs : L) → A κs → R κs → S κs → Type 0)
    (listed : List ℕ) (refusal : (κs : L) → R κs → ℕ) (others : (κs : L) → R κs → List ℕ) (before : (κs : L) → A κs → List ℕ) (after : (κs : L) → S κs → List ℕ) where
  pub record Demand1 : Type 0 where
    -- "Every call accepts all bytes and numbers .."
    pub accepts : (κs : L) (a : A κs) → Pre κs a
    -- ".. and comes back with an answer or a numbered refusal." Its number is listed for the call; its length, numbers and value are 0.
    pub numbered : (κs : L) (a : A κs) (r : R κs) (s : S κs) → Post κs a r s → Listed listed (refusal κs r)
    pub nothing_else : (κs : L) (a : A κs) (r : R κs) (s : S κs) → Post κs a r s → (refusal κs r ≡ 0 → ⊥) → AllZero (others κs r)
    -- "A refusal changes no byte of any buffer lent to it."
    pub keeps : (κs : L) (a : A κs) (r : R κs) (s : S κs) → Post κs a r s → (refusal κs r ≡ 0 → ⊥) → after κs s ≡ before κs a
