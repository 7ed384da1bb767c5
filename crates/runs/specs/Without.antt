-- A list of calls with some of them left out, and the answers to those that stay.
-- Assumes nothing.
use Rattle.std.specs.Prelude.{◌≡◌, refl, Bool, cond, List, [], ◌∷◌, ℕ, eqb}

module _ {Call : Type 0} (out : Call → Bool) where
  unfoldable pub without : List Call → List Call
  without [] = []
  without (c ∷ cs) = cond (out c) (without cs) (c ∷ without cs)

  -- the answers of a list of calls, but for those to the calls that are left out
  unfoldable pub answers_without : {Answer : Type 0} → List Call → List Answer → List Answer
  answers_without [] zs = []
  answers_without (c ∷ cs) [] = []
  answers_without (c ∷ cs) (a ∷ zs) = cond (out c) (answers_without cs zs) (a ∷ answers_without cs zs)

no_sevens : without (λ c. eqb c 7) (7 ∷ 8 ∷ 7 ∷ 9 ∷ []) ≡ 8 ∷ 9 ∷ []
unfolding without
no_sevens = refl

no_answers_to_sevens : answers_without {Call = ℕ} (λ c. eqb c 7) {Answer = ℕ} (7 ∷ 8 ∷ 7 ∷ 9 ∷ []) (1 ∷ 2 ∷ 3 ∷ 4 ∷ []) ≡ 2 ∷ 4 ∷ []
unfolding answers_without
no_answers_to_sevens = refl
