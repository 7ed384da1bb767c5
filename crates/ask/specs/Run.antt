-- A run of the program: what is printed of the reads that an input comes in, where each call does what its contract says.
-- Assumes nothing.
use Rattle.std.specs.Prelude.{ℕ, ◌≡◌, Bool, List, [], ◌∷◌, ◌++◌}
use Rattle.text.specs.Put.{Wrote}
use Rattle.ask.specs.Input.{stretch, last_answer, Stepped}

-- from the input with `from` bytes held, over the reads that are left: what is printed
pub data Run (why : Bool) : List ℕ → ℕ → List (List ℕ) → List ℕ → Type 0 where
  -- the input has ended: the last line
  ends : {input out out' : List ℕ} {from used : ℕ} → Wrote out 0 (last_answer why (stretch 0 from input)) used out' → Run why input from [] (stretch 0 used out')
  -- a read, which leaves what is held and brings s up to `end`; a step; and so on
  reads : {before input out input' out' s printed : List ℕ} {from end kept used : ℕ} {more : List (List ℕ)} → stretch 0 from input ≡ stretch 0 from before → stretch from end input ≡ s
      → Stepped why input out from end kept used input' out' → Run why input' kept more printed → Run why before from (s ∷ more) (stretch 0 used out' ++ printed)
