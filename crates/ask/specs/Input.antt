-- What is printed of a whole input, and of what one read of it brings after another, in either manner.
-- Assumes nothing.
use Rattle.std.specs.Prelude.{ℕ, ◌-◌, Bool, true, false, cond, List, [], ◌∷◌, ◌++◌, eqb, take, drop}
use Rattle.text.specs.Put.{Wrote}
use Rattle.path.specs.Text.{cut_at}
use Rattle.ask.specs.Answer.{line_answer}

-- the bytes from place a up to e
abbrev pub stretch : ℕ → ℕ → List ℕ → List ℕ
stretch a e l = take (e - a) (drop a l)

-- a last line counts if it is not empty
unfoldable pub last_answer : Bool → List ℕ → List ℕ
last_answer why [] = []
last_answer why (b ∷ line) = line_answer why (b ∷ line)

-- the answers to lines of which the last has no end
unfoldable pub answers : Bool → List (List ℕ) → List ℕ
answers why [] = []
answers why (line ∷ []) = last_answer why line
answers why (line ∷ (next ∷ lines)) = line_answer why line ++ answers why (next ∷ lines)

-- a line ends at byte 10
unfoldable pub whole_answer : Bool → List ℕ → List ℕ
whole_answer why s = answers why (cut_at 10 s)

-- ---- the same in steps, each over the line that has not ended and the bytes that come after
-- what a byte makes of the line before it: its answer, where the byte ends it
unfoldable pub answer_at : Bool → Bool → List ℕ → List ℕ
answer_at why true line = line_answer why line
answer_at why false line = []

-- and the line that has then not ended
abbrev pub line_after : ℕ → List ℕ → List ℕ
line_after b line = cond (eqb b 10) [] (line ++ (b ∷ []))

-- the answers to the lines that end in s
unfoldable pub ended_answers : Bool → List ℕ → List ℕ → List ℕ
ended_answers why line [] = []
ended_answers why line (b ∷ s) = answer_at why (eqb b 10) line ++ ended_answers why (line_after b line) s

-- the line that has not ended after s
unfoldable pub unfinished : List ℕ → List ℕ → List ℕ
unfinished line [] = line
unfinished line (b ∷ s) = unfinished (line_after b line) s

-- what is held of it: one byte more than a path may have is enough to refuse it
unfoldable pub held : List ℕ → List ℕ → List ℕ
held line s = take 4097 (unfinished line s)

-- what is printed where the input comes in these reads: the answers of each step, then the last line
unfoldable pub steps_answer : Bool → List ℕ → List (List ℕ) → List ℕ
steps_answer why line [] = last_answer why line
steps_answer why line (s ∷ reads) = ended_answers why line s ++ steps_answer why (held line s) reads

-- what a step does over two lent buffers: `from` bytes of the input are held, and those up to `end` are new; the answers
-- are the first `used` bytes of the output, and what is then held is the first `kept` of the input
pub record Stepped (why : Bool) (input out : List ℕ) (from end kept used : ℕ) (input' out' : List ℕ) : Type 0 where
  pub answered : Wrote out 0 (ended_answers why (stretch 0 from input) (stretch from end input)) used out'
  pub holds : Wrote input 0 (held (stretch 0 from input) (stretch from end input)) kept input'
