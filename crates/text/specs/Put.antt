-- What a call that writes a text leaves in the buffer that is lent to it, and what it answers.
-- Assumes nothing.
use Rattle.std.specs.Prelude.{ℕ, ◌+◌, ◌≤◌, ◌≡◌, cond, List, ◌++◌, eqb, leb, length, take, drop}
use Rattle.text.specs.declared.Written.{Written}
use Rattle.text.specs.Refusal.{no_room}

-- `out` with `w` written over it from place `at` on
unfoldable pub put : List ℕ → ℕ → List ℕ → List ℕ
put out at w = take at out ++ (w ++ drop (at + length w) out)

-- what a writer does: w was written to `out` from `at` on, which had room for it and is o now; r is the place after it
pub record Wrote (out : List ℕ) (at : ℕ) (w : List ℕ) (r : ℕ) (o : List ℕ) : Type 0 where
  pub next : r ≡ at + length w
  pub after : o ≡ put out at w
  pub room : at + length w ≤ length out

-- what is asked of a writing call: a refusal by its number, or a text to be written
pub data Wanted : Type 0 where
  refused : ℕ → Wanted
  text : List ℕ → Wanted

abbrev pub refusal : ℕ → Written
refusal n = record { refusal = n; length = 0 }

abbrev pub done : ℕ → Written
done n = record { refusal = 0; length = n }

-- the text, where a check gives 0, and else what it refuses with
abbrev pub accepted : ℕ → List ℕ → Wanted
accepted n w = cond (eqb n 0) (text w) (refused n)

-- the answer, where the buffer has room for that many bytes: 4 where that is too little
unfoldable pub answer : Wanted → ℕ → Written
answer (refused n) room = refusal n
answer (text w) room = cond (leb (length w) room) (done (length w)) (refusal no_room)

-- the buffer after the call: the text stands from byte 0 on and later bytes stay; a refusal changes no byte
unfoldable pub left : Wanted → List ℕ → List ℕ
left (refused n) out = out
left (text w) out = cond (leb (length w) (length out)) (put out 0 w) out
