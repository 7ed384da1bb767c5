-- A call that writes a text, by the room that it has.
-- Assumes nothing.
use Rattle.std.specs.Prelude.{◌≡◌, List, ℕ, ◌<◌, ◌≤◌, length}
use Rattle.std.proofs.Common.{◌∙◌, arith}
use Rattle.std.proofs.Math.Decide.{dec_lt}
use Rattle.text.specs.declared.Written.{Written}
use Rattle.text.specs.Put.{put, text, answer, left, refusal, done}
use Rattle.text.specs.PutLaws.{answer-fits, answer-short, left-fits, left-short}

pub data Way (w out : List ℕ) (r : Written) (o : List ℕ) : Type 0 where
  short : length out < length w → r ≡ refusal 4 → o ≡ out → Way w out r o
  fits : length w ≤ length out → r ≡ done (length w) → o ≡ put out 0 w → Way w out r o

pub way : (w out : List ℕ) (r : Written) (o : List ℕ) → r ≡ answer (text w) (length out) → o ≡ left (text w) out → Way w out r o
way w out r o e f = go (dec_lt (length out) (length w))
  where
    go : Dec (length out < length w) → Way w out r o
    go (yes l) = short l (e ∙ answer-short w (length out) l) (f ∙ left-short w out l)
    go (no l) = let h : length w ≤ length out = omega arith in fits h (e ∙ answer-fits w (length out) h) (f ∙ left-fits w out h)

abbrev pub number : Written → ℕ
number w = w.refusal
