-- A run prints what the whole input prints.
-- Assumes nothing.
use Rattle.std.specs.Prelude.{ℕ, ◌-◌, ◌≡◌, Bool, length, drop}
use Rattle.std.proofs.Common.{◌∙◌, arith}
use mathlib.Core.List.{List, flatten}
use Rattle.std.proofs.Math.Seq.{take-append_seam}
use Rattle.text.specs.Put.{Wrote}
use Rattle.text.specs.PutLaws.{put-zero}
use Rattle.ask.specs.Input.{stretch, last_answer, whole_answer, ended_answers, held, steps_answer}
use Rattle.ask.specs.InputLaws.{any_cutting}
use Rattle.ask.specs.Run.{Run, ends, reads}

-- what was written at the front stands there
written : {l o : List ℕ} {r : ℕ} (w : List ℕ) → Wrote l 0 w r o → stretch 0 r o ≡ w
written {l} {o} {r} w h =
    let n : r - 0 ≡ length w = omega (arith, h.next) in
    rw (n, h.after, put-zero l w) (take-append_seam w (drop (length w) l))

run_steps : {why : Bool} {input : List ℕ} {from : ℕ} {rs : List (List ℕ)} {printed : List ℕ} → Run why input from rs printed → printed ≡ steps_answer why (stretch 0 from input) rs
unfolding steps_answer
run_steps {why} (ends {input = input} {from = from} w) = written (last_answer why (stretch 0 from input)) w
run_steps {why} (reads {input = input} {from = from} {end = end} f b step run) =
    let line = stretch 0 from input in
    let new = stretch from end input in
    rw (← f, ← b, run_steps run, written (ended_answers why line new) step.answered, written (held line new) step.holds)

pub run_prints : {why : Bool} {input : List ℕ} {rs : List (List ℕ)} {printed : List ℕ} → Run why input 0 rs printed → printed ≡ whole_answer why (flatten rs)
run_prints run = run_steps run ∙ any_cutting _ _
