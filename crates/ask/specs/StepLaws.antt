-- Laws of one step: a byte more, and the line that has not ended moved to the front.
-- Assumes nothing.
use Rattle.std.specs.Prelude.{ℕ, suc, ◌+◌, ◌-◌, ◌*◌, ◌≤◌, ◌<◌, min, ◌≡◌, refl, Bool, true, false, List, [], ◌∷◌, ◌++◌, eqb, leb, length, take, drop, get_or}
use Rattle.std.specs.List.{copy_within}
use Rattle.std.proofs.Math.Path.{sym}
use Rattle.std.proofs.Common.{ap, ◌∙◌, append-nil, length-take, length-drop, length-append, take_all, take-take, take-suc, get_or-drop, leb-true, leb-false}
use native.Mathlib.Omega.{arith}
use Rattle.text.specs.Put.{put, Wrote}
use Rattle.text.specs.PutLaws.{put-nil, both}
use Rattle.ask.specs.Answer.{line_answer, extra}
use Rattle.ask.specs.AnswerLaws.{answer-length, extra-more}
use Rattle.ask.specs.Input.{stretch, last_answer, answer_at, line_after, ended_answers, unfinished, held, Stepped}
use Rattle.ask.specs.InputLaws.{ended-append, unfinished-append, ended-length}

stretch-none : (a : ℕ) (l : List ℕ) → stretch a a l ≡ []
stretch-none a l = let e : a - a ≡ 0 = omega arith in rw e

length-stretch : (a e : ℕ) (l : List ℕ) → a ≤ e → e ≤ length l → length (stretch a e l) ≡ e - a
length-stretch a e l h k = simp (length-take, length-drop) (omega arith)

stretch-more : (a i : ℕ) (l : List ℕ) → a ≤ i → i < length l → stretch a (i + 1) l ≡ stretch a i l ++ (get_or l i 0 ∷ [])
stretch-more a i l h k =
    let n : i + 1 - a ≡ suc (i - a) = omega arith in
    let m : a + (i - a) ≡ i = omega arith in
    rw (n, take-suc (drop a l) (i - a) 0 (simp length-drop (omega arith)), get_or-drop a l (i - a) 0, m)

-- ---- one byte more
ended-one : (why : Bool) (line s : List ℕ) (b : ℕ) → ended_answers why line (s ++ (b ∷ [])) ≡ ended_answers why line s ++ answer_at why (eqb b 10) (unfinished line s)
unfolding ended_answers
ended-one why line s b = ended-append why s (b ∷ []) line ∙ rw append-nil

unfinished-one : (line s : List ℕ) (b : ℕ) → unfinished line (s ++ (b ∷ [])) ≡ line_after b (unfinished line s)
unfolding unfinished
unfinished-one line s b = unfinished-append s (b ∷ []) line

-- what the bytes before i have left: `out` with the answers, and the line that has not ended from `start` on
pub record Before (why : Bool) (input out₀ : List ℕ) (from i start used : ℕ) (out : List ℕ) : Type 0 where
  pub line : stretch start i input ≡ unfinished (stretch 0 from input) (stretch from i input)
  pub wrote : Wrote out₀ 0 (ended_answers why (stretch 0 from input) (stretch from i input)) used out

pub before-first : (why : Bool) (input out : List ℕ) (from : ℕ) → Before why input out from from 0 0 out
unfolding ended_answers unfinished
before-first why input out from = record { line = rw (stretch-none from input); wrote = rw (stretch-none from input) record { next = refl; after = sym (put-nil out 0); room = omega arith } }

-- the ways out where byte i is taken
module _ (why : Bool) (input out : List ℕ) (start i used : ℕ) (within : (start ≤ i) × (i < length input)) (room : used + length (answer_at why (eqb (get_or input i 0) 10) (stretch start i input)) ≤ length out) where
  abbrev Taken : ℕ → ℕ → List ℕ → Type 0
  Taken s r o = (s ≤ i + 1) × ((stretch s (i + 1) input ≡ line_after (get_or input i 0) (stretch start i input)) × Wrote out used (answer_at why (eqb (get_or input i 0) 10) (stretch start i input)) r o)

  pub answer-fits : eqb (get_or input i 0) 10 ≡ true → used + length (line_answer why (stretch start i input)) ≤ length out
  unfolding answer_at
  answer-fits e = rw e at room

  pub taken-inside : eqb (get_or input i 0) 10 ≡ false → Taken start used out
  unfolding answer_at
  taken-inside e = (omega arith, rw e (stretch-more start i input (omega arith) (omega arith), record { next = omega arith; after = sym (put-nil out used); room = rw e at room }))

  pub taken-end : eqb (get_or input i 0) 10 ≡ true → (r : ℕ) (o : List ℕ) → r ≡ used + length (line_answer why (stretch start i input)) → o ≡ put out used (line_answer why (stretch start i input)) → Taken (i + 1) r o
  unfolding answer_at
  taken-end e r o n p = (omega arith, rw e (stretch-none (i + 1) input, record { next = n; after = p; room = answer-fits e }))

-- the answers to all that comes before place e fit
pub ended-fit : (why : Bool) (input : List ℕ) (from i end room : ℕ) → from ≤ i → i ≤ end → end ≤ length input → 2 * end + extra why (end - from) ≤ room → length (ended_answers why (stretch 0 from input) (stretch from i input)) ≤ room
ended-fit why input from i end room h k m r =
    let a = length-stretch 0 from input (omega arith) (omega arith) in
    let b = length-stretch from i input h (omega arith) in
    let x : extra why (length (stretch from i input)) ≤ extra why (end - from) = rw b (extra-more why (i - from) (end - from) (omega arith)) in
    omega (arith, ended-length why (stretch from i input) (stretch 0 from input))

pub before-fits : (why : Bool) (input out₀ out : List ℕ) (from i end start used : ℕ) → from ≤ i → i < end → end ≤ length input → 2 * end + extra why (end - from) ≤ length out₀ → Before why input out₀ from i start used out
    → used + length (answer_at why (eqb (get_or input i 0) 10) (stretch start i input)) ≤ length out₀
before-fits why input out₀ out from i end start used h k m r b =
    let n : ended_answers why (stretch 0 from input) (stretch from (i + 1) input) ≡ ended_answers why (stretch 0 from input) (stretch from i input) ++ answer_at why (eqb (get_or input i 0) 10) (stretch start i input) =
    rw (stretch-more from i input h (omega arith), b.line) (ended-one why (stretch 0 from input) (stretch from i input) (get_or input i 0)) in
    omega (arith, ended-fit why input from (i + 1) end (length out₀) (omega arith) (omega arith) m r, b.wrote.next, ap length n, length-append (ended_answers why (stretch 0 from input) (stretch from i input)) (answer_at why (eqb (get_or input i 0) 10) (stretch start i input)))

pub before-next : (why : Bool) (input out₀ out : List ℕ) (from i start used : ℕ) → from ≤ i → i < length input → Before why input out₀ from i start used out
    → (s r : ℕ) (o : List ℕ) → stretch s (i + 1) input ≡ line_after (get_or input i 0) (stretch start i input) → Wrote out used (answer_at why (eqb (get_or input i 0) 10) (stretch start i input)) r o → Before why input out₀ from (i + 1) s r o
before-next why input out₀ out from i start used h k b s r o e w =
    let more = stretch-more from i input h k in
    record {
      line = rw more (e ∙ ap (line_after (get_or input i 0)) b.line ∙ sym (unfinished-one (stretch 0 from input) (stretch from i input) (get_or input i 0)));
      wrote = rw (more, ended-one why (stretch 0 from input) (stretch from i input) (get_or input i 0), ← b.line) (both b.wrote w);
    }

pub before-end : (why : Bool) (input out₀ out : List ℕ) (from i end start used : ℕ) → i ≡ end → Before why input out₀ from i start used out
    → (r : ℕ) (o : List ℕ) → Wrote input 0 (take 4097 (stretch start end input)) r o
    → Stepped why input out₀ from end r used o out
unfolding held
before-end why input out₀ out from i end start used q b r o w = record { answered = rw q at b.wrote; holds = rw (← rw q at b.line) w }

-- the ways out with the last line
pub last_none : (why : Bool) (line out : List ℕ) → length line ≡ 0 → Wrote out 0 (last_answer why line) 0 out
unfolding last_answer
last_none why [] out h = record { next = refl; after = sym (put-nil out 0); room = omega arith }
last_none why (b ∷ line) out h = absurd (omega arith)

pub last_some : (why : Bool) (line out : List ℕ) → (length line ≡ 0 → ⊥) → 2 * (length line + 1) + extra why 1 ≤ length out → (r : ℕ) (o : List ℕ) → r ≡ 0 + length (line_answer why line) → o ≡ put out 0 (line_answer why line) → Wrote out 0 (last_answer why line) r o
unfolding last_answer
last_some why [] out h m r o n p = absurd (h refl)
last_some why (b ∷ line) out h m r o n p = record { next = n; after = p; room = omega (arith, answer-length why (b ∷ line)) }

-- ---- bytes moved to the front
move_all : (most n : ℕ) (l : List ℕ) → take (min most n) l ≡ take most (take n l)
move_all most n l = go (leb n most) refl
  where
    go : (v : Bool) → leb n most ≡ v → take (min most n) l ≡ take most (take n l)
    go true e =
        let m : min most n ≡ n = omega (arith, leb-true n most e) in
        rw m (sym (take_all most (take n l) (omega (arith, length-take n l, leb-true n most e))))
    go false e =
        let m : min most n ≡ most = omega (arith, leb-false n most e) in
        rw m (sym (take-take most n l (omega (arith, leb-false n most e))))

pub moved : (l₀ l : List ℕ) (start end n : ℕ) → start ≤ end → end ≤ length l₀ → n ≡ min 4097 (end - start) → l ≡ copy_within l₀ start (start + n) 0 → Wrote l₀ 0 (take 4097 (stretch start end l₀)) n l
unfolding put
moved l₀ l start end n h k m e =
    let t : take n (drop start l₀) ≡ take 4097 (stretch start end l₀) = ap (λ j. take j (drop start l₀)) m ∙ move_all 4097 (end - start) (drop start l₀) in
    let f : length (take n (drop start l₀)) ≡ n = simp (length-take, length-drop) (omega arith) in
    let r : start + n - start ≡ n = omega arith in
    rw (← t) (record { next = omega arith; after = e ∙ rw (r, f); room = omega arith })
