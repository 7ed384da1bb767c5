-- Laws of `Input`: however the input is cut into reads, the steps print what the whole input prints; and how long that is.
-- Assumes nothing.
use Rattle.std.specs.Prelude.{ℕ, zero, suc, ◌+◌, ◌*◌, ◌≤◌, ◌<◌, min, ◌≡◌, refl, Bool, true, false, cond, eqb, ltb, length, take}
use Rattle.std.proofs.Common.{sym, ap, ◌∙◌, arith, length-take, length-append, take_all, take-take, lt-ltb, ltb-true, ltb-false}
use mathlib.Core.List.{List, [], ◌∷◌, ◌++◌, append_assoc, append-nil, flatten}
use Rattle.text.specs.Put.{Wrote}
use Rattle.path.specs.declared.Refusal.TheVariants.{TooLong}
use Rattle.path.specs.Read.{read_path}
use Rattle.path.specs.Text.{cut_at, cut_step, onto}
use Rattle.path.specs.TextLaws.{cut-some}
use Rattle.ask.specs.Answer.{refusal_answer, line_answer, extra}
use Rattle.ask.specs.AnswerLaws.{answer-length, extra-more, extra-one}
use Rattle.ask.specs.Input.{last_answer, answers, whole_answer, answer_at, line_after, ended_answers, unfinished, held, steps_answer}

-- ---- the answer to a line depends only on what would be held of it
abbrev Alike : List ℕ → List ℕ → Type 0
Alike l m = take 4097 l ≡ take 4097 m

alike-length : (l m : List ℕ) → Alike l m → min 4097 (length l) ≡ min 4097 (length m)
alike-length l m h = sym (length-take 4097 l) ∙ ap length h ∙ length-take 4097 m

too_long_when : (why : Bool) (t : List ℕ) → 4096 < length t → line_answer why t ≡ refusal_answer why TooLong
unfolding line_answer read_path
too_long_when why t h = rw (lt-ltb 4096 (length t) h)

line-front : (why : Bool) (l m : List ℕ) → Alike l m → line_answer why l ≡ line_answer why m
line-front why l m h = go (ltb 4096 (length l)) refl (alike-length l m h)
  where
    go : (v : Bool) → ltb 4096 (length l) ≡ v → min 4097 (length l) ≡ min 4097 (length m) → line_answer why l ≡ line_answer why m
    go true e n = too_long_when why l (ltb-true 4096 (length l) e) ∙ sym (too_long_when why m (omega (arith, ltb-true 4096 (length l) e)))
    go false e n =
        let k = ltb-false 4096 (length l) e in
        ap (line_answer why) (sym (take_all 4097 l (omega arith)) ∙ h ∙ take_all 4097 m (omega arith))

last-front : (why : Bool) (l m : List ℕ) → Alike l m → last_answer why l ≡ last_answer why m
unfolding last_answer
last-front why [] [] h = refl
last-front why [] (b ∷ m) h = absurd (omega (arith, alike-length [] (b ∷ m) h))
last-front why (b ∷ l) [] h = absurd (omega (arith, alike-length (b ∷ l) [] h))
last-front why (b ∷ l) (a ∷ m) h = line-front why (b ∷ l) (a ∷ m) h

front-append : (n : ℕ) (l m x : List ℕ) → take n l ≡ take n m → take n (l ++ x) ≡ take n (m ++ x)
front-append zero l m x h = refl
front-append (suc n) [] [] x h = refl
front-append (suc n) [] (b ∷ m) x h = let z : ◌≡◌ {A = ℕ} 0 1 = cc in absurd (omega arith)
front-append (suc n) (b ∷ l) [] x h = let z : ◌≡◌ {A = ℕ} 0 1 = cc in absurd (omega arith)
front-append (suc n) (b ∷ l) (a ∷ m) x h =
    let t : take n l ≡ take n m = cc in
    let e : b ≡ a = cc in
    rw (e, front-append n l m x t)

after_front : (b : ℕ) (l m : List ℕ) → Alike l m → Alike (line_after b l) (line_after b m)
after_front b l m h = go (eqb b 10)
  where
    go : (v : Bool) → Alike (cond v [] (l ++ (b ∷ []))) (cond v [] (m ++ (b ∷ [])))
    go true = refl
    go false = front-append 4097 l m (b ∷ []) h

ended-front : (why : Bool) (s l m : List ℕ) → Alike l m → ended_answers why l s ≡ ended_answers why m s
unfolding ended_answers answer_at
ended-front why [] l m h = refl
ended-front why (b ∷ s) l m h = go (eqb b 10) (ended-front why s (line_after b l) (line_after b m) (after_front b l m h))
  where
    go : (v : Bool) → ended_answers why (line_after b l) s ≡ ended_answers why (line_after b m) s → answer_at why v l ++ ended_answers why (line_after b l) s ≡ answer_at why v m ++ ended_answers why (line_after b m) s
    go true k = rw (k, line-front why l m h)
    go false k = k

unfinished-front : (s l m : List ℕ) → Alike l m → Alike (unfinished l s) (unfinished m s)
unfolding unfinished
unfinished-front [] l m h = h
unfinished-front (b ∷ s) l m h = unfinished-front s (line_after b l) (line_after b m) (after_front b l m h)

-- ---- bytes that come in two parts
pub ended-append : (why : Bool) (s r line : List ℕ) → ended_answers why line (s ++ r) ≡ ended_answers why line s ++ ended_answers why (unfinished line s) r
unfolding ended_answers unfinished
ended-append why [] r line = refl
ended-append why (b ∷ s) r line = rw (ended-append why s r (line_after b line), append_assoc)

pub unfinished-append : (s r line : List ℕ) → unfinished line (s ++ r) ≡ unfinished (unfinished line s) r
unfolding unfinished
unfinished-append [] r line = refl
unfinished-append (b ∷ s) r line = unfinished-append s r (line_after b line)

-- ---- the whole input in one step
abbrev on_line : List ℕ → List (List ℕ) → List (List ℕ)
on_line line [] = line ∷ []
on_line line (c ∷ cs) = (line ++ c) ∷ cs

on-onto : (line : List ℕ) (b : ℕ) (cs : List (List ℕ)) → on_line line (onto b cs) ≡ on_line (line ++ (b ∷ [])) cs
on-onto line b [] = refl
on-onto line b (c ∷ cs) = rw append_assoc

on_none : (cs : List (List ℕ)) → (cs ≡ [] → ⊥) → on_line [] cs ≡ cs
on_none [] h = absurd (h refl)
on_none (c ∷ cs) h = refl

some_line : (s : List ℕ) → cut_at 10 s ≡ [] → ⊥
some_line s e = omega (arith, cut-some 10 s, ap length e)

whole_from : (why : Bool) (s line : List ℕ) → answers why (on_line line (cut_at 10 s)) ≡ ended_answers why line s ++ last_answer why (unfinished line s)
unfolding answers cut_at ended_answers unfinished answer_at
whole_from why [] line = rw append-nil
whole_from why (b ∷ s) line = go (eqb b 10) (cut_at 10 s) refl (whole_from why s (line_after b line))
  where
    go : (v : Bool) (cs : List (List ℕ)) → cut_at 10 s ≡ cs → answers why (on_line (cond v [] (line ++ (b ∷ []))) cs) ≡ ended_answers why (cond v [] (line ++ (b ∷ []))) s ++ last_answer why (unfinished (cond v [] (line ++ (b ∷ []))) s)
        → answers why (on_line line (cut_step v b cs)) ≡ (answer_at why v line ++ ended_answers why (cond v [] (line ++ (b ∷ []))) s) ++ last_answer why (unfinished (cond v [] (line ++ (b ∷ []))) s)
    go true [] e h = absurd (some_line s e)
    go true (c ∷ cs) e h = rw (append-nil, h, append_assoc)
    go false cs e h = ap (answers why) (on-onto line b cs) ∙ h

-- however the input is cut into reads
steps-from : (why : Bool) (reads : List (List ℕ)) (l m : List ℕ) → Alike l m → steps_answer why l reads ≡ ended_answers why m (flatten reads) ++ last_answer why (unfinished m (flatten reads))
unfolding steps_answer held flatten ended_answers unfinished
steps-from why [] l m h = last-front why l m h
steps-from why (s ∷ reads) l m h =
    let k = steps-from why reads (held l s) (unfinished m s) (take-take 4097 4097 (unfinished l s) (omega arith) ∙ unfinished-front s l m h) in
    rw (ended-front why s l m h, k, ended-append why s (flatten reads) m, unfinished-append s (flatten reads) m, append_assoc)

pub any_cutting : (why : Bool) (reads : List (List ℕ)) → steps_answer why [] reads ≡ whole_answer why (flatten reads)
unfolding whole_answer
any_cutting why reads = steps-from why reads [] [] refl ∙ sym (whole_from why (flatten reads) []) ∙ ap (answers why) (on_none (cut_at 10 (flatten reads)) (some_line (flatten reads)))

-- what is held is short
pub held-short : (line s : List ℕ) {l o : List ℕ} {r : ℕ} → Wrote l 0 (held line s) r o → r ≤ 4097
unfolding held
held-short line s w = omega (arith, w.next, length-take 4097 (unfinished line s))

-- ---- each byte that comes ends a line at most: the answers to what it ends
pub ended-length : (why : Bool) (s line : List ℕ) → length (ended_answers why line s) + 2 * length (unfinished line s) ≤ 2 * (length line + length s) + extra why (length s)
unfolding ended_answers unfinished answer_at
ended-length why [] line = omega arith
ended-length why (b ∷ s) line = go (eqb b 10) (ended-length why s (line_after b line))
  where
    go : (v : Bool) → length (ended_answers why (cond v [] (line ++ (b ∷ []))) s) + 2 * length (unfinished (cond v [] (line ++ (b ∷ []))) s) ≤ 2 * (length (cond v [] (line ++ (b ∷ []))) + length s) + extra why (length s)
        → length (answer_at why v line ++ ended_answers why (cond v [] (line ++ (b ∷ []))) s) + 2 * length (unfinished (cond v [] (line ++ (b ∷ []))) s) ≤ 2 * (length line + suc (length s)) + extra why (suc (length s))
    go true h = omega (arith, length-append (line_answer why line) (ended_answers why [] s), answer-length why line, extra-one why (length s))
    go false h = omega (arith, length-append line (b ∷ []), extra-more why (length s) (suc (length s)) (omega arith))
