-- Laws of `Answer`: the ways through it, and how long an answer is.
-- Assumes nothing.
use Rattle.std.specs.Prelude.{ℕ, suc, ◌+◌, ◌*◌, ◌≤◌, ◌≡◌, refl, Bool, true, false, cond, List, [], ◌∷◌, ◌++◌, map, leb, ltb, length, drop, Ok, Err, Option, Some, None}
use Rattle.std.proofs.Common.{◌∙◌, arith, length-append, length-take, leb-true, ltb-false}
use Rattle.std.proofs.Math.Path.{ap}
use Rattle.text.specs.Number.{decimal, digits, width, width_by}
use Rattle.text.specs.NumberLaws.{length-decimal, width-within}
use Rattle.text.specs.Part.{every, ascii, same}
use Rattle.text.specs.Refusal.{sentence}
use Rattle.path.specs.Text.{cut_at}
use Rattle.path.specs.declared.Path.{Path}
use Rattle.path.specs.declared.PathView.{PathView}
use Rattle.path.specs.declared.Refusal.{Refusal}
use Rattle.path.specs.declared.Refusal.TheVariants.{TooLong, NotAscii, NotAPath, NoDigits, NotADigit, TooLarge}
use Rattle.path.specs.Reading.{Reading, Read}
use Rattle.path.specs.Kinds.{Carried, kinds}
use Rattle.path.specs.Read.{refusal_of, place_of, render, parts_of, texts_of, render_path, fits, fits_kind, read_kind, read_first, suits, suits_kind, kind_faults, faults_as, why_not, reading_of, read_path}
use Rattle.path.specs.View.{kind_of, carried_of, view_of, viewed_by}
use Rattle.path.specs.ViewLaws.{is_seen, is-unread}
use Rattle.path.specs.ReadLaws.{made_range, has_both, kind-has, kind-parts}
use Rattle.path.specs.BackLaws.{read_reads}
use Rattle.path.proofs.WrongLaws.{why-wrong, wrong-marks}
use Rattle.path.specs.Length.{fixed}
use Rattle.path.specs.ExactLaws.{rendering-not-longer}
use Rattle.path.specs.MeasureLaws.{lengths, render-length, length_sums}
use Rattle.key.specs.KeyLaws.{view-parts}
use Rattle.ask.specs.Answer.{mark, head, view_text, view_answer, spoken, placed, reason, saying, refusal_answer, printed, line_answer, extra}

-- what a line that was read is answered with
module _ (why : Bool) (t : List ℕ) (r : Reading) (by : r ≡ read_path t) (p : Path) (e : Bool) (is : r ≡ Read p e) where
  answer-read : line_answer why t ≡ head (kind_of p) e ++ (render_path t p ++ 10 ∷ [])
  unfolding line_answer
  answer-read = rw (← by, is)

  -- the same from the view of the path
  answer-view : (v : PathView) → v ≡ view_of p e → line_answer why t ≡ view_answer t v
  unfolding view_of
  answer-view v seen = answer-read ∙ rw (← view-parts t r p e is by v seen, seen)

-- and by the flat form of its reading; or a line that was refused
module _ (why : Bool) (t : List ℕ) where
  pub answer-seen : (v : PathView) → Ok v ≡ viewed_by (read_path t) → line_answer why t ≡ view_answer t v
  answer-seen v by = let q = is_seen (read_path t) v by in answer-view why t (read_path t) refl q.path q.mark q.read v q.shows

  pub answer-unread : (w : Refusal) → Err w ≡ viewed_by (read_path t) → line_answer why t ≡ refusal_answer why w
  unfolding line_answer
  answer-unread w by = ap (printed why t) (is-unread (read_path t) w by)

length-mark : (e : Bool) → length (mark e) ≡ 3
length-mark true = refl
length-mark false = refl

pub head-length : (k : ℕ) (e : Bool) → length (head k e) ≡ 2 + length (decimal k) + 3
head-length k e = simp length-append (omega (arith, length-mark e))

pub view-length : (t : List ℕ) (v : PathView) → length (view_answer t v) ≡ length (head v.kind v.exact) + (length (view_text t v) + 1)
view-length t v = length-append (head v.kind v.exact) (view_text t v ++ 10 ∷ []) ∙ rw (length-append (view_text t v) (10 ∷ []))

pub placed-length : (i n : ℕ) → length (placed i n) ≡ 1 + length (decimal i) + length (spoken n)
placed-length i n = simp length-append (omega arith)

pub refused-length : (why : Bool) (w : Refusal) → length (refusal_answer why w) ≡ length (decimal (refusal_of w)) + (length (saying why w) + 1)
refused-length why w = length-append (decimal (refusal_of w)) (saying why w ++ 10 ∷ []) ∙ rw (length-append (saying why w) (10 ∷ []))

pub length-head : (k : ℕ) (e : Bool) → k ≤ 19 → length (head k e) ≤ 7
length-head k e h = omega (arith, head-length k e, length-decimal k, width-within 1 k (omega arith))

refusal-length : (w : Refusal) → length (decimal (refusal_of w)) ≤ 2
unfolding decimal digits width width_by
refusal-length TooLong = omega arith
refusal-length NotAscii = omega arith
refusal-length NotAPath = omega arith
refusal-length (NoDigits i) = omega arith
refusal-length (NotADigit i) = omega arith
refusal-length (TooLarge i) = omega arith

-- the words and slashes of a kind have at least the six bytes of `ports/`
fixed-all : map (λ e. leb 6 (fixed e.parts)) kinds ≡ map (λ e. true) kinds
unfolding kinds fixed
fixed-all = refl

long-rendering : (k : ℕ) (v : Carried (List ℕ)) → 1 ≤ k → k ≤ 19 → 6 ≤ length (render (parts_of k) v)
long-rendering k v low high =
    let f : 6 ≤ fixed (parts_of k) = rw (kind-parts k low high) (leb-true 6 _ (has_both (λ e. leb 6 (fixed e.parts)) (λ e. true) (kind-has k low high) fixed-all)) in
    omega (arith, render-length (parts_of k) v, length_sums (parts_of k) (lengths v))

-- the place of a fault has four digits at most
numbered : (t : List ℕ) (w : Refusal) → length t ≤ 4096 → (w ≡ NotAPath → ⊥) → why_not t ≡ w → place_of w ≤ 4096
numbered t w h n e = let m = wrong-marks t w (why-wrong t w n e) in let i = m.mends.inside in omega (arith, m.inside, m.from, length-take m.number.len (drop m.number.start t))

clash : (P : Type 0) → ◌≡◌ {A = ℕ} 0 1 → P
clash P h = absurd (omega arith)

why-place : (t : List ℕ) (w : Refusal) → length t ≤ 4096 → why_not t ≡ w → place_of w ≤ 4096
why-place t TooLong h e = omega arith
why-place t NotAscii h e = omega arith
why-place t NotAPath h e = omega arith
why-place t (NoDigits i) h e = numbered t (NoDigits i) h (λ k. clash ⊥ cc) e
why-place t (NotADigit i) h e = numbered t (NotADigit i) h (λ k. clash ⊥ cc) e
why-place t (TooLarge i) h e = numbered t (TooLarge i) h (λ k. clash ⊥ cc) e

place_small : (t : List ℕ) (w : Refusal) → read_path t ≡ Err w → place_of w ≤ 4096
unfolding read_path
place_small t w h = go (ltb 4096 (length t)) refl (ascii t) (read_first kinds t) h
  where
    go : (l : Bool) → ltb 4096 (length t) ≡ l → (a : Bool) (x : Option Path) → cond l (Err TooLong) (cond a (reading_of t x) (Err NotAscii)) ≡ Err w → place_of w ≤ 4096
    go true e a x k = let z : TooLong ≡ w = cc in rw (← z) (omega arith)
    go false e false x k = let z : NotAscii ≡ w = cc in rw (← z) (omega arith)
    go false e true (Some p) k = clash _ cc
    go false e true None k = let z : why_not t ≡ w = cc in why-place t w (ltb-false 4096 (length t) e) z

place-length : (i : ℕ) → i ≤ 4096 → length (decimal i) ≤ 4
place-length i h = omega (arith, length-decimal i, width-within 3 i (omega arith))

reason-length : (w : Refusal) → place_of w ≤ 4096 → length (reason w) ≤ 128
unfolding reason sentence
reason-length TooLong h = omega arith
reason-length NotAscii h = omega arith
reason-length NotAPath h = omega arith
reason-length (NoDigits i) h = simp length-append (omega (arith, place-length i h))
reason-length (NotADigit i) h = simp length-append (omega (arith, place-length i h))
reason-length (TooLarge i) h = simp length-append (omega (arith, place-length i h))

saying-length : (why : Bool) (w : Refusal) → place_of w ≤ 4096 → length (saying why w) ≤ extra why 1
unfolding extra
saying-length true w h = reason-length w h
saying-length false w h = omega arith

-- the empty text has a refusal of one digit
empty-refused : read_path [] ≡ Err NotAPath
unfolding read_path read_first read_kind fits_kind fits kinds cut_at ascii every same why_not faults_as kind_faults suits_kind suits
empty-refused = refl

number-length : (t : List ℕ) (w : Refusal) → read_path t ≡ Err w → length (decimal (refusal_of w)) ≤ length t + 1
unfolding decimal digits width width_by
number-length [] w h = let e = empty-refused in let z : NotAPath ≡ w = cc in rw (← z) (omega arith)
number-length (b ∷ t) w h = omega (arith, refusal-length w)

-- an answer has at most twice as many bytes as its line with its end, and what the reason adds
pub answer-length : (why : Bool) (t : List ℕ) → length (line_answer why t) ≤ 2 * (length t + 1) + extra why 1
unfolding line_answer render_path
answer-length why t = go (read_path t) refl
  where
    go : (r : Reading) → read_path t ≡ r → length (printed why t r) ≤ 2 * (length t + 1) + extra why 1
    go (Ok r) h =
        let k = read_reads t r.path r.exact h in
        let m : (1 ≤ kind_of r.path) × (kind_of r.path ≤ 19) = rw k.made (made_range k.listed _) in
        let a = length-append (head (kind_of r.path) r.exact) (render_path t r.path ++ 10 ∷ []) in
        let b = length-append (render_path t r.path) (10 ∷ []) in
        omega (arith, length-head (kind_of r.path) r.exact m.1, rendering-not-longer k, long-rendering (kind_of r.path) (texts_of t (carried_of r.path)) m.0 m.1)
    go (Err w) h = omega (arith, refused-length why w, number-length t w h, saying-length why w (place_small t w h))

-- answers to more lines
pub extra-more : (why : Bool) (n m : ℕ) → n ≤ m → extra why n ≤ extra why m
unfolding extra
extra-more true n m h = omega arith
extra-more false n m h = omega arith

pub extra-one : (why : Bool) (n : ℕ) → extra why (suc n) ≡ extra why 1 + extra why n
unfolding extra
extra-one true n = omega arith
extra-one false n = omega arith
