-- What is printed of a line: the refusal number; or `0`, the kind, `E` or `L`, and the rendering, with single spaces. Where it
-- is asked why, the place of the fault, if it has one, and a sentence for a customer follow the refusal number.
-- Assumes nothing.
use Rattle.std.specs.Prelude.{ℕ, ◌*◌, Bool, true, false, cond, List, [], ◌∷◌, ◌++◌, Ok, Err}
use Rattle.text.specs.Bytes.{bytes}
use Rattle.text.specs.Number.{decimal}
use Rattle.text.specs.Refusal.{too_long, not_ascii, not_a_path, no_digits, not_a_digit, too_large, sentence}
use Rattle.path.specs.declared.PathView.{PathView}
use Rattle.path.specs.declared.Refusal.{Refusal}
use Rattle.path.specs.declared.Refusal.TheVariants.{TooLong, NotAscii, NotAPath, NoDigits, NotADigit, TooLarge}
use Rattle.path.specs.Reading.{Reading}
use Rattle.path.specs.Kinds.{carried}
use Rattle.path.specs.Text.{shown_of}
use Rattle.path.specs.Read.{refusal_of, render, parts_of, render_path, read_path}
use Rattle.path.specs.View.{kind_of}

-- exact or loose
abbrev pub mark : Bool → List ℕ
mark e = cond e (bytes " E ") (bytes " L ")

abbrev pub head : ℕ → Bool → List ℕ
head k e = bytes "0 " ++ (decimal k ++ mark e)

-- the rendering of a view over its text
abbrev pub view_text : List ℕ → PathView → List ℕ
view_text t v = render (parts_of v.kind) (carried (shown_of t v.first) (shown_of t v.second) v.a v.b)

-- what is printed of a text that is read
abbrev pub view_answer : List ℕ → PathView → List ℕ
view_answer t v = head v.kind v.exact ++ (view_text t v ++ 10 ∷ [])

-- the sentence of a refusal
abbrev pub spoken : ℕ → List ℕ
spoken n = bytes " " ++ sentence n

-- a place, and the sentence
abbrev pub placed : ℕ → ℕ → List ℕ
placed i n = bytes " " ++ (decimal i ++ spoken n)

-- the place, where there is one, and the sentence for a customer
unfoldable pub reason : Refusal → List ℕ
reason TooLong = spoken too_long
reason NotAscii = spoken not_ascii
reason NotAPath = spoken not_a_path
reason (NoDigits i) = placed i no_digits
reason (NotADigit i) = placed i not_a_digit
reason (TooLarge i) = placed i too_large

-- what follows the number of a refusal
abbrev pub saying : Bool → Refusal → List ℕ
saying why w = cond why (reason w) []

-- what is printed of a text that is refused
abbrev pub refusal_answer : Bool → Refusal → List ℕ
refusal_answer why w = decimal (refusal_of w) ++ (saying why w ++ 10 ∷ [])

abbrev pub printed : Bool → List ℕ → Reading → List ℕ
printed why t (Ok r) = head (kind_of r.path) r.exact ++ (render_path t r.path ++ 10 ∷ [])
printed why t (Err w) = refusal_answer why w

unfoldable pub line_answer : Bool → List ℕ → List ℕ
line_answer why t = printed why t (read_path t)

-- how much longer n answers are at most where it is asked why
unfoldable pub extra : Bool → ℕ → ℕ
extra true n = 128 * n
extra false n = 0
