-- Which characters beyond ASCII are letters or numbers, and which are white space: ranges, as pairs of their first and last.
-- Assumes nothing.
use Rattle.std.specs.Prelude.{ℕ, suc, ◌≡◌, Bool, true, false, ◌&&◌, ◌||◌, List, [], ◌∷◌, ltb, leb}
use Rattle.letters.specs.Table.{letters, blanks}

-- v lies in the range
abbrev pub between : ℕ → ℕ → ℕ → Bool
between a z v = leb a v && leb v z

-- v lies in one of the ranges
unfoldable pub inside : ℕ → List ℕ → Bool
inside v [] = false
inside v (a ∷ []) = false
inside v (a ∷ (z ∷ more)) = between a z v || inside v more

-- a range is of scalar values: below 1114112, and without 55296 to 57343
abbrev pub scalars : ℕ → ℕ → Bool
scalars a z = leb a z && (leb z 1114111 && (ltb z 55296 || ltb 57343 a))

-- the ranges stand above `low`, rise and do not touch, and are of scalar values
unfoldable pub rises : ℕ → List ℕ → Bool
rises low [] = true
rises low (a ∷ []) = false
rises low (a ∷ (z ∷ more)) = ltb low a && (scalars a z && rises (suc z) more)

-- what `is_alphanumeric` and `is_whitespace` say of a character beyond ASCII
unfoldable pub is_letter : ℕ → Bool
is_letter v = inside v letters

-- an answer that is true of letters alone
abbrev pub LetterIf : Bool → ℕ → Type 0
LetterIf r v = r ≡ true → is_letter v ≡ true

unfoldable pub is_blank : ℕ → Bool
is_blank v = inside v blanks
