-- A text that stands behind its length, in a field filled with zeros: a key has one of 255 bytes, a value of version 2 one of 64.
-- Assumes nothing.
use Rattle.std.specs.Prelude.{◌≡◌, refl, List, [], ◌∷◌, ◌++◌, ℕ, suc, ◌-◌, ◌≤◌, length, take, drop, get_or}
use Rattle.book_form.specs.Form.{zeros}

-- a text of at most m bytes, in its length and m bytes
unfoldable pub counted : ℕ → List ℕ → List ℕ
counted m s = length s ∷ (s ++ zeros (m - length s))

-- the text of the field at the front of some bytes
unfoldable pub counted_in : List ℕ → List ℕ
counted_in x = take (get_or x 0 0) (drop 1 x)

-- the text of the field at an offset
abbrev pub stored : List ℕ → ℕ → List ℕ
stored b at = counted_in (drop at b)

-- at the front of some bytes stands a field of m bytes, filled with zeros
pub record CountedOk (m : ℕ) (x : List ℕ) : Type 0 where
  pub bytes : take (suc m) x ≡ counted m (counted_in x)
  pub fit : length (counted_in x) ≤ m

two_of_four : counted 4 (7 ∷ 8 ∷ []) ≡ 2 ∷ 7 ∷ 8 ∷ 0 ∷ 0 ∷ []
unfolding counted
two_of_four = refl

two_back : counted_in (2 ∷ 7 ∷ 8 ∷ 0 ∷ 0 ∷ 9 ∷ []) ≡ 7 ∷ 8 ∷ []
unfolding counted_in
two_back = refl
