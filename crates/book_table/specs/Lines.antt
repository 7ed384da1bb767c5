-- Texts that stand in one text, each ended by byte 10. Bytes after the last 10 count as a text if there are any.
-- Assumes nothing.
use Rattle.std.specs.Prelude.{◌≡◌, ℕ, ◌+◌, ◌-◌, ◌<◌, ◌≤◌, Bool, true, false, List, [], ◌∷◌, length, ◌==◌, ◌≢◌, slice_index, refl}

abbrev pub onto : ℕ → List (List ℕ) → List (List ℕ)
onto b [] = (b ∷ []) ∷ []
onto b (t ∷ ts) = (b ∷ t) ∷ ts

abbrev pub ahead : Bool → ℕ → List (List ℕ) → List (List ℕ)
ahead true b ts = [] ∷ ts
ahead false b ts = onto b ts

unfoldable pub lines : List ℕ → List (List ℕ)
lines [] = []
lines (b ∷ s) = ahead (b == 10) b (lines s)

-- j is where the text that starts at i ends
pub record Line (s : List ℕ) (i j : ℕ) : Type 0 where
  pub from : i ≤ j
  pub to : j ≤ length s
  pub inside : (k : ℕ) → k < j - i → slice_index s (i + k) ≢ 10
  pub stop : j < length s → slice_index s j ≡ 10

-- where the text after it starts
pub record Next (s : List ℕ) (j m : ℕ) : Type 0 where
  pub more : j < length s → m ≡ j + 1
  pub last : length s ≤ j → m ≡ j

ended : lines (7 ∷ 10 ∷ 10 ∷ 8 ∷ 9 ∷ 10 ∷ []) ≡ (7 ∷ []) ∷ [] ∷ (8 ∷ 9 ∷ []) ∷ []
unfolding lines
ended = refl

unended : lines (7 ∷ 10 ∷ 8 ∷ 9 ∷ []) ≡ (7 ∷ []) ∷ (8 ∷ 9 ∷ []) ∷ []
unfolding lines
unended = refl
