-- What the cutter answers: eight starts and a count that tells "more than seven".
-- Assumes nothing.
use Rattle.std.specs.Prelude.{ℕ, zero, suc, min, List, [], ◌∷◌, map, length}
use Rattle.path.specs.declared.Place.{Place}
use Rattle.path.specs.declared.Cut.{Cut}
use Rattle.path.specs.Text.{places}

abbrev pub start_of : Place → ℕ
start_of p = p.start

-- the first n of a list, and zeros after its last
abbrev pub pad : ℕ → List ℕ → List ℕ
pad zero l = []
pad (suc n) [] = 0 ∷ pad n []
pad (suc n) (x ∷ l) = x ∷ pad n l

-- the starts of the first eight components, zeros after the last; the number of components, 8 where there are more than seven
unfoldable pub cut_of : List ℕ → Cut
cut_of t = record { starts = pad 8 (map start_of (places t)); count = min 8 (length (places t)) }
