-- A text is cut at every `/`, byte 47: its components, and the place of each in the text.
-- Assumes nothing.
use Rattle.std.specs.Prelude.{ℕ, suc, ◌+◌, ◌-◌, List, [], ◌∷◌, ◌++◌, Bool, true, false, cond, ◌&&◌, eqb, leb, length, get_or, take, drop}
use Rattle.path.specs.declared.Place.{Place}

-- one byte more in front of the first component
abbrev pub onto : ℕ → List (List ℕ) → List (List ℕ)
onto b [] = (b ∷ []) ∷ []
onto b (c ∷ cs) = (b ∷ c) ∷ cs

-- one byte more: the separator, or a byte of the first component
abbrev pub cut_step : Bool → ℕ → List (List ℕ) → List (List ℕ)
cut_step true b cs = [] ∷ cs
cut_step false b cs = onto b cs

-- the texts between the bytes x, in order: empty ones count, so there is one more than there are such bytes
unfoldable pub cut_at : ℕ → List ℕ → List (List ℕ)
cut_at x [] = [] ∷ []
cut_at x (b ∷ t) = cut_step (eqb b x) b (cut_at x t)

abbrev pub components : List ℕ → List (List ℕ)
components t = cut_at 47 t

-- the texts with the byte x between each two
unfoldable pub join_by : ℕ → List (List ℕ) → List ℕ
join_by x [] = []
join_by x (c ∷ []) = c
join_by x (c ∷ (d ∷ cs)) = c ++ (x ∷ join_by x (d ∷ cs))

abbrev pub join : List (List ℕ) → List ℕ
join cs = join_by 47 cs

-- the same for places: one byte more in front of the first
abbrev pub longer : ℕ → List Place → List Place
longer i [] = record { start = i; len = 1 } ∷ []
longer i (p ∷ ps) = record { start = i; len = suc p.len } ∷ ps

abbrev pub place_step : Bool → ℕ → List Place → List Place
place_step true i ps = record { start = i; len = 0 } ∷ ps
place_step false i ps = longer i ps

-- the places of the components of a text whose first byte stands at i
unfoldable pub places_from : ℕ → List ℕ → List Place
places_from i [] = record { start = i; len = 0 } ∷ []
places_from i (b ∷ t) = place_step (eqb b 47) i (places_from (i + 1) t)

abbrev pub places : List ℕ → List Place
places t = places_from 0 t

-- no place: the empty part at the start
abbrev pub nowhere : Place
nowhere = record { start = 0; len = 0 }

abbrev pub component : List ℕ → ℕ → List ℕ
component t k = get_or (components t) k []

abbrev pub place_at : List ℕ → ℕ → Place
place_at t k = get_or (places t) k nowhere

-- what stands at a place of a text
abbrev pub part_of : List ℕ → Place → List ℕ
part_of t p = take p.len (drop p.start t)

-- a place lies in a text
abbrev pub lies_in : List ℕ → Place → Bool
lies_in t p = leb p.start (length t) && leb p.len (length t - p.start)

-- what is shown of a place: the empty part at the start where the place does not lie in the text
unfoldable pub shown_of : List ℕ → Place → List ℕ
shown_of t p = cond (lies_in t p) (part_of t p) []

unfoldable pub shown_start : List ℕ → Place → ℕ
shown_start t p = cond (lies_in t p) p.start 0
