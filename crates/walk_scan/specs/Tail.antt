-- What the rest of a text reads as, part by part: the walk's own words.
-- Assumes nothing.
use Rattle.std.specs.Prelude.{ℕ, ◌+◌, List, [], ◌∷◌, Bool, true, cond, ◌&&◌, eqb}
use Rattle.path.specs.declared.Place.{Place}
use Rattle.path.specs.Text.{components, places_from, nowhere}
use Rattle.path.specs.Kinds.{Part, Carried, carried}
use Rattle.path.specs.Read.{adds}
use Rattle.path.specs.Spelled.{fit_all, spelled}

-- what parts carry, by the components and their places
abbrev pub carried_all : List Part → List (List ℕ) → List Place → Carried Place
carried_all [] cs qs = carried nowhere nowhere 0 0
carried_all (p ∷ ps) [] qs = carried nowhere nowhere 0 0
carried_all (p ∷ ps) (c ∷ cs) [] = carried nowhere nowhere 0 0
carried_all (p ∷ ps) (c ∷ cs) (q ∷ qs) = adds p c q (carried_all ps cs qs)

-- whether each number is spelled as it is rendered
abbrev pub spelled_all : List Part → List (List ℕ) → Bool
spelled_all [] cs = true
spelled_all (p ∷ ps) [] = true
spelled_all (p ∷ ps) (c ∷ cs) = spelled p c && spelled_all ps cs

-- nothing, or what parts carry and whether it is exact
pub data Tail : Type 0 where
  none : Tail
  some : Carried Place → Bool → Tail

-- what the rest s of a text reads as these parts; `at` is the place of its first byte
unfoldable pub tail_of : List Part → ℕ → List ℕ → Tail
tail_of ps at s = cond (fit_all ps (components s)) (some (carried_all ps (components s) (places_from at s)) (spelled_all ps (components s))) none

-- the same after a component that ends at e: the text's end, or a slash and the parts
unfoldable pub after_of : List Part → ℕ → List ℕ → Tail
after_of [] e [] = some (carried nowhere nowhere 0 0) true
after_of [] e (b ∷ r) = none
after_of (p ∷ ps) e [] = none
after_of (p ∷ ps) e (b ∷ r) = cond (eqb b 47) (tail_of (p ∷ ps) (e + 1) r) none

-- with the component c at the place q in front
abbrev pub added : Part → List ℕ → Place → Tail → Tail
added p c q none = none
added p c q (some v e) = some (adds p c q v) (spelled p c && e)

-- what ends a component: the text's end, or a slash
pub data Stops : List ℕ → Type 0 where
  at_end : Stops []
  at_slash : (r : List ℕ) → Stops (47 ∷ r)
