-- The byte order of texts: the first byte that differs decides, and a text comes before its longer continuations.
-- Assumes nothing.
use Rattle.std.specs.Prelude.{◌≡◌, List, [], ◌∷◌}
use Prim.Native.Nat.{ℕ, compare, Ordering}

-- a choice by an order
abbrev pub by : {X : Type 0} → Ordering → X → X → X → X
by Ordering.lt x y z = x
by Ordering.eq x y z = y
by Ordering.gt x y z = z

-- the first order decides, and the second where that says equal
abbrev pub then : Ordering → Ordering → Ordering
then o p = by o Ordering.lt p Ordering.gt

unfoldable pub cmp : List ℕ → List ℕ → Ordering
cmp [] [] = Ordering.eq
cmp [] (y ∷ b) = Ordering.lt
cmp (x ∷ a) [] = Ordering.gt
cmp (x ∷ a) (y ∷ b) = then (compare x y) (cmp a b)

-- a stands before b
abbrev pub Before : List ℕ → List ℕ → Type 0
Before a b = cmp a b ≡ Ordering.lt
