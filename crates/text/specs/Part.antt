-- Tests on a text, which is the list of its bytes.
-- Assumes nothing.
use Rattle.std.specs.Prelude.{ℕ, Bool, true, false, ◌&&◌, List, [], ◌∷◌, ltb, eqb}

-- each byte passes the test
unfoldable pub every : (ℕ → Bool) → List ℕ → Bool
every f [] = true
every f (b ∷ rest) = f b && every f rest

-- each byte is below 128
unfoldable pub ascii : List ℕ → Bool
ascii s = every (λ b. ltb b 128) s

-- s starts with w
unfoldable pub starts_with : List ℕ → List ℕ → Bool
starts_with [] s = true
starts_with (x ∷ w) [] = false
starts_with (x ∷ w) (y ∷ s) = eqb y x && starts_with w s

-- the two texts are the same
unfoldable pub same : List ℕ → List ℕ → Bool
same [] [] = true
same [] (y ∷ ys) = false
same (x ∷ xs) [] = false
same (x ∷ xs) (y ∷ ys) = eqb x y && same xs ys
