-- How far the bytes of a kind run, and how long an identifier at the start of a text is.
-- Assumes nothing.
use Rattle.std.specs.Prelude.{ℕ, suc, List, [], ◌∷◌, Bool, cond, eqb, take, Option, Some, None}
use Rattle.identifiers.specs.Check.{Rule, check_of, identifier_byte}
use Rattle.path.specs.declared.name.Name.{Name}
use Rattle.path.specs.Read.{name_fault}

-- how many bytes from the start on pass the test
unfoldable pub run : (ℕ → Bool) → List ℕ → ℕ
run f [] = 0
run f (b ∷ s) = cond (f b) (suc (run f s)) 0

-- how long the identifier is that the identifier bytes at the start make: 0 where the rule refuses it
unfoldable pub rule_run : Rule → List ℕ → ℕ
rule_run r s = cond (eqb (check_of r (take (run identifier_byte s) s)) 0) (run identifier_byte s) 0

-- the same by the check of a name
unfoldable pub name_run : Name → List ℕ → ℕ
name_run n s = cond (eqb (name_fault n (take (run identifier_byte s) s)) 0) (run identifier_byte s) 0

-- a length, of which 0 tells that there is nothing
unfoldable pub nonzero : ℕ → Option ℕ
nonzero n = cond (eqb n 0) None (Some n)
