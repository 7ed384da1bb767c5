-- Components one by one: that each is what its part asks for, and that each is spelled as it is rendered.
-- Assumes nothing.
use Rattle.std.specs.Prelude.{ℕ, suc, ◌+◌, Bool, true, false, ◌&&◌, List, [], ◌∷◌, eqb, length, get_or}
use Rattle.text.specs.Number.{decimal}
use Rattle.path.specs.Text.{component, cut_at}
use Rattle.path.specs.Kinds.{Part, word, name, count, pair}
use Rattle.path.specs.Read.{fits, number_in}

-- as many components as parts, and each passes the test of its part
abbrev pub all_of : (Part → List ℕ → Bool) → List Part → List (List ℕ) → Bool
all_of f [] [] = true
all_of f [] (c ∷ cs) = false
all_of f (p ∷ ps) [] = false
all_of f (p ∷ ps) (c ∷ cs) = f p c && all_of f ps cs

abbrev pub fit_all : List Part → List (List ℕ) → Bool
fit_all ps cs = all_of fits ps cs

-- a component is as long as its rendering: only a number has more than one spelling
abbrev pub spelled : Part → List ℕ → Bool
spelled (word w) c = true
spelled (name n) c = true
spelled count c = eqb (length (decimal (number_in c))) (length c)
spelled pair c = eqb (length (decimal (number_in (get_or (cut_at 45 c) 0 []))) + suc (length (decimal (number_in (get_or (cut_at 45 c) 1 []))))) (length c)

abbrev pub spelled_from : ℕ → List Part → List ℕ → Bool
spelled_from k [] t = true
spelled_from k (p ∷ ps) t = spelled p (component t k) && spelled_from (k + 1) ps t
