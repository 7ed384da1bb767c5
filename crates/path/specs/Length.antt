-- How long a rendering is, by the lengths of its identifiers.
-- Assumes nothing.
use Rattle.std.specs.Prelude.{ℕ, zero, suc, ◌+◌, List, [], ◌∷◌, length}
use Rattle.text.specs.Number.{width}
use Rattle.path.specs.Kinds.{Part, word, name, count, pair, Carried, name_in}

abbrev pub part_length : Part → Carried ℕ → ℕ
part_length (word w) v = length w
part_length (name n) v = name_in n v
part_length count v = width v.a
part_length pair v = width v.a + suc (width v.b)

-- the parts, with one byte between each two
unfoldable pub render_length : List Part → Carried ℕ → ℕ
render_length [] v = 0
render_length (p ∷ []) v = part_length p v
render_length (p ∷ (q ∷ ps)) v = part_length p v + suc (render_length (q ∷ ps) v)

-- ---- the same in three sums: words, slashes and dashes; identifiers; numbers
abbrev fixed_part : Part → ℕ
fixed_part (word w) = length w
fixed_part (name n) = 0
fixed_part count = 0
fixed_part pair = 1

unfoldable pub fixed : List Part → ℕ
fixed [] = 0
fixed (p ∷ []) = fixed_part p
fixed (p ∷ (q ∷ ps)) = fixed_part p + suc (fixed (q ∷ ps))

unfoldable pub names_in : List Part → Carried ℕ → ℕ
names_in [] v = 0
names_in (word w ∷ ps) v = names_in ps v
names_in (name n ∷ ps) v = name_in n v + names_in ps v
names_in (count ∷ ps) v = names_in ps v
names_in (pair ∷ ps) v = names_in ps v

unfoldable pub numbers_in : List Part → Carried ℕ → ℕ
numbers_in [] v = 0
numbers_in (word w ∷ ps) v = numbers_in ps v
numbers_in (name n ∷ ps) v = numbers_in ps v
numbers_in (count ∷ ps) v = width v.a + numbers_in ps v
numbers_in (pair ∷ ps) v = width v.a + (width v.b + numbers_in ps v)

-- how many identifiers and numbers there are
unfoldable pub name_count : List Part → ℕ
name_count [] = 0
name_count (word w ∷ ps) = name_count ps
name_count (name n ∷ ps) = suc (name_count ps)
name_count (count ∷ ps) = name_count ps
name_count (pair ∷ ps) = name_count ps

unfoldable pub number_count : List Part → ℕ
number_count [] = 0
number_count (word w ∷ ps) = number_count ps
number_count (name n ∷ ps) = number_count ps
number_count (count ∷ ps) = suc (number_count ps)
number_count (pair ∷ ps) = suc (suc (number_count ps))

-- the sum of the first n of two
unfoldable pub first_of : ℕ → ℕ → ℕ → ℕ
first_of zero x y = 0
first_of (suc zero) x y = x + 0
first_of (suc (suc n)) x y = x + (y + 0)
