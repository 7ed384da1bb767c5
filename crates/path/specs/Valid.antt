-- A valid typed path: its kind's number, the texts of its identifiers and its numbers, with a rendering that may be read.
-- Assumes nothing.
use Rattle.std.specs.Prelude.{ℕ, ◌≤◌, ◌<◌, ◌^◌, ◌≡◌, true, List, [], ◌∷◌, length}
use Rattle.path.specs.declared.Path.{Path}
use Rattle.path.specs.Reading.{Read}
use Rattle.path.specs.Kinds.{Part, word, name, count, pair, Carried, carried, name_in, set_name}
use Rattle.path.specs.Read.{render, parts_of, texts_of, names_fault, read_path}
use Rattle.path.specs.View.{kind_of, carried_of}

pub record Valid (k : ℕ) (v : Carried (List ℕ)) : Type 0 where
  -- one of the nineteen kinds
  pub least : 1 ≤ k
  pub most : k ≤ 19
  -- each identifier that the kind has is accepted
  pub names : names_fault (parts_of k) v ≡ 0
  -- the numbers are u64
  pub a : v.a < 2 ^ 64
  pub b : v.b < 2 ^ 64
  pub size : length (render (parts_of k) v) ≤ 4096

-- ---- what a kind has of two identifiers and two numbers: what it lacks is empty or 0
abbrev pub set_count : ℕ → Carried (List ℕ) → Carried (List ℕ)
set_count m v = carried v.first v.second m v.b

abbrev pub set_pair : ℕ → ℕ → Carried (List ℕ) → Carried (List ℕ)
set_pair m n v = carried v.first v.second m n

abbrev pub only : List Part → Carried (List ℕ) → Carried (List ℕ)
only [] v = carried [] [] 0 0
only (word w ∷ ps) v = only ps v
only (name n ∷ ps) v = set_name n (name_in n v) (only ps v)
only (count ∷ ps) v = set_count v.a (only ps v)
only (pair ∷ ps) v = set_pair v.a v.b (only ps v)

-- the text t reads, exact, as the path of kind k with these identifiers and numbers
pub record ReadsAs (t : List ℕ) (k : ℕ) (v : Carried (List ℕ)) : Type 0 where
  pub path : Path
  pub read : read_path t ≡ Read path true
  pub kind : kind_of path ≡ k
  pub carried : texts_of t (carried_of path) ≡ v
