-- What lies below a path, in the words of request L12: a text that stands above another, a consensus state with its processed time and its
-- processed height, and what can stand above an upgrade path.
-- Assumes nothing.
use Rattle.std.specs.Prelude.{ℕ, ◌+◌, ◌≤◌, ◌<◌, ◌≡◌, ◌⊎◌, true, List, ◌∷◌, ◌++◌}
use Rattle.std.proofs.Math.Option.{some}
use Rattle.std.proofs.Math.ListN.{get_elem?}
use Rattle.text.specs.Bytes.{bytes}
use Rattle.text.specs.Number.{decimal}
use Rattle.text.specs.Part.{starts_with}
use Rattle.path.specs.Kinds.{Carried}
use Rattle.path.specs.Read.{render, parts_of}
use Rattle.book_records.specs.Act.{Rec}

-- the text t followed by `/` begins the text u
abbrev pub Above : List ℕ → List ℕ → Type 0
Above t u = starts_with (t ++ bytes "/") u ≡ true

-- the rendering of a path, by its kind and what it carries
abbrev pub renders : ℕ → Carried (List ℕ) → List ℕ
renders k v = render (parts_of k) v

-- a path is an upgrade path
abbrev pub Upgrade : ℕ → Type 0
Upgrade k = (k ≡ 18) ⊎ (k ≡ 19)

-- the first is a consensus state and the second its processed time or processed height: the same client and the same pair
pub record ItsTimeOrHeight (j : ℕ) (v : Carried (List ℕ)) (k : ℕ) (w : Carried (List ℕ)) : Type 0 where
  pub state : j ≡ 5
  pub time_or_height : (k ≡ 6) ⊎ (k ≡ 7)
  pub client : v.first ≡ w.first
  pub number : v.a ≡ w.a
  pub height : v.b ≡ w.b

-- U is the word of kind j, one of the three kinds that are one word
abbrev pub CounterWord : ℕ → List ℕ → Type 0
CounterWord j U = ((j ≡ 1) × (U ≡ bytes "nextClientSequence")) ⊎ (((j ≡ 2) × (U ≡ bytes "nextConnectionSequence")) ⊎ ((j ≡ 3) × (U ≡ bytes "nextChannelSequence")))

-- what stands above an upgrade path of U and n: a path of kind 1, 2 or 3, where U is its word, or one of kind 10, where U is `ports` and
-- the port is the text of n
pub data AboveUpgrade (j : ℕ) (v : Carried (List ℕ)) (U : List ℕ) (n : ℕ) : Type 0 where
  a_counter : CounterWord j U → AboveUpgrade j v U n
  a_port : j ≡ 10 → U ≡ bytes "ports" → v.first ≡ decimal n → AboveUpgrade j v U n

-- that something does: U is one of the three words, or `ports` where n has two digits or more, as a port has two bytes or more
abbrev pub SomeAbove : List ℕ → ℕ → Type 0
SomeAbove U n = ((j : ℕ) × CounterWord j U) ⊎ ((U ≡ bytes "ports") × (10 ≤ n))

-- ---- in a book
-- the record at place j of these is the owner o's, and stands under the text t
abbrev pub Stands : List Rec → ℕ → ℕ → List ℕ → Type 0
Stands s o j t = (r : Rec) × (get_elem? s j ≡ some r) × (r.0 ≡ o ∷ t)

-- behind an owner's record of a consensus state, at place i, stand those of that owner below it
pub record Neighbours (s : List Rec) (o : ℕ) (i : ℕ) (v : Carried (List ℕ)) : Type 0 where
  -- that of its processed height is the next
  pub height_next : (j : ℕ) → Stands s o j (renders 7 v) → j ≡ i + 1
  -- that of its processed time is the next, or the one behind that of its processed height
  pub time_next : (j : ℕ) → Stands s o j (renders 6 v) → (j ≡ i + 1) ⊎ ((j ≡ i + 2) × Stands s o (i + 1) (renders 7 v))
  -- and no record of that owner at another place has a text below it
  pub no_other : (j : ℕ) (k : List ℕ) → Stands s o j k → Above (renders 5 v) k → (i < j) × (j ≤ i + 2)
