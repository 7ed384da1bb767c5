-- When rendering and the writing of a key are refused: each refusal exactly when, in the order of document 01. Rendering is said of any checks of
-- identifiers, so that the plain call and the wide one have the same words.
-- Assumes nothing.
use Rattle.std.specs.Prelude.{ℕ, ◌≤◌, ◌<◌, ◌≡◌, ◌↔◌, ◌⊎◌, Bool, true, false, List, [], ◌∷◌, length}
use Rattle.std.proofs.Math.Option.{some}
use Rattle.std.proofs.Math.ListN.{get_elem?}
use Rattle.text.specs.Fault.{has_place}
use Rattle.text.specs.Part.{ascii}
use Rattle.text.specs.Refusal.{too_long, not_ascii, not_a_path, no_room, bad_segment, bad_kind}
use Rattle.text.specs.declared.Written.{Written}
use Rattle.path.specs.declared.Path.{Path}
use Rattle.path.specs.declared.Refusal.{Refusal}
use Rattle.path.specs.declared.name.Name.{Name}
use Rattle.path.specs.Kinds.{Part, word, name, count, pair, Carried}
use Rattle.path.specs.Number.{NumberWrong}
use Rattle.path.specs.Read.{name_fault, fits, parts_of, render, render_path, refusal_of}
use Rattle.path.specs.Reads.{Reads}
use Rattle.demands.specs.Written.{NoKind}

-- one of the nineteen kinds
abbrev pub IsKind : ℕ → Type 0
IsKind k = (1 ≤ k) × (k ≤ 19)

-- the identifiers that these parts name, in their order
abbrev pub named : List Part → List Name
named [] = []
named (word w ∷ ps) = named ps
named (name n ∷ ps) = n ∷ named ps
named (count ∷ ps) = named ps
named (pair ∷ ps) = named ps

-- what the first identifier of kind k is, and what the second is, where it has them
abbrev pub FirstOf : ℕ → Name → Type 0
FirstOf k n = get_elem? (named (parts_of k)) 0 ≡ some n

abbrev pub SecondOf : ℕ → Name → Type 0
SecondOf k n = get_elem? (named (parts_of k)) 1 ≡ some n

-- a text holds a slash
abbrev pub Slash : List ℕ → Type 0
Slash c = (i : ℕ) × (get_elem? c i ≡ some 47)

-- a number that only an identifier can give
pub record OfAName (r : ℕ) : Type 0 where
  pub no_zero : r ≡ 0 → ⊥
  pub no_kind : r ≡ bad_kind → ⊥
  pub no_length : r ≡ too_long → ⊥
  pub no_room_when : r ≡ no_room → ⊥

-- of kind k with what it is given, by the checks of identifiers
module _ (check : Name → List ℕ → ℕ) (k : ℕ) (v : Carried (List ℕ)) where
  -- the check of the first identifier gives r, and that of the second
  abbrev pub FirstGets : ℕ → Type 0
  FirstGets r = (n : Name) × FirstOf k n × (check n v.first ≡ r)

  abbrev pub SecondGets : ℕ → Type 0
  SecondGets r = (n : Name) × SecondOf k n × (check n v.second ≡ r)

  -- it is accepted, or the kind has none
  abbrev pub FirstFine : Type 0
  FirstFine = (n : Name) → FirstOf k n → check n v.first ≡ 0

  abbrev pub SecondFine : Type 0
  SecondFine = (n : Name) → SecondOf k n → check n v.second ≡ 0

  -- a kind, with every identifier that it has accepted
  abbrev pub Fine : Type 0
  Fine = IsKind k × FirstFine × SecondFine

  -- the answer x to a rendering into `out`: "14, first identifier, second identifier (for U: 2, 13), 1, 4". By the test of the texts that are taken, and
  -- the refusal of all others
  pub record WhenRenderedBy (takes : List ℕ → Bool) (other : ℕ) (out : List ℕ) (x : Written) : Type 0 where
    pub bad_kind_when : (x.refusal ≡ bad_kind) ↔ (IsKind k → ⊥)
    pub bad_name : (r : ℕ) → OfAName r → (x.refusal ≡ r) ↔ (IsKind k × (FirstGets r ⊎ (FirstFine × SecondGets r)))
    pub not_taken : (x.refusal ≡ other) ↔ (IsKind k × (((n : Name) × FirstOf k n × (takes v.first ≡ false)) ⊎ (FirstFine × ((n : Name) × SecondOf k n × (takes v.second ≡ false)))))
    pub bad_segment_when : (x.refusal ≡ bad_segment) ↔ (((k ≡ 18) ⊎ (k ≡ 19)) × (takes v.first ≡ true) × Slash v.first)
    pub too_long_when : (x.refusal ≡ too_long) ↔ (Fine × (4096 < length (render (parts_of k) v)))
    pub no_room_when : (x.refusal ≡ no_room) ↔ (Fine × (length (render (parts_of k) v) ≤ 4096) × (length out < length (render (parts_of k) v)))
    pub done : (x.refusal ≡ 0) ↔ (Fine × (length (render (parts_of k) v) ≤ 4096) × (length (render (parts_of k) v) ≤ length out))

-- the answer x of `hp_render`
abbrev pub WhenRendered : ℕ → Carried (List ℕ) → List ℕ → Written → Type 0
WhenRendered k v out x = WhenRenderedBy name_fault k v ascii not_ascii out x

-- the answer x to the writing of the key of t into `out`: the order of reading, 1, 2, 3 (or 17, 18, 19), 4, where room is wanted for the rendering. By the
-- test of the texts that are taken, the refusal of all others, what is seen of a text, that no kind fits it, and that only a number of it is wrong
module _ (takes : List ℕ → Bool) (other : ℕ) (seen : List ℕ → List ℕ) (Unfit : List ℕ → Type 0) (Wrong : List ℕ → Refusal → Type 0) where
  pub record WhenKeyedBy (t out : List ℕ) (x : Written) : Type 0 where
    pub too_long_when : (x.refusal ≡ too_long) ↔ (4096 < length t)
    pub not_taken : (x.refusal ≡ other) ↔ ((length t ≤ 4096) × (takes t ≡ false))
    pub not_a_path_when : (x.refusal ≡ not_a_path) ↔ ((length t ≤ 4096) × (takes t ≡ true) × Unfit t × ((w : Refusal) → Wrong t w → ⊥))
    pub bad_number : (r : ℕ) → has_place r ≡ true → (x.refusal ≡ r) ↔ ((length t ≤ 4096) × (takes t ≡ true) × ((w : Refusal) × (refusal_of w ≡ r) × Wrong t w))
    pub no_room_when : (x.refusal ≡ no_room) ↔ ((length t ≤ 4096) × (takes t ≡ true) × ((p : Path) × Reads (seen t) p × (length out < length (render_path t p))))
    pub done : (x.refusal ≡ 0) ↔ ((length t ≤ 4096) × (takes t ≡ true) × ((p : Path) × Reads (seen t) p × (length (render_path t p) ≤ length out)))

-- the answer x of `hp_key`
abbrev pub WhenKeyed : List ℕ → List ℕ → Written → Type 0
WhenKeyed t out x = WhenKeyedBy ascii not_ascii (λ s. s) NoKind (NumberWrong fits) t out x
