-- What request L8 says of a wide call: which identifiers are accepted, by their characters, and when a reading is refused.
-- Assumes nothing.
use Rattle.std.specs.Prelude.{ℕ, ◌≤◌, ◌<◌, ◌^◌, ◌≡◌, ◌↔◌, Bool, true, false, cond, ◌&&◌, List, eqb, ltb, length, Some, None}
use Rattle.text.specs.declared.Fault.{Fault}
use Rattle.text.specs.Fault.{has_place}
use Rattle.text.specs.Part.{same}
use Rattle.text.specs.Refusal.{too_long, not_a_path, no_room, bad_utf8}
use Rattle.identifiers.specs.Check.{identifier_byte, Rule, form_of}
use Rattle.path.specs.declared.Path.{Path}
use Rattle.path.specs.declared.Refusal.{Refusal}
use Rattle.path.specs.Reading.{Read}
use Rattle.path.specs.Kinds.{Part, word, name, count, pair, Carried, Kind, kinds}
use Rattle.path.specs.Text.{cut_at}
use Rattle.path.specs.Reads.{Has}
use Rattle.path.specs.Number.{NumberWrong}
use Rattle.path.specs.Read.{is_number, are_pair, all_from, component_count, render, parts_of, texts_of, refusal_of, as_fault}
use Rattle.path.specs.View.{kind_of, carried_of}
use Rattle.letters.specs.Character.{Character, characters, each, utf8}
use Rattle.letters.specs.Class.{is_letter}
use Rattle.wide.specs.Mode.{wide}
use Rattle.wide.specs.Read.{read_in}
use Rattle.wide.specs.Render.{name_fault_in, names_fault_in}
use Rattle.demands.specs.Written.{NoNumber}

-- a character of an identifier: of ASCII one of its bytes, beyond ASCII a letter or number of the table
abbrev pub allowed : Character → Bool
allowed (Some c) = cond (ltb c.value 128) (identifier_byte c.value) (is_letter c.value)
allowed None = false

-- a text that an identifier's rule accepts: UTF-8, of such characters, with length in bytes and form
pub record Fine (r : Rule) (s : List ℕ) : Type 0 where
  pub taken : utf8 s ≡ true
  pub made_of : each allowed (characters s) ≡ true
  pub least : r.least ≤ length s
  pub most : length s ≤ r.most
  pub form : form_of r.form s ≡ 0

-- a valid typed path with wide identifiers
pub record WideValid (k : ℕ) (v : Carried (List ℕ)) : Type 0 where
  pub least : 1 ≤ k
  pub most : k ≤ 19
  pub names : names_fault_in wide (parts_of k) v ≡ 0
  pub a : v.a < 2 ^ 64
  pub b : v.b < 2 ^ 64
  pub size : length (render (parts_of k) v) ≤ 4096

-- the text t reads, exact, as the path of kind k with these identifiers, which are parts of t itself, and these numbers
pub record WideReadsAs (t : List ℕ) (k : ℕ) (v : Carried (List ℕ)) : Type 0 where
  pub path : Path
  pub read : read_in wide t ≡ Some (Read path true)
  pub kind : kind_of path ≡ k
  pub carried : texts_of t (carried_of path) ≡ v

-- a component of the text itself is what the part asks for, its identifiers by the wide check; and so a whole text of a kind
abbrev pub fits_wide : Part → List ℕ → Bool
fits_wide (word w) c = same c w
fits_wide (name n) c = eqb (name_fault_in wide n c) 0
fits_wide count c = is_number c
fits_wide pair c = are_pair (cut_at 45 c)

abbrev pub fits_kind_wide : Kind → List ℕ → Bool
fits_kind_wide e t = eqb (component_count t) (length e.parts) && all_from fits_wide 0 e.parts t

-- no kind of the table fits the text itself
abbrev pub NoWideKind : List ℕ → Type 0
NoWideKind t = (e : Kind) → Has kinds e → fits_kind_wide e t ≡ false

-- some kind of the table fits the text itself
abbrev pub WideKind : List ℕ → Type 0
WideKind t = (e : Kind) × Has kinds e × (fits_kind_wide e t ≡ true)

-- the answer f to a wide reading of t into `out`: each refusal exactly when
pub record WhenWideRead (t out : List ℕ) (f : Fault) : Type 0 where
  pub too_long_when : (f.refusal ≡ too_long) ↔ (4096 < length t)
  pub bad_utf8_when : (f.refusal ≡ bad_utf8) ↔ ((length t ≤ 4096) × (utf8 t ≡ false))
  pub not_a_path_when : (f.refusal ≡ not_a_path) ↔ ((length t ≤ 4096) × (utf8 t ≡ true) × NoWideKind t × NoNumber fits_wide t)
  pub bad_number : (w : Refusal) → has_place (refusal_of w) ≡ true → (f ≡ as_fault w) ↔ ((length t ≤ 4096) × (utf8 t ≡ true) × NumberWrong fits_wide t w)
  pub no_room_when : (f.refusal ≡ no_room) ↔ ((length t ≤ 4096) × (utf8 t ≡ true) × WideKind t × (length out < 26))
  pub done : (f.refusal ≡ 0) ↔ ((length t ≤ 4096) × (utf8 t ≡ true) × WideKind t × (26 ≤ length out))
  pub placeless : has_place f.refusal ≡ false → f.place ≡ 0
