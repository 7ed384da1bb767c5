-- What demand 2 says of a call: what it wrote, what a reading says, and when it is refused.
-- Assumes nothing.
use Rattle.std.specs.Prelude.{ℕ, ◌≤◌, ◌<◌, ◌≡◌, ◌↔◌, Bool, true, false, cond, List, eqb, length, take, drop}
use Rattle.text.specs.declared.Fault.{Fault}
use Rattle.text.specs.declared.Written.{Written}
use Rattle.text.specs.Fault.{has_place}
use Rattle.text.specs.Part.{ascii}
use Rattle.text.specs.Put.{done}
use Rattle.text.specs.Refusal.{too_long, not_ascii, not_a_path, no_room}
use Rattle.path.specs.declared.Path.{Path}
use Rattle.path.specs.Reading.{Read}
use Rattle.path.specs.declared.Refusal.{Refusal}
use Rattle.path.specs.Kinds.{Part, Carried, Kind, kinds}
use Rattle.path.specs.Text.{part_of}
use Rattle.path.specs.Number.{NumberWrong}
use Rattle.path.specs.Read.{fits, fits_kind, read_path, render_path, refusal_of, as_fault}
use Rattle.path.specs.Reads.{Has}
use Rattle.path.specs.View.{kind_of, carried_of}
use Rattle.demands.specs.Told.{Told}

-- a call that wrote w: it answers 0 and its length, and w stands at the start of the buffer
pub record Done (w : List ℕ) (x : Written) (out₁ : List ℕ) : Type 0 where
  pub answered : x ≡ done (length w)
  pub shown : take x.length out₁ ≡ w

-- a reading of the text w says this kind, these identifiers and these numbers, exact
pub record Back (w : List ℕ) (said : Told) (kind : ℕ) (v : Carried (List ℕ)) : Type 0 where
  pub kind_is : said.kind ≡ kind
  pub exact : said.mark ≡ 1
  pub first_is : part_of w said.first ≡ v.first
  pub second_is : part_of w said.second ≡ v.second
  pub a_is : said.a ≡ v.a
  pub b_is : said.b ≡ v.b

-- the 26 bytes say of the text t what its typed path p is: its kind, the places of its identifiers, its numbers. The mark is 1 where the rendering is
-- the text, and 0 where it is not
pub record Says (t : List ℕ) (p : Path) (said : Told) : Type 0 where
  pub kind_is : said.kind ≡ kind_of p
  pub exact : (said.mark ≡ 1) ↔ (render_path t p ≡ t)
  pub loose : (said.mark ≡ 0) ↔ (render_path t p ≡ t → ⊥)
  pub first_is : said.first ≡ (carried_of p).first
  pub second_is : said.second ≡ (carried_of p).second
  pub a_is : said.a ≡ (carried_of p).a
  pub b_is : said.b ≡ (carried_of p).b

-- a call with this refusal and this length leaves the rest of its buffer: bytes behind what it wrote stay, and a refusal writes none
pub record Leaves (refusal n : ℕ) (out out₁ : List ℕ) : Type 0 where
  pub later : drop n out₁ ≡ drop n out
  pub nothing : (refusal ≡ 0 → ⊥) → (n ≡ 0) × (out₁ ≡ out)

-- a reading has 26 bytes, and a refusal none
abbrev pub read_length : Fault → ℕ
read_length f = cond (eqb f.refusal 0) 26 0

-- no kind of the table fits
abbrev pub NoKind : List ℕ → Type 0
NoKind t = (e : Kind) → Has kinds e → fits_kind e t ≡ false

-- no kind fits but for a number, where `good` tells that a component is what a part asks for
abbrev pub NoNumber : (Part → List ℕ → Bool) → List ℕ → Type 0
NoNumber good t = (w : Refusal) → NumberWrong good t w → ⊥

-- the answer f to a reading of t into `out`: each refusal exactly when. 17, 18 and 19 have the place that is told, and all else has 0
pub record WhenRead (t out : List ℕ) (f : Fault) : Type 0 where
  pub too_long_when : (f.refusal ≡ too_long) ↔ (4096 < length t)
  pub not_ascii_when : (f.refusal ≡ not_ascii) ↔ ((length t ≤ 4096) × (ascii t ≡ false))
  pub not_a_path_when : (f.refusal ≡ not_a_path) ↔ ((length t ≤ 4096) × (ascii t ≡ true) × NoKind t × NoNumber fits t)
  pub bad_number : (w : Refusal) → has_place (refusal_of w) ≡ true → (f ≡ as_fault w) ↔ ((length t ≤ 4096) × (ascii t ≡ true) × NumberWrong fits t w)
  pub no_room_when : (f.refusal ≡ no_room) ↔ (((p : Path) × (e : Bool) × (read_path t ≡ Read p e)) × (length out < 26))
  pub done : (f.refusal ≡ 0) ↔ (((p : Path) × (e : Bool) × (read_path t ≡ Read p e)) × (26 ≤ length out))
  pub placeless : has_place f.refusal ≡ false → f.place ≡ 0
