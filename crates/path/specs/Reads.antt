-- Reading as a relation: some kind of the table fits. That it is what the reader answers is in `ReadLaws`.
-- Assumes nothing.
use Rattle.std.specs.Prelude.{ℕ, ◌-◌, ◌≡◌, true, List, ◌∷◌, get_or}
use Rattle.path.specs.declared.Path.{Path}
use Rattle.path.specs.declared.PathView.{PathView}
use Rattle.path.specs.Kinds.{Kind, kinds, kind1, carried}
use Rattle.path.specs.Read.{carried_from, fits_kind}

-- a list of kinds has the kind e
pub data Has : List Kind → Kind → Type 0 where
  here : {e : Kind} {es : List Kind} → Has (e ∷ es) e
  later : {e x : Kind} {es : List Kind} → Has es e → Has (x ∷ es) e

-- some kind of the table fits the text, and p is what it makes
pub record Reads (t : List ℕ) (p : Path) : Type 0 where
  pub kind : Kind
  pub listed : Has kinds kind
  pub fitting : fits_kind kind t ≡ true
  pub made : p ≡ kind.make (carried_from 0 kind.parts t)

-- kind k, counted from 1
abbrev pub kind_at : ℕ → Kind
kind_at k = get_or kinds (k - 1) kind1

-- the path of a flat form
abbrev pub typed_of : PathView → Path
typed_of v = (kind_at v.kind).make (carried v.first v.second v.a v.b)
