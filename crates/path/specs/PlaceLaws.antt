-- The places of what was read lie in the text, so that what is shown of each is what stands there.
-- Assumes nothing.
use Rattle.std.specs.Prelude.{ℕ, ◌+◌, ◌-◌, ◌≤◌, ◌≡◌, List, [], ◌∷◌, length}
use Rattle.std.proofs.Common.{ap, ◌∙◌, arith, le-leb}
use Rattle.path.specs.declared.Place.{Place}
use Rattle.path.specs.declared.Path.{Path}
use Rattle.path.specs.Text.{place_at, part_of, shown_of}
use Rattle.path.specs.TextLaws.{place-within}
use Rattle.path.specs.Kinds.{Part, word, name, count, pair, Carried, set_name}
use Rattle.path.specs.declared.name.Name.{Name}
use Rattle.path.specs.declared.name.Name.TheVariants.{Client as client, Connection as connection, Port as port, Channel as channel, Upgrade as upgrade}
use Rattle.path.specs.Read.{carried_from}
use Rattle.path.specs.View.{carried_of}
use Rattle.path.specs.Reads.{Reads}
use Rattle.path.specs.ReadLaws.{made-carried}

-- the places end in the text
abbrev pub Lie : List ℕ → Carried Place → Type 0
Lie t v = (v.first.start + v.first.len ≤ length t) × (v.second.start + v.second.len ≤ length t)

name_lies : (t : List ℕ) (n : Name) (p : Place) (v : Carried Place) → p.start + p.len ≤ length t → Lie t v → Lie t (set_name n p v)
name_lies t client p v h l = (h, l.1)
name_lies t connection p v h l = (h, l.1)
name_lies t port p v h l = (h, l.1)
name_lies t channel p v h l = (l.0, h)
name_lies t upgrade p v h l = (h, l.1)

carried_lies : (t : List ℕ) (k : ℕ) (ps : List Part) → Lie t (carried_from k ps t)
carried_lies t k [] = (omega arith, omega arith)
carried_lies t k (word w ∷ ps) = carried_lies t (k + 1) ps
carried_lies t k (name n ∷ ps) = name_lies t n (place_at t k) (carried_from (k + 1) ps t) (place-within t k) (carried_lies t (k + 1) ps)
carried_lies t k (count ∷ ps) = carried_lies t (k + 1) ps
carried_lies t k (pair ∷ ps) = carried_lies t (k + 1) ps

pub read_lies : (t : List ℕ) (p : Path) → Reads t p → Lie t (carried_of p)
read_lies t p r =
    let e = ap carried_of r.made ∙ made-carried r.listed t in
    let l = carried_lies t 0 r.kind.parts in
    (rw e l.0, rw e l.1)

pub shown_lies : (t : List ℕ) (p : Place) → p.start + p.len ≤ length t → shown_of t p ≡ part_of t p
unfolding shown_of
shown_lies t p h = rw (le-leb p.start (length t) (omega arith), le-leb p.len (length t - p.start) (omega arith))

-- what is shown of the identifiers of what was read
pub shown_read : (t : List ℕ) (p : Path) → Reads t p → (shown_of t (carried_of p).first ≡ part_of t (carried_of p).first) × (shown_of t (carried_of p).second ≡ part_of t (carried_of p).second)
shown_read t p r = let l = read_lies t p r in (shown_lies t _ l.0, shown_lies t _ l.1)
