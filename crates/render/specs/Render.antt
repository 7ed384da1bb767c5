-- Two steps of a rendering: which identifiers are checked, and that the text is short enough.
-- Assumes nothing.
use Rattle.std.specs.Prelude.{ℕ, cond, List, eqb, ltb, leb, length}
use Rattle.text.specs.Refusal.{too_long}
use Rattle.text.specs.Put.{Wanted, refused, accepted}
use Rattle.identifiers.specs.Check.{first, unless}
use Rattle.path.specs.declared.name.Name.{Name}
use Rattle.path.specs.declared.name.Name.TheVariants.{Client as client, Connection as connection, Port as port, Channel as channel, Upgrade as upgrade}
use Rattle.render.specs.declared.Names.{Names}
use Rattle.render.specs.declared.Names.TheVariants.{One, PortAndChannel}

-- the identifiers of a kind, by its number from 4 on
unfoldable pub names_of : ℕ → Names
names_of k = cond (ltb k 9) (One client) (cond (ltb k 10) (One connection) (cond (ltb 17 k) (One upgrade) (cond (ltb k 11) (One port) PortAndChannel)))

-- the first refusal of these identifiers, where f checks one
abbrev pub fault_by : (Name → List ℕ → ℕ) → Names → List ℕ → List ℕ → ℕ
fault_by f (One n) one two = f n one
fault_by f PortAndChannel one two = first (f port one) (f channel two)

-- a text of at most 4,096 bytes
unfoldable pub short : List ℕ → Wanted
short w = accepted (unless too_long (leb (length w) 4096)) w

-- what is wanted, unless a check refused
abbrev pub checked : ℕ → Wanted → Wanted
checked n w = cond (eqb n 0) w (refused n)
