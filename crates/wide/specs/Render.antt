-- Rendering in a mode: the identifiers are checked in it, and written as they are.
-- Assumes nothing.
use Rattle.std.specs.Prelude.{ℕ, cond, not, ◌&&◌, List, [], ◌∷◌, eqb, leb, length}
use Rattle.text.specs.Part.{every}
use Rattle.text.specs.Refusal.{too_long, bad_segment, bad_kind}
use Rattle.text.specs.Put.{Wanted, refused, accepted}
use Rattle.identifiers.specs.Check.{first, unless}
use Rattle.identifiers.specs.Check as check
use Rattle.path.specs.declared.name.Name.{Name}
use Rattle.path.specs.declared.name.Name.TheVariants.{Client as client, Connection as connection, Port as port, Channel as channel, Upgrade as upgrade}
use Rattle.path.specs.Kinds.{Part, word, name, count, pair, Carried, name_in}
use Rattle.path.specs.Read.{render, parts_of}
use Rattle.wide.specs.Mode.{Mode}
use Rattle.wide.specs.Check.{taken_in, check_in}

unfoldable pub name_fault_in : Mode → Name → List ℕ → ℕ
name_fault_in m client c = check_in m check.client c
name_fault_in m connection c = check_in m check.connection c
name_fault_in m port c = check_in m check.port c
name_fault_in m channel c = check_in m check.channel c
name_fault_in m upgrade c = first (taken_in m c) (unless bad_segment (every (λ b. not (eqb b 47)) c))

unfoldable pub names_fault_in : Mode → List Part → Carried (List ℕ) → ℕ
names_fault_in m [] v = 0
names_fault_in m (word w ∷ ps) v = names_fault_in m ps v
names_fault_in m (name n ∷ ps) v = first (name_fault_in m n (name_in n v)) (names_fault_in m ps v)
names_fault_in m (count ∷ ps) v = names_fault_in m ps v
names_fault_in m (pair ∷ ps) v = names_fault_in m ps v

abbrev pub limited_in : Mode → List Part → Carried (List ℕ) → Wanted
limited_in m ps v = accepted (first (names_fault_in m ps v) (unless too_long (leb (length (render ps v)) 4096))) (render ps v)

unfoldable pub render_in : Mode → ℕ → Carried (List ℕ) → Wanted
render_in m k v = cond (leb 1 k && leb k 19) (limited_in m (parts_of k) v) (refused bad_kind)

-- the texts that are no whole path
unfoldable pub text_in : Mode → List Part → Carried (List ℕ) → Wanted
text_in m ps v = accepted (names_fault_in m ps v) (render ps v)
