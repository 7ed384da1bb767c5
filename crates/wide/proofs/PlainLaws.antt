-- Laws of the checks in the plain mode, and of what is rendered by them, behind those of specs/PlainLaws.
-- They stand here, since they rest on a definition that an edit of must-fail/ turns.
-- Assumes nothing.
use Rattle.std.specs.Prelude.{ℕ, ◌≡◌, refl, List, [], ◌∷◌}
use Rattle.identifiers.specs.Check.{Rule, fault_of, client_type}
use Rattle.identifiers.specs.Owned.{trim, new_client}
use Rattle.path.specs.declared.name.Name.{Name}
use Rattle.path.specs.declared.name.Name.TheVariants.{Client as client, Connection as connection, Port as port, Channel as channel, Upgrade as upgrade}
use Rattle.path.specs.Kinds.{Part, word, name, count, pair, Carried, name_in}
use Rattle.path.specs.Parents.{text_of}
use Rattle.path.specs.Read.{name_fault, names_fault, render_of}
use Rattle.wide.specs.Mode.{plain}
use Rattle.wide.specs.Check.{fault_in, new_client_in}
use Rattle.wide.specs.Render.{name_fault_in, names_fault_in, render_in, text_in}
use Rattle.wide.specs.PlainLaws.{check-plain, trim-plain}

pub fault-plain : (r : Rule) (s : List ℕ) → fault_in plain r s ≡ fault_of r s
unfolding fault_in fault_of
fault-plain r s = rw (check-plain r s)

pub new-plain : (s : List ℕ) (n : ℕ) → new_client_in plain s n ≡ new_client s n
unfolding plain new_client_in new_client
new-plain s n = rw (trim-plain s, check-plain client_type (trim s))

-- ---- rendering
pub name-plain : (n : Name) (c : List ℕ) → name_fault_in plain n c ≡ name_fault n c
unfolding plain name_fault_in name_fault
name-plain client c = check-plain _ c
name-plain connection c = check-plain _ c
name-plain port c = check-plain _ c
name-plain channel c = check-plain _ c
name-plain upgrade c = refl

pub names-plain : (ps : List Part) (v : Carried (List ℕ)) → names_fault_in plain ps v ≡ names_fault ps v
unfolding names_fault_in names_fault
names-plain [] v = refl
names-plain (word w ∷ ps) v = names-plain ps v
names-plain (name n ∷ ps) v = rw (name-plain n (name_in n v), names-plain ps v)
names-plain (count ∷ ps) v = names-plain ps v
names-plain (pair ∷ ps) v = names-plain ps v

pub render-plain : (k : ℕ) (v : Carried (List ℕ)) → render_in plain k v ≡ render_of k v
unfolding render_in render_of
render-plain k v = rw names-plain

pub text-plain : (ps : List Part) (v : Carried (List ℕ)) → text_in plain ps v ≡ text_of ps v
unfolding text_in text_of
text-plain ps v = rw (names-plain ps v)
