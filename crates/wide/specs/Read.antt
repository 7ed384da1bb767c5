-- Reading in a mode: kind, places, numbers and faults are those of what is seen of the text.
-- Assumes nothing.
use Rattle.std.specs.Prelude.{ℕ, cond, List, ltb, length, Err, Option, Some, None}
use Rattle.text.specs.Put.{Wanted, refused, answer}
use Rattle.text.specs.declared.Fault.{Fault}
use Rattle.path.specs.Reading.{Reading}
use Rattle.path.specs.declared.Refusal.TheVariants.{TooLong}
use Rattle.path.specs.Read.{read_place, read_path, key_by, bytes_by}
use Rattle.wide.specs.Mode.{Mode}

unfoldable pub read_in : Mode → List ℕ → Option Reading
read_in m t = cond (ltb 4096 (length t)) (Some (Err TooLong)) (cond (m.takes t) (Some (read_path (m.seen t))) None)

-- the place of each answer
abbrev pub place_in : Option Reading → ℕ
place_in (Some r) = read_place r
place_in None = 0

-- the rendering with the identifiers of the text itself
abbrev pub key_by_in : Mode → List ℕ → Option Reading → Wanted
key_by_in m t (Some r) = key_by t r
key_by_in m t None = refused m.other

unfoldable pub key_in : Mode → List ℕ → Wanted
key_in m t = key_by_in m t (read_in m t)

-- the reading of 26 bytes for the node, and what is answered with it
abbrev pub bytes_by_in : Mode → Option Reading → Wanted
bytes_by_in m (Some r) = bytes_by r
bytes_by_in m None = refused m.other

unfoldable pub reading_bytes_in : Mode → List ℕ → Wanted
reading_bytes_in m t = bytes_by_in m (read_in m t)

unfoldable pub read_fault_in : Mode → List ℕ → ℕ → Fault
read_fault_in m t room = record { refusal = (answer (reading_bytes_in m t) room).refusal; place = place_in (read_in m t) }
