-- What a path shows, as 26 bytes, and what is answered with a reading's.
-- Assumes nothing.
use Rattle.std.specs.Prelude.{ℕ, cond, List, ◌∷◌, ◌++◌}
use Rattle.path.specs.declared.PathView.{PathView}
use Rattle.path.specs.Reading.{Reading}
use Rattle.path.specs.Read.{place_bytes, bytes_by, read_place}
use Rattle.text.specs.declared.Fault.{Fault}
use Rattle.text.specs.Put.{answer}
use Rattle.text.specs.Number.{big_endian}

-- kind; 1 exact or 0 loose; the two places; the two numbers
unfoldable pub view_bytes : PathView → List ℕ
view_bytes v = v.kind ∷ cond v.exact 1 0 ∷ (place_bytes v.first ++ (place_bytes v.second ++ (big_endian 8 v.a ++ big_endian 8 v.b)))

-- the answer where the buffer has that much room: the refusal, and the place of a number's fault
unfoldable pub answer_by : Reading → ℕ → Fault
answer_by r room = record { refusal = (answer (bytes_by r) room).refusal; place = read_place r }
