-- What a walk answers: a reading, flat.
-- Assumes nothing.
use Rattle.std.specs.Prelude.{ℕ, List, [], ◌∷◌, cond, ltb, Option, Some, None}
use Rattle.text.specs.Bytes.{bytes}
use Rattle.text.specs.Part.{same}
use Rattle.path.specs.declared.Path.{Path}
use Rattle.path.specs.declared.name.Name.TheVariants.{Port, Channel}
use Rattle.path.specs.declared.PathView.{PathView}
use Rattle.path.specs.Kinds.{Part, word, name, count, Kind, kind1, kind2, kind3, kind4, kind5, kind6, kind7, kind8, kind9, kind10, kind11, kind12, kind13, kind14, kind15, kind16, kind17, kind18, kind19}
use Rattle.path.specs.Read.{render_path}
use Rattle.path.specs.View.{kind_of, carried_of, seen}
use Rattle.walk_scan.specs.Tail.{Tail, none, some}

-- what the parts of kind k carry
abbrev pub walked : ℕ → Tail → Option PathView
walked k none = None
walked k (some v e) = Some (seen k e v)

-- a reading, flat
abbrev pub flat : List ℕ → Option Path → Option PathView
flat t (Some p) = Some (seen (kind_of p) (same t (render_path t p)) (carried_of p))
flat t None = None

-- what stands after `W/ports/` in kinds 11 to 14, and in 15 to 17
abbrev pub ends_parts : List Part
ends_parts = name Port ∷ word (bytes "channels") ∷ name Channel ∷ []

abbrev pub packet_parts : List Part
packet_parts = name Port ∷ word (bytes "channels") ∷ name Channel ∷ word (bytes "sequences") ∷ count ∷ []

abbrev pub ends_of : ℕ → List Part
ends_of k = cond (ltb k 15) ends_parts packet_parts

-- kinds 1 to 3, 4 to 17, and the other two
abbrev pub counters : List Kind
counters = kind1 ∷ kind2 ∷ kind3 ∷ []

unfoldable pub listed : List Kind
listed = kind4 ∷ kind5 ∷ kind6 ∷ kind7 ∷ kind8 ∷ kind9 ∷ kind10 ∷ kind11 ∷ kind12 ∷ kind13 ∷ kind14 ∷ kind15 ∷ kind16 ∷ kind17 ∷ []

abbrev pub client_kinds : List Kind
client_kinds = kind4 ∷ kind5 ∷ kind6 ∷ kind7 ∷ kind8 ∷ []

abbrev pub upgrades : List Kind
upgrades = kind18 ∷ kind19 ∷ []
