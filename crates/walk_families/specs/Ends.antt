-- What the walk finds of `P/channels/H`, whatever follows.
-- Assumes nothing.
use Rattle.std.specs.Prelude.{ℕ, ◌+◌, ◌≤◌, ◌≡◌, List, ◌∷◌, length, drop}
use Rattle.text.specs.Bytes.{bytes}
use Rattle.path.specs.declared.Place.{Place}
use Rattle.path.specs.declared.name.Name.{Name}
use Rattle.path.specs.declared.name.Name.TheVariants.{Port, Channel}
use Rattle.path.specs.Kinds.{Part, word, name, set_name}
use Rattle.walk_scan.specs.Tail.{Tail, none, some, tail_of, after_of}
use Rattle.walk_families.specs.declared.ends.Ends.{Ends}

-- a tail with an identifier in front
abbrev pub with_name : Name → Place → Tail → Tail
with_name n q none = none
with_name n q (some v e) = some (set_name n q v) e

-- they stand there with these lengths
pub record EndsAt (t : List ℕ) (at : ℕ) (r : Ends) : Type 0 where
  pub within : at + r.port + 10 + r.channel ≤ length t
  pub both : (ps : List Part) → tail_of (name Port ∷ word (bytes "channels") ∷ name Channel ∷ ps) at (drop at t)
      ≡ with_name Port (record { start = at; len = r.port }) (with_name Channel (record { start = at + r.port + 10; len = r.channel }) (after_of ps (at + r.port + 10 + r.channel) (drop (at + r.port + 10 + r.channel) t)))

-- or do not
abbrev pub NoEnds : List ℕ → ℕ → Type 0
NoEnds t at = (ps : List Part) → tail_of (name Port ∷ word (bytes "channels") ∷ name Channel ∷ ps) at (drop at t) ≡ none
