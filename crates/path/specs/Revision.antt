-- A revision of two counts, and the one order of revisions: of keys in a block, and of the states of a client.
-- Assumes nothing.
use Rattle.std.specs.Prelude.{ℕ, Bool, ◌&&◌, ◌||◌, ltb, eqb}
use Rattle.path.specs.declared.Revision.{Revision}

-- the revision with this number and height
abbrev pub revision : ℕ → ℕ → Revision
revision n h = record { number = record { 0 = n }; height = record { 0 = h } }

-- p is below q: the numbers decide, and where they are equal the heights
abbrev pub below : Revision → Revision → Bool
below p q = ltb p.number.0 q.number.0 || (eqb p.number.0 q.number.0 && ltb p.height.0 q.height.0)
