-- The refusals that a call may give, by number: every list that demand 1 cites. In words and in their order docs/RULES.md has them.
-- Assumes nothing.
use Rattle.std.specs.Prelude.{ℕ, List, [], ◌∷◌}
use Rattle.book_records.specs.declared.Manner.{Manner}
use Rattle.book_records.specs.declared.Manner.TheVariants.{Plain, Lenient}

abbrev pub readings : List ℕ
readings = 1 ∷ 2 ∷ 3 ∷ 17 ∷ 18 ∷ 19 ∷ 4 ∷ []

abbrev pub renderings : List ℕ
renderings = 14 ∷ 2 ∷ 5 ∷ 6 ∷ 7 ∷ 17 ∷ 18 ∷ 19 ∷ 13 ∷ 1 ∷ 4 ∷ []

abbrev pub clients : List ℕ
clients = 2 ∷ 5 ∷ 6 ∷ 4 ∷ []

abbrev pub ends : List ℕ
ends = 2 ∷ 5 ∷ 6 ∷ 7 ∷ 17 ∷ 18 ∷ 19 ∷ 4 ∷ []

abbrev pub wide_readings : List ℕ
wide_readings = 1 ∷ 21 ∷ 3 ∷ 17 ∷ 18 ∷ 19 ∷ 4 ∷ []

abbrev pub wide_renderings : List ℕ
wide_renderings = 14 ∷ 21 ∷ 5 ∷ 6 ∷ 7 ∷ 17 ∷ 18 ∷ 19 ∷ 13 ∷ 1 ∷ 4 ∷ []

abbrev pub wide_clients : List ℕ
wide_clients = 21 ∷ 5 ∷ 6 ∷ 4 ∷ []

abbrev pub wide_ends : List ℕ
wide_ends = 21 ∷ 5 ∷ 6 ∷ 7 ∷ 17 ∷ 18 ∷ 19 ∷ 4 ∷ []

abbrev pub packet_reads : List ℕ
packet_reads = 24 ∷ 2 ∷ 5 ∷ 6 ∷ []

abbrev pub packet_writes : List ℕ
packet_writes = 24 ∷ 2 ∷ 5 ∷ 6 ∷ 4 ∷ []

-- a plain call has 20 too
abbrev pub in_manner : Manner → List ℕ → List ℕ
in_manner Plain ns = 20 ∷ ns
in_manner Lenient ns = ns

abbrev pub write_numbers : Manner → List ℕ
write_numbers m = in_manner m (9 ∷ 23 ∷ 1 ∷ 2 ∷ 3 ∷ 17 ∷ 18 ∷ 19 ∷ 10 ∷ 25 ∷ 6 ∷ 11 ∷ [])

abbrev pub remove_numbers : Manner → List ℕ
remove_numbers m = in_manner m (9 ∷ 23 ∷ 1 ∷ 2 ∷ 3 ∷ 17 ∷ 18 ∷ 19 ∷ 10 ∷ 12 ∷ [])

abbrev pub look_numbers : Manner → List ℕ
look_numbers m = in_manner m (9 ∷ 23 ∷ 1 ∷ 2 ∷ 3 ∷ 17 ∷ 18 ∷ 19 ∷ 10 ∷ 4 ∷ 12 ∷ [])

-- making a book; converting one of version 1, and one of version 2; a client's oldest state; filling a table, and many lookups
abbrev pub new_numbers : List ℕ
new_numbers = 9 ∷ 11 ∷ []

abbrev pub convert_numbers : List ℕ
convert_numbers = 9 ∷ 4 ∷ []

abbrev pub convert_owners_numbers : List ℕ
convert_owners_numbers = 9 ∷ 4 ∷ 11 ∷ []

abbrev pub oldest_numbers : List ℕ
oldest_numbers = 9 ∷ 23 ∷ 2 ∷ 5 ∷ 6 ∷ 12 ∷ []

abbrev pub clear_numbers : List ℕ
clear_numbers = 9 ∷ 23 ∷ 2 ∷ 5 ∷ 6 ∷ []

abbrev pub fill_numbers : List ℕ
fill_numbers = 9 ∷ 4 ∷ []

abbrev pub many_numbers : List ℕ
many_numbers = 9 ∷ 23 ∷ 22 ∷ 4 ∷ []

-- the check of a name and an index, and that of an identifier that is such
abbrev pub named : List ℕ
named = 2 ∷ 7 ∷ 17 ∷ 18 ∷ 19 ∷ []

abbrev pub indexes : List ℕ
indexes = 2 ∷ 5 ∷ 6 ∷ 7 ∷ 17 ∷ 18 ∷ 19 ∷ []

abbrev pub wide_named : List ℕ
wide_named = 21 ∷ 7 ∷ 17 ∷ 18 ∷ 19 ∷ []

abbrev pub wide_indexes : List ℕ
wide_indexes = 21 ∷ 5 ∷ 6 ∷ 7 ∷ 17 ∷ 18 ∷ 19 ∷ []

-- an identifier of a path, and why a text is not read
abbrev pub names : List ℕ
names = 2 ∷ 5 ∷ 6 ∷ 7 ∷ 17 ∷ 18 ∷ 19 ∷ 13 ∷ []

abbrev pub wide_names : List ℕ
wide_names = 21 ∷ 5 ∷ 6 ∷ 7 ∷ 17 ∷ 18 ∷ 19 ∷ 13 ∷ []

abbrev pub unread : List ℕ
unread = 1 ∷ 2 ∷ 3 ∷ 17 ∷ 18 ∷ 19 ∷ []

-- a text that is always there: only the room can lack
abbrev pub room : List ℕ
room = 4 ∷ []

-- the key of a call's text, of either manner
abbrev pub key_numbers : List ℕ
key_numbers = 1 ∷ 2 ∷ 3 ∷ 17 ∷ 18 ∷ 19 ∷ 20 ∷ 10 ∷ []
