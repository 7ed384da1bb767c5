-- Worked examples, which antt computes. Assumes nothing.
use mathlib.Core.Path.{◌≡◌, refl}
use mathlib.Core.List.{List, [], ◌∷◌, ◌++◌}
use mathlib.Core.Option.{none, some}
use Prim.Native.Nat.{ℕ}
use lib.ListN.{take, drop}
use Rattle.text.specs.Bytes.{bytes}
use Rattle.text.specs.Number.{big_endian, big_from}
use Rattle.text.specs.Part.{starts_with}
use Rattle.path.specs.declared.Revision.{Revision}
use Rattle.path.specs.Revision.{revision}
use Rattle.iteration.specs.Key.{iteration_key, key_revision}
use Rattle.iteration.specs.Block.{rising, keys_in, block_of, first_above, last_below, keys_of}

seven-two : List ℕ
seven-two = bytes "iterateConsensusStates" ++ (0 ∷ 0 ∷ 0 ∷ 0 ∷ 0 ∷ 0 ∷ 0 ∷ 7 ∷ 0 ∷ 0 ∷ 0 ∷ 0 ∷ 0 ∷ 0 ∷ 1 ∷ 2 ∷ [])

written : iteration_key 7 258 ≡ seven-two
unfolding iteration_key big_endian seven-two
written = refl

read : key_revision seven-two ≡ some (revision 7 258)
unfolding key_revision starts_with big_from seven-two
read = refl

-- 37 bytes, 39 bytes, another word
short : key_revision (take 37 seven-two) ≡ none
unfolding key_revision starts_with big_from seven-two
short = refl

long : key_revision (seven-two ++ 0 ∷ []) ≡ none
unfolding key_revision starts_with big_from seven-two
long = refl

other : key_revision (73 ∷ drop 1 seven-two) ≡ none
unfolding key_revision starts_with big_from seven-two
other = refl

-- 7-2, 10-2, 10-3: in the order of the numbers, which is not that of their texts
three : List Revision
three = revision 7 2 ∷ revision 10 2 ∷ revision 10 3 ∷ []

ordered : block_of (keys_of three) ≡ some three
unfolding block_of keys_in rising keys_of iteration_key big_endian key_revision starts_with big_from three
ordered = refl

empty : block_of [] ≡ some []
unfolding block_of keys_in rising
empty = refl

-- equal keys, keys out of order, a byte too many
equal : block_of (keys_of (revision 7 2 ∷ revision 7 2 ∷ [])) ≡ none
unfolding block_of keys_in rising keys_of iteration_key big_endian key_revision starts_with big_from
equal = refl

falling : block_of (keys_of (revision 10 2 ∷ revision 7 2 ∷ [])) ≡ none
unfolding block_of keys_in rising keys_of iteration_key big_endian key_revision starts_with big_from
falling = refl

more : block_of (keys_of three ++ 0 ∷ []) ≡ none
unfolding block_of keys_in rising keys_of iteration_key big_endian key_revision starts_with big_from three
more = refl

-- the pair itself is neither above nor below
above : first_above (revision 10 2) three ≡ some (revision 10 3)
unfolding first_above three
above = refl

below : last_below (revision 10 2) three ≡ some (revision 7 2)
unfolding last_below three
below = refl

nothing_above : first_above (revision 10 3) three ≡ none
unfolding first_above three
nothing_above = refl

nothing-below : last_below (revision 7 2) three ≡ none
unfolding last_below three
nothing-below = refl
