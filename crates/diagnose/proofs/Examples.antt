-- What is wrong with some texts, computed from the definition.
-- Assumes nothing.
use mathlib.Core.Path.{◌≡◌, refl}
use mathlib.Core.List.{[], ◌∷◌}
use Rattle.text.specs.Bytes.{bytes}
use Rattle.text.specs.Number.{numeral_of, digits_at, digits_from}
use Rattle.text.specs.Part.{every, ascii, starts_with}
use Rattle.identifiers.specs.Check.{among, identifier_byte, chars_of, within, index_of, named_of, check_of, fault_of}
use Rattle.path.specs.Kinds.{word, name, pair, kinds}
use Rattle.path.specs.declared.name.Name.TheVariants.{Channel as channel}
use Rattle.path.specs.Text.{cut_at}
use Rattle.diagnose.specs.Diagnosis.{agree, alike, along, most, letters, stands, placed, score, nearest_from, nearest, why, number_why, word_why, prefix_why, fault_why, name_why, part_why}

-- a word that stands there whole counts its letters twice; of `clientstate` six agree from the front and four from the back
whole_word : alike (word (bytes "ports")) (bytes "ports") ≡ 10
unfolding alike agree
whole_word = refl

half-word : alike (word (bytes "clientState")) (bytes "clientstate") ≡ 10
unfolding alike agree
half-word = refl

-- letter case alone; a letter that is missing; nothing that agrees
by_case : nearest 2 (bytes "PORTS" ∷ bytes "transfer" ∷ []) ≡ 10
unfolding nearest nearest_from score placed stands letters most along alike agree kinds
by_case = refl

by-letters : nearest 3 (bytes "client" ∷ bytes "07-tendermint-4" ∷ bytes "clientState" ∷ []) ≡ 4
unfolding nearest nearest_from score placed stands letters most along alike agree kinds
by-letters = refl

nothing_near : nearest 1 (bytes "hello" ∷ []) ≡ 0
unfolding nearest nearest_from score placed stands letters most along alike agree kinds
nothing_near = refl

-- reasons
the_case : part_why (word (bytes "clientState")) (bytes "clientstate") ≡ why 5 6
unfolding part_why word_why agree
the_case = refl

the-prefix : part_why (name channel) (bytes "Channel-7") ≡ why 10 0
unfolding part_why name_why fault_why prefix_why fault_of check_of chars_of identifier_byte among within named_of index_of ascii every starts_with agree numeral_of digits_at digits_from
the-prefix = refl

the_zero : part_why (name channel) (bytes "channel-07") ≡ why 11 8
unfolding part_why name_why fault_why prefix_why fault_of check_of chars_of identifier_byte among within named_of index_of ascii every starts_with agree numeral_of digits_at digits_from
the_zero = refl

the-dash : part_why pair (bytes "5-3-1") ≡ why 12 3
unfolding part_why cut_at
the-dash = refl

the_digit : part_why pair (bytes "5-x") ≡ why 14 2
unfolding part_why cut_at number_why numeral_of digits_at digits_from
the_digit = refl
