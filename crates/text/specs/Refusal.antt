-- The refusals of the whole library: their numbers by name, and the sentence of each; `text::refusal` has them for code. 0 is no
-- refusal, and 8 is given no more: 17 to 19 stand in its place.
-- Assumes nothing.
use Rattle.std.specs.Prelude.{ℕ, cond, List, [], ◌∷◌, eqb}
use Rattle.text.specs.Bytes.{bytes}

-- a text to be read as a path, or a rendering, of more than 4,096 bytes
abbrev pub too_long : ℕ
too_long = 1

-- a byte of 128 or more
abbrev pub not_ascii : ℕ
not_ascii = 2

-- no kind fits
abbrev pub not_a_path : ℕ
not_a_path = 3

-- the output buffer is too short
abbrev pub no_room : ℕ
no_room = 4

-- a byte that no identifier has
abbrev pub bad_char : ℕ
bad_char = 5

-- an identifier too short or too long, or a value of another size
abbrev pub bad_length : ℕ
bad_length = 6

-- not the name and `-`, or a leading zero after them
abbrev pub bad_prefix : ℕ
bad_prefix = 7

-- the buffer is no book
abbrev pub bad_book : ℕ
bad_book = 9

-- a rendering of more than 255 bytes
abbrev pub key_too_long : ℕ
key_too_long = 10

-- FULL: a new key where its owner's quota is used up, or quotas and records that do not go into a book of so many slots
abbrev pub full : ℕ
full = 11

-- ABSENT: no record of the key
abbrev pub absent : ℕ
absent = 12

-- `/` in an upgrade path
abbrev pub bad_segment : ℕ
bad_segment = 13

-- a kind that is not from 1 to 19
abbrev pub bad_kind : ℕ
bad_kind = 14

-- a text that is no iteration key
abbrev pub bad_iter_key : ℕ
bad_iter_key = 15

-- bytes that are not iteration keys one after the other, each above the one before it
abbrev pub bad_block : ℕ
bad_block = 16

-- a number text without digits
abbrev pub no_digits : ℕ
no_digits = 17

-- a byte of a number text that is no digit
abbrev pub not_a_digit : ℕ
not_a_digit = 18

-- a number above 18446744073709551615
abbrev pub too_large : ℕ
too_large = 19

-- a text that is not its own key, in a plain call
abbrev pub loose : ℕ
loose = 20

-- a text that is no UTF-8, in a wide call
abbrev pub bad_utf8 : ℕ
bad_utf8 = 21

-- a table of buckets that filling it from the book would not give
abbrev pub bad_table : ℕ
bad_table = 22

-- an owner that is neither 1 nor 2
abbrev pub bad_owner : ℕ
bad_owner = 23

-- a text that is no packet key of IBC version 2, or a kind of which there is none
abbrev pub bad_v2_key : ℕ
bad_v2_key = 24

-- a write of a record of kind 8, which books no longer take
abbrev pub retired : ℕ
retired = 25

-- each number with the sentence that tells whoever asked what was wrong and what to do about it; 0 has one too
abbrev pub sentences : List (ℕ × List ℕ)
sentences =
    (0, bytes "done")
    ∷ (too_long, bytes "the text, or the path that it makes, has more than 4,096 bytes: shorten it")
    ∷ (not_ascii, bytes "a byte of the text is 128 or more: write the text in ASCII alone")
    ∷ (not_a_path, bytes "the text fits none of the nineteen kinds of path: hold its words and numbers against the table of kinds")
    ∷ (no_room, bytes "the lent buffer is too short, or not of the size that a converted book has: lend one of the right size")
    ∷ (bad_char, bytes "a byte is none of A-Z, a-z, 0-9 and . _ + - # [ ] < >, which identifiers are made of: take it out")
    ∷ (bad_length, bytes "the identifier is too short or too long, or the value is empty or over 64 bytes: give one of the right length")
    ∷ (bad_prefix, bytes "the identifier is not its name, a dash and a number without leading zeros: write it as in channel-7")
    ∷ (bad_book, bytes "the buffer holds no book of the version that the call takes: make a new one in it, or convert an older one")
    ∷ (key_too_long, bytes "the path's key has more than the 255 bytes that a book keeps: shorten its upgrade path")
    ∷ (full, bytes "the quota has no room for another record, or the book for such quotas: remove a record, or take other quotas")
    ∷ (absent, bytes "the book holds no such record, or the block no such key: ask for the key of the text to see which record was looked for")
    ∷ (bad_segment, bytes "the upgrade path has a slash: give it as one piece, such as upgradedIBCState")
    ∷ (bad_kind, bytes "the kind is not a number from 1 to 19: take it from the table of kinds")
    ∷ (bad_iter_key, bytes "the bytes are not iterateConsensusStates and 16 more, 38 in all: give one whole iteration key")
    ∷ (bad_block, bytes "the block is not whole iteration keys that rise, no two the same: put them in order and take out what is no key")
    ∷ (no_digits, bytes "where a number should stand there is no digit: write one, from 0 to 18446744073709551615")
    ∷ (not_a_digit, bytes "a byte of the number is no digit: write it in the digits 0 to 9 alone")
    ∷ (too_large, bytes "the number is above 18446744073709551615: write a smaller one")
    ∷ (loose, bytes "a number of the text has a plus or leading zeros, so it is not its own key: give its key, or make the lenient call")
    ∷ (bad_utf8, bytes "the text is no UTF-8: give it as UTF-8 without overlong forms and surrogates")
    ∷ (bad_table, bytes "the table is not the 512 numbers that filling it from this book gives: fill it again")
    ∷ (bad_owner, bytes "the owner is neither 1 nor 2: give the number of the network that the record belongs to")
    ∷ (bad_v2_key, bytes "the bytes are not a client, a marker of 1, 2 or 3 and 8 more, or the kind is not one of these: give a whole packet key")
    ∷ (retired, bytes "the path is of kind 8, which is written to books no more: derive a client's connections, and look up or remove such records")
    ∷ []

-- the sentence in the first row of a number, and nothing where there is none
abbrev pub said : ℕ → List (ℕ × List ℕ) → List ℕ
said n [] = []
said n (row ∷ rows) = cond (eqb n row.0) row.1 (said n rows)

unfoldable pub sentence : ℕ → List ℕ
sentence n = said n sentences
