-- The checks of identifiers. Each answers a refusal number, and 0 where the text is accepted.
-- Assumes nothing.
use Rattle.std.specs.Prelude.{ℕ, max, ◌+◌, ◌-◌, Bool, true, false, cond, not, ◌&&◌, ◌||◌, List, [], ◌∷◌, ◌++◌, eqb, ltb, leb, length, drop, Ok, Err}
use Rattle.text.specs.Bytes.{bytes}
use Rattle.text.specs.Number.{Numeral, is_digit, numeral_of}
use Rattle.text.specs.Part.{every, ascii, starts_with}
use Rattle.text.specs.Fault.{fault, numeral_fault, numeral_place}
use Rattle.text.specs.Refusal.{not_ascii, bad_char, bad_length, bad_prefix}
use Rattle.text.specs.declared.Fault.{Fault}

-- the first check that refuses
abbrev pub first : ℕ → ℕ → ℕ
first a b = cond (eqb a 0) b a

-- the refusal n unless the test holds
abbrev pub unless : ℕ → Bool → ℕ
unless n t = cond t 0 n

-- b is one of these bytes
unfoldable pub among : ℕ → List ℕ → Bool
among b [] = false
among b (x ∷ xs) = eqb b x || among b xs

-- A-Z, a-z, 0-9 and . _ + - # [ ] < >
unfoldable pub identifier_byte : ℕ → Bool
identifier_byte b = (leb 65 b && leb b 90) || ((leb 97 b && leb b 122) || (is_digit b || among b (bytes "._+-#[]<>")))

-- a number text
abbrev pub is_value : Numeral → Bool
is_value (Ok n) = true
is_value (Err fault) = false

-- 2, then 5
unfoldable pub chars_of : List ℕ → ℕ
chars_of s = first (unless not_ascii (ascii s)) (unless bad_char (every identifier_byte s))

-- 6 unless n bytes are at least the one and at most the other
unfoldable pub within : ℕ → ℕ → ℕ → ℕ
within least most n = unless bad_length (leb least n && leb n most)

-- 7, then 17, 18 or 19: an index is a number text that does not begin with `0` unless it is `0` itself
unfoldable pub index_of : List ℕ → ℕ
index_of s = first (unless bad_prefix (not (starts_with (bytes "0") s && ltb 1 (length s)))) (numeral_fault (numeral_of s))

-- the name, `-`, and an index: 7 where the text does not start so
unfoldable pub named_of : List ℕ → List ℕ → ℕ
named_of name s = first (unless bad_prefix (starts_with (name ++ bytes "-") s)) (index_of (drop (length name + 1) s))

-- ---- the general checks: ASCII over the texts that they are given, then their own part
unfoldable pub length_of : List ℕ → ℕ → ℕ → ℕ
length_of s least most = first (unless not_ascii (ascii s)) (within (max least 1) most (length s))

-- of a prefix: `-` and one digit, or twenty, are still to come. (A difference of naturals stops at 0)
unfoldable pub prefix_length_of : List ℕ → ℕ → ℕ → ℕ
prefix_length_of s least most = length_of s (least - 2) (most - 21)

unfoldable pub named_index_of : List ℕ → List ℕ → ℕ
named_index_of s name = first (unless not_ascii (ascii s)) (first (unless not_ascii (ascii name)) (named_of name s))

-- ---- the five identifiers, as one table
-- what is asked besides bytes and length: nothing, or a name and an index
pub data Form : Type 0 where
  plain : Form
  indexed : List ℕ → Form

pub record Rule : Type 0 where
  pub least : ℕ
  pub most : ℕ
  pub form : Form

abbrev pub client : Rule
client = record { least = 9; most = 64; form = plain }

abbrev pub client_type : Rule
client_type = record { least = 7; most = 43; form = plain }

abbrev pub connection : Rule
connection = record { least = 10; most = 64; form = indexed (bytes "connection") }

abbrev pub port : Rule
port = record { least = 2; most = 128; form = plain }

abbrev pub channel : Rule
channel = record { least = 8; most = 64; form = indexed (bytes "channel") }

abbrev pub form_of : Form → List ℕ → ℕ
form_of plain s = 0
form_of (indexed name) s = named_of name s

-- ASCII, bytes, length, prefix, number: 2, 5, 6, 7, then 17, 18 or 19
unfoldable pub check_of : Rule → List ℕ → ℕ
check_of r s = first (chars_of s) (first (within r.least r.most (length s)) (form_of r.form s))

-- ---- where the number is wrong
-- the place of the index's fault, counted from the identifier's start
abbrev pub index_place : List ℕ → List ℕ → ℕ
index_place name s = length name + 1 + numeral_place (numeral_of (drop (length name + 1) s))

abbrev pub form_place : Form → List ℕ → ℕ
form_place plain s = 0
form_place (indexed name) s = index_place name s

-- the checks with their place
unfoldable pub named_index_fault : List ℕ → List ℕ → Fault
named_index_fault s name = fault (named_index_of s name) (index_place name s)

unfoldable pub fault_of : Rule → List ℕ → Fault
fault_of r s = fault (check_of r s) (form_place r.form s)

-- ---- the checks as the Rust composes them, out of the general ones
abbrev pub general_form : Form → List ℕ → ℕ
general_form plain s = 0
general_form (indexed name) s = named_index_of s name

abbrev pub general_of : Rule → List ℕ → ℕ
general_of r s = first (chars_of s) (first (length_of s r.least r.most) (general_form r.form s))
