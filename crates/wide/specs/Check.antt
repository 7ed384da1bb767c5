-- The checks of identifiers, and a new client identifier, in a mode. Characters and trimming go by what is seen of the text;
-- lengths, names and numbers are those of the text itself, so that no two texts become one.
-- Assumes nothing.
use Rattle.std.specs.Prelude.{ℕ, max, ◌-◌, List, ◌++◌, length, take, drop}
use Rattle.text.specs.Bytes.{bytes}
use Rattle.text.specs.Number.{decimal}
use Rattle.text.specs.Part.{every}
use Rattle.text.specs.Fault.{fault}
use Rattle.text.specs.Refusal.{bad_char}
use Rattle.text.specs.Put.{Wanted, accepted}
use Rattle.text.specs.declared.Fault.{Fault}
use Rattle.identifiers.specs.Check.{first, unless, identifier_byte, within, named_of, index_place, form_place, Rule, client_type, form_of}
use Rattle.identifiers.specs.Owned.{trim_start, trim}
use Rattle.wide.specs.Mode.{Mode}

-- the refusal of a text that the mode does not take
abbrev pub taken_in : Mode → List ℕ → ℕ
taken_in m s = unless m.other (m.takes s)

-- each character is one that identifiers are made of
unfoldable pub chars_in : Mode → List ℕ → ℕ
chars_in m s = first (taken_in m s) (unless bad_char (every identifier_byte (m.seen s)))

-- ---- the general checks
unfoldable pub length_in : Mode → List ℕ → ℕ → ℕ → ℕ
length_in m s least most = first (taken_in m s) (within (max least 1) most (length s))

unfoldable pub prefix_length_in : Mode → List ℕ → ℕ → ℕ → ℕ
prefix_length_in m s least most = length_in m s (least - 2) (most - 21)

unfoldable pub named_index_in : Mode → List ℕ → List ℕ → ℕ
named_index_in m s name = first (taken_in m s) (first (taken_in m name) (named_of name s))

unfoldable pub named_index_fault_in : Mode → List ℕ → List ℕ → Fault
named_index_fault_in m s name = fault (named_index_in m s name) (index_place name s)

-- ---- the five identifiers
unfoldable pub check_in : Mode → Rule → List ℕ → ℕ
check_in m r s = first (chars_in m s) (first (within r.least r.most (length s)) (form_of r.form s))

unfoldable pub fault_in : Mode → Rule → List ℕ → Fault
fault_in m r s = fault (check_in m r s) (form_place r.form s)

-- ---- a new client identifier
-- the part of the text that stands where what is seen of it stands trimmed
unfoldable pub trim_in : Mode → List ℕ → List ℕ
trim_in m s = take (length (trim (m.seen s))) (drop (length (m.seen s) - length (trim_start (m.seen s))) s)

unfoldable pub new_client_in : Mode → List ℕ → ℕ → Wanted
new_client_in m s n = accepted (first (taken_in m s) (check_in m client_type (trim_in m s))) (trim_in m s ++ (bytes "-" ++ decimal n))
