-- Reading and rendering, both from the table of kinds.
-- Assumes nothing.
use Rattle.std.specs.Prelude.{ℕ, ◌+◌, ◌-◌, Bool, true, false, cond, not, ◌&&◌, List, [], ◌∷◌, ◌++◌, map, eqb, ltb, leb, length, get_or, Ok, Err, Option, Some, None}
use Rattle.text.specs.Number.{numeral_of, decimal, big_endian, Numeral}
use Rattle.text.specs.Part.{every, ascii, same}
use Rattle.text.specs.Refusal.{too_long, not_ascii, not_a_path, bad_segment, bad_kind, no_digits, not_a_digit, too_large}
use Rattle.text.specs.Put.{Wanted, refused, text, accepted, answer}
use Rattle.text.specs.declared.Fault.{Fault}
use Rattle.text.specs.declared.NumberFault.TheVariants.{NoDigits, NotADigit, TooLarge}
use Rattle.identifiers.specs.Check.{first, unless, is_value, check_of}
use Rattle.identifiers.specs.Check as check
use Rattle.path.specs.declared.Place.{Place}
use Rattle.path.specs.declared.Path.{Path}
use Rattle.path.specs.declared.Refusal.{Refusal}
use Rattle.path.specs.declared.Refusal.TheVariants.{TooLong, NotAscii, NotAPath, NoDigits as WithoutDigits, NotADigit as WithoutDigit, TooLarge as AboveAll}
use Rattle.path.specs.Reading.{Reading, Read}
use Rattle.path.specs.Text.{components, component, cut_at, join, place_at, nowhere, part_of}
use Rattle.path.specs.Kinds.{Part, word, name, count, pair, Carried, carried, name_in, set_name, Kind, kinds}
use Rattle.path.specs.declared.name.Name.{Name}
use Rattle.path.specs.declared.name.Name.TheVariants.{Client as client, Connection as connection, Port as port, Channel as channel, Upgrade as upgrade}
use Rattle.path.specs.View.{kind_of, carried_of}

-- ---- one component
-- the refusal of an identifier of a path, 0 where it is accepted
unfoldable pub name_fault : Name → List ℕ → ℕ
name_fault client c = check_of check.client c
name_fault connection c = check_of check.connection c
name_fault port c = check_of check.port c
name_fault channel c = check_of check.channel c
name_fault upgrade c = first (unless not_ascii (ascii c)) (unless bad_segment (every (λ b. not (eqb b 47)) c))

-- the value of a number text, 0 where it is none
abbrev pub value_of : Numeral → ℕ
value_of (Ok n) = n
value_of (Err fault) = 0

abbrev pub is_number : List ℕ → Bool
is_number c = is_value (numeral_of c)

abbrev pub number_in : List ℕ → ℕ
number_in c = value_of (numeral_of c)

-- the parts of R-h, where there is exactly one dash
abbrev pub are_pair : List (List ℕ) → Bool
are_pair [] = false
are_pair (r ∷ []) = false
are_pair (r ∷ (h ∷ [])) = is_number r && is_number h
are_pair (r ∷ (h ∷ (x ∷ xs))) = false

-- a component is what the part asks for
unfoldable pub fits : Part → List ℕ → Bool
fits (word w) c = same c w
fits (name n) c = eqb (name_fault n c) 0
fits count c = is_number c
fits pair c = are_pair (cut_at 45 c)

-- ---- reading
-- what the component c, at the place p, adds to what the components after it carry
abbrev pub adds : Part → List ℕ → Place → Carried Place → Carried Place
adds (word w) c p v = v
adds (name n) c p v = set_name n p v
adds count c p v = carried v.first v.second (number_in c) v.b
adds pair c p v = carried v.first v.second (number_in (get_or (cut_at 45 c) 0 [])) (number_in (get_or (cut_at 45 c) 1 []))

-- what the components from the k-th on carry, and whether each passes a test of its part
abbrev pub carried_from : ℕ → List Part → List ℕ → Carried Place
carried_from k [] t = carried nowhere nowhere 0 0
carried_from k (p ∷ ps) t = adds p (component t k) (place_at t k) (carried_from (k + 1) ps t)

abbrev pub all_from : (Part → List ℕ → Bool) → ℕ → List Part → List ℕ → Bool
all_from f k [] t = true
all_from f k (p ∷ ps) t = f p (component t k) && all_from f (k + 1) ps t

abbrev pub fit_from : ℕ → List Part → List ℕ → Bool
fit_from k ps t = all_from fits k ps t

abbrev pub component_count : List ℕ → ℕ
component_count t = length (components t)

-- a text fits a kind where it has as many components as the kind has parts, and each is what its part asks for
unfoldable pub fits_kind : Kind → List ℕ → Bool
fits_kind e t = eqb (component_count t) (length e.parts) && fit_from 0 e.parts t

unfoldable pub read_kind : Kind → List ℕ → Option Path
read_kind e t = cond (fits_kind e t) (Some (e.make (carried_from 0 e.parts t))) None

abbrev pub or_else : Option Path → Option Path → Option Path
or_else (Some p) x = Some p
or_else None x = x

-- the first kind that fits. (No text fits two: ReadLaws)
unfoldable pub read_first : List Kind → List ℕ → Option Path
read_first [] t = None
read_first (e ∷ es) t = or_else (read_kind e t) (read_first es t)

-- ---- what was wrong with the number
-- a component is what the part asks for, or the part is a number
unfoldable pub suits : Part → List ℕ → Bool
suits (word w) c = fits (word w) c
suits (name n) c = fits (name n) c
suits count c = true
suits pair c = true

-- every part but the numbers fits
unfoldable pub suits_kind : Kind → List ℕ → Bool
suits_kind e t = eqb (component_count t) (length e.parts) && all_from suits 0 e.parts t

-- the fault of a number text whose first byte stands at i, if it has one
abbrev pub numeral_faults : ℕ → Numeral → List Refusal
numeral_faults i (Ok n) = []
numeral_faults i (Err (NoDigits j)) = WithoutDigits (i + j) ∷ []
numeral_faults i (Err (NotADigit j)) = WithoutDigit (i + j) ∷ []
numeral_faults i (Err (TooLarge j)) = AboveAll (i + j) ∷ []

-- those of R-h, where there is exactly one dash
abbrev pub pair_faults : ℕ → List (List ℕ) → List Refusal
pair_faults i [] = []
pair_faults i (r ∷ []) = []
pair_faults i (r ∷ (h ∷ [])) = numeral_faults i (numeral_of r) ++ numeral_faults (i + length r + 1) (numeral_of h)
pair_faults i (r ∷ (h ∷ (x ∷ xs))) = []

-- those of a component whose first byte stands at i
unfoldable pub part_faults : Part → ℕ → List ℕ → List Refusal
part_faults (word w) i c = []
part_faults (name n) i c = []
part_faults count i c = numeral_faults i (numeral_of c)
part_faults pair i c = pair_faults i (cut_at 45 c)

-- those of the components from the k-th on, in their order
abbrev pub faults_from : ℕ → List Part → List ℕ → List Refusal
faults_from k [] t = []
faults_from k (p ∷ ps) t = part_faults p (place_at t k).start (component t k) ++ faults_from (k + 1) ps t

-- those of a text as a path of that kind, and of these kinds. (A text suits one kind at most: ReadLaws)
unfoldable pub kind_faults : Kind → List ℕ → List Refusal
kind_faults e t = cond (suits_kind e t) (faults_from 0 e.parts t) []

unfoldable pub faults_as : List Kind → List ℕ → List Refusal
faults_as [] t = []
faults_as (e ∷ es) t = kind_faults e t ++ faults_as es t

-- why no kind fits the text: its first bad number, or all else
unfoldable pub why_not : List ℕ → Refusal
why_not t = get_or (faults_as kinds t) 0 NotAPath

-- ---- rendering
unfoldable pub show : Part → Carried (List ℕ) → List ℕ
show (word w) v = w
show (name n) v = name_in n v
show count v = decimal v.a
show pair v = decimal v.a ++ (45 ∷ decimal v.b)

-- the parts' texts with `/` between each two
abbrev pub shown : List Part → Carried (List ℕ) → List (List ℕ)
shown [] v = []
shown (p ∷ ps) v = show p v ∷ shown ps v

unfoldable pub render : List Part → Carried (List ℕ) → List ℕ
render ps v = join (shown ps v)

-- the parts of kind k
unfoldable pub parts_of : ℕ → List Part
parts_of k = get_or (map (λ e. e.parts) kinds) (k - 1) []

-- places of a text as the texts that stand there
abbrev pub texts_of : List ℕ → Carried Place → Carried (List ℕ)
texts_of t v = carried (part_of t v.first) (part_of t v.second) v.a v.b

-- the rendering of a typed path whose places are in the text t
unfoldable pub render_path : List ℕ → Path → List ℕ
render_path t p = render (parts_of (kind_of p)) (texts_of t (carried_of p))

-- the first refusal of the identifiers that the parts name
unfoldable pub names_fault : List Part → Carried (List ℕ) → ℕ
names_fault [] v = 0
names_fault (word w ∷ ps) v = names_fault ps v
names_fault (name n ∷ ps) v = first (name_fault n (name_in n v)) (names_fault ps v)
names_fault (count ∷ ps) v = names_fault ps v
names_fault (pair ∷ ps) v = names_fault ps v

-- the rendering of these parts: the identifiers, then 1
abbrev pub limited : List Part → Carried (List ℕ) → Wanted
limited ps v = accepted (first (names_fault ps v) (unless too_long (leb (length (render ps v)) 4096))) (render ps v)

-- rendering by kind and parts: 14, the identifiers, 1
unfoldable pub render_of : ℕ → Carried (List ℕ) → Wanted
render_of k v = cond (leb 1 k && leb k 19) (limited (parts_of k) v) (refused bad_kind)

-- ---- the reader's answer
abbrev pub refusal_of : Refusal → ℕ
refusal_of TooLong = too_long
refusal_of NotAscii = not_ascii
refusal_of NotAPath = not_a_path
refusal_of (WithoutDigits i) = no_digits
refusal_of (WithoutDigit i) = not_a_digit
refusal_of (AboveAll i) = too_large

abbrev pub place_of : Refusal → ℕ
place_of TooLong = 0
place_of NotAscii = 0
place_of NotAPath = 0
place_of (WithoutDigits i) = i
place_of (WithoutDigit i) = i
place_of (AboveAll i) = i

abbrev pub as_fault : Refusal → Fault
as_fault w = record { refusal = refusal_of w; place = place_of w }

abbrev pub number_of : Reading → ℕ
number_of (Ok r) = 0
number_of (Err w) = refusal_of w

-- a reading is exact where its rendering is the text
abbrev pub reading_of : List ℕ → Option Path → Reading
reading_of t (Some p) = Read p (same t (render_path t p))
reading_of t None = Err (why_not t)

unfoldable pub read_path : List ℕ → Reading
read_path t = cond (ltb 4096 (length t)) (Err TooLong) (cond (ascii t) (reading_of t (read_first kinds t)) (Err NotAscii))

-- the rendering of a text, its key
abbrev pub key_by : List ℕ → Reading → Wanted
key_by t (Ok r) = text (render_path t r.path)
key_by t (Err r) = refused (refusal_of r)

unfoldable pub key_of : List ℕ → Wanted
key_of t = key_by t (read_path t)

-- the reading of 26 bytes for the node
abbrev pub place_bytes : Place → List ℕ
place_bytes p = big_endian 2 p.start ++ big_endian 2 p.len

abbrev pub bytes_by : Reading → Wanted
bytes_by (Ok r) = text (kind_of r.path ∷ cond r.exact 1 0 ∷ (place_bytes (carried_of r.path).first ++ (place_bytes (carried_of r.path).second ++ (big_endian 8 (carried_of r.path).a ++ big_endian 8 (carried_of r.path).b))))
bytes_by (Err r) = refused (refusal_of r)

unfoldable pub reading_bytes : List ℕ → Wanted
reading_bytes t = bytes_by (read_path t)

-- what the reader for the node answers, where its buffer has that much room
abbrev pub read_place : Reading → ℕ
read_place (Ok r) = 0
read_place (Err w) = place_of w

unfoldable pub read_fault : List ℕ → ℕ → Fault
read_fault t room = record { refusal = (answer (reading_bytes t) room).refusal; place = read_place (read_path t) }
