-- What is wrong with a text that is no path: the kind that it comes nearest to, the first component that does not fit, why, and at which byte.
-- Assumes nothing.
use Rattle.std.specs.Prelude.{ℕ, zero, suc, max, min, ◌+◌, ◌*◌, ◌-◌, Bool, true, false, cond, not, ◌&&◌, List, [], ◌∷◌, ◌++◌, reverse, eqb, ltb, leb, length, take, drop, Ok, Err}
use Rattle.text.specs.Bytes.{bytes}
use Rattle.text.specs.Fault.{numeral_fault, numeral_place}
use Rattle.text.specs.Number.{Numeral, numeral_of}
use Rattle.text.specs.Refusal.{not_a_path, bad_char, bad_length, bad_prefix}
use Rattle.text.specs.declared.Fault.{Fault}
use Rattle.identifiers.specs.Check.{Rule, Form, plain, indexed, identifier_byte, is_value, fault_of}
use Rattle.identifiers.specs.Check as check
use Rattle.path.specs.Reading.{Reading}
use Rattle.path.specs.declared.name.Name.{Name}
use Rattle.path.specs.declared.name.Name.TheVariants.{Client as client, Connection as connection, Port as port, Channel as channel, Upgrade as upgrade}
use Rattle.path.specs.Text.{cut_at, components, place_at}
use Rattle.path.specs.Kinds.{Part, word, name, count, pair, Kind, kinds}
use Rattle.path.specs.Read.{fits, is_number, parts_of, read_path, refusal_of}
use Rattle.path.specs.View.{kind_of}
use Rattle.diagnose.specs.declared.Diagnosis.{Diagnosis}
use Rattle.diagnose.specs.declared.Why.{Why}

-- ---- how far two texts agree
-- a small letter for a capital one
abbrev pub lower : ℕ → ℕ
lower b = cond (leb 65 b && leb b 90) (b + 32) b

-- a byte as it is compared: with its letter case, or without
abbrev pub cased : Bool → ℕ → ℕ
cased fold b = cond fold (lower b) b

-- how many bytes agree from the front on
unfoldable pub agree : Bool → List ℕ → List ℕ → ℕ
agree fold [] s = 0
agree fold (x ∷ w) [] = 0
agree fold (x ∷ w) (y ∷ s) = cond (eqb (cased fold x) (cased fold y)) (suc (agree fold w s)) 0

-- how many bytes pass a test from the front on
unfoldable pub until : (ℕ → Bool) → List ℕ → ℕ
until f [] = 0
until f (b ∷ s) = cond (f b) (suc (until f s)) 0

-- the same text but for letter case
abbrev pub alike_but : List ℕ → List ℕ → Bool
alike_but w c = eqb (length c) (length w) && eqb (agree true w c) (length w)

-- ---- the nearest kind
-- the letters of a part and a component: the bytes of a word that agree from the front, and those from the back
unfoldable pub alike : Part → List ℕ → ℕ
alike (word w) c = agree false w c + agree false (reverse w) (reverse c)
alike (name n) c = 0
alike count c = 0
alike pair c = 0

-- those of parts and components, each with its own, the first counted n times
unfoldable pub along : ℕ → List Part → List (List ℕ) → ℕ
along n [] cs = 0
along n (p ∷ ps) [] = 0
along n (p ∷ ps) (c ∷ cs) = n * alike p c + along 1 ps cs

-- the largest of the first n values
unfoldable pub most : (ℕ → ℕ) → ℕ → ℕ
most f zero = 0
most f (suc n) = max (most f n) (f n)

-- the letters of a kind with the first d components left out, or with its own first d parts left out. Its first word counts twice
abbrev pub letters_but : List Part → List (List ℕ) → ℕ → ℕ
letters_but ps cs d = max (along 2 ps (drop d cs)) (along 1 (drop d ps) cs)

-- the most letters, however far the text is moved
unfoldable pub letters : List Part → List (List ℕ) → ℕ
letters ps cs = most (letters_but ps cs) 7

-- a word of a kind stands there but for letter case
unfoldable pub stands : Part → List ℕ → Bool
stands (word w) c = alike_but w c
stands (name n) c = true
stands count c = true
stands pair c = true

unfoldable pub placed : List Part → List (List ℕ) → Bool
placed [] cs = true
placed (p ∷ ps) [] = true
placed (p ∷ ps) (c ∷ cs) = stands p c && placed ps cs

-- all words stand in their places, n being the number of components: more than any letters
unfoldable pub score : ℕ → List Part → List (List ℕ) → ℕ
score n ps cs = cond (eqb n (length ps) && placed ps cs) 1000 (letters ps cs)

-- the kind with the highest score, the first of these: k is the number of the first kind of the list, and `kind` the best before it
unfoldable pub nearest_from : ℕ → ℕ → ℕ → ℕ → List Kind → List (List ℕ) → ℕ
nearest_from k kind best n [] cs = kind
nearest_from k kind best n (e ∷ es) cs = nearest_from (k + 1) (cond (ltb best (score n e.parts cs)) k kind) (max best (score n e.parts cs)) n es cs

-- 0 where no kind has five letters
unfoldable pub nearest : ℕ → List (List ℕ) → ℕ
nearest n cs = nearest_from 1 0 4 n kinds cs

-- ---- the shown component: the first that does not fit
unfoldable pub front : List Part → List (List ℕ) → ℕ
front [] cs = 0
front (p ∷ ps) [] = 0
front (p ∷ ps) (c ∷ cs) = cond (fits p c) (suc (front ps cs)) 0

-- ---- the reason, and its place from the component's start
abbrev pub unknown : ℕ
unknown = 1

abbrev pub missing : ℕ
missing = 2

abbrev pub extra : ℕ
extra = 3

abbrev pub empty : ℕ
empty = 4

abbrev pub letter_case : ℕ
letter_case = 5

abbrev pub other_word : ℕ
other_word = 6

abbrev pub char : ℕ
char = 7

abbrev pub short : ℕ
short = 8

abbrev pub long : ℕ
long = 9

abbrev pub prefix : ℕ
prefix = 10

abbrev pub leading_zero : ℕ
leading_zero = 11

abbrev pub dash : ℕ
dash = 12

abbrev pub why : ℕ → ℕ → Why
why r i = record { reason = r; place = i }

-- of a bad number: 13, 14 and 15 for the refusals 17, 18 and 19
abbrev pub number_reason : ℕ → ℕ
number_reason r = r - 4

unfoldable pub number_why : ℕ → Numeral → Why
number_why at x = why (number_reason (numeral_fault x)) (at + numeral_place x)

-- of a word
unfoldable pub word_why : List ℕ → List ℕ → Why
word_why w c = why (cond (alike_but w c) letter_case other_word) (agree false w c)

-- of an identifier, by what its check says
abbrev pub prefix_of : Form → List ℕ
prefix_of plain = []
prefix_of (indexed n) = n ++ bytes "-"

unfoldable pub length_why : ℕ → ℕ → List ℕ → Why
length_why least most c = cond (ltb (length c) least) (why short (length c)) (why long most)

unfoldable pub prefix_why : List ℕ → List ℕ → Why
prefix_why w c = why (cond (ltb (agree false w c) (length w)) prefix leading_zero) (agree false w c)

unfoldable pub fault_why : Fault → ℕ → ℕ → List ℕ → List ℕ → Why
fault_why f least most w c =
    cond (eqb f.refusal bad_char) (why char (until identifier_byte c))
    (cond (eqb f.refusal bad_length) (length_why least most c)
    (cond (eqb f.refusal bad_prefix) (prefix_why w c)
    (why (number_reason f.refusal) f.place)))

abbrev pub rule_why : Rule → List ℕ → Why
rule_why r c = fault_why (fault_of r c) r.least r.most (prefix_of r.form) c

-- (U fits every component)
unfoldable pub name_why : Name → List ℕ → Why
name_why client c = rule_why check.client c
name_why connection c = rule_why check.connection c
name_why port c = rule_why check.port c
name_why channel c = rule_why check.channel c
name_why upgrade c = why 0 0

-- of R-h: at the second dash, or at the end where there is none; else its first bad number
abbrev pub pair_by : List ℕ → List (List ℕ) → Why
pair_by c [] = why dash (length c)
pair_by c (r ∷ []) = why dash (length c)
pair_by c (r ∷ (h ∷ [])) = cond (is_number r) (number_why (length r + 1) (numeral_of h)) (number_why 0 (numeral_of r))
pair_by c (r ∷ (h ∷ (x ∷ xs))) = why dash (length r + 1 + length h)

-- the same by the place of its first dash
abbrev pub numbers_why : ℕ → List ℕ → Why
numbers_why d c = cond (is_number (take d c)) (number_why (d + 1) (numeral_of (drop (d + 1) c))) (number_why 0 (numeral_of (take d c)))

unfoldable pub part_why : Part → List ℕ → Why
part_why (word w) c = word_why w c
part_why (name n) c = name_why n c
part_why count c = number_why 0 (numeral_of c)
part_why pair c = pair_by c (cut_at 45 c)

-- nothing stands where something has to: an empty number is a bad number
abbrev pub is_count : Part → Bool
is_count (word w) = false
is_count (name n) = false
is_count count = true
is_count pair = false

abbrev pub lacks : Part → List ℕ → Bool
lacks p c = eqb (length c) 0 && not (is_count p)

-- the first component, or the first part, fits
abbrev pub first_fits : Part → List (List ℕ) → Bool
first_fits p [] = false
first_fits p (c ∷ cs) = fits p c

abbrev pub fits_first : List Part → List ℕ → Bool
fits_first [] c = false
fits_first (p ∷ ps) c = fits p c

-- what is left of a kind of m parts and of a text of n components, behind those that fit
unfoldable pub why_at : ℕ → ℕ → List Part → List (List ℕ) → Why
why_at n m [] cs = why extra 0
why_at n m (p ∷ ps) [] = why missing 0
why_at n m (p ∷ ps) (c ∷ cs) =
    cond (lacks p c) (why empty 0)
    (cond (first_fits p (drop (n - m) (c ∷ cs))) (why extra 0)
    (cond (fits_first (drop (m - n) (p ∷ ps)) c) (why missing 0)
    (part_why p c)))

-- ---- the diagnosis
abbrev pub diagnosis : ℕ → ℕ → ℕ → ℕ → ℕ → Diagnosis
diagnosis r k c w b = record { refusal = r; kind = k; component = c; reason = w; byte = b }

-- the first seven components. (No kind has more parts)
abbrev pub seven : List ℕ → List (List ℕ)
seven t = take 7 (components t)

-- how many there are, 8 where there are more than seven
abbrev pub how_many : List ℕ → ℕ
how_many t = min 8 (length (components t))

-- where component f starts: the text's end where it has ended
unfoldable pub start_at : List ℕ → ℕ → ℕ
start_at t f = cond (ltb f (how_many t)) (place_at t f).start (length t)

abbrev pub why_in : List ℕ → List Part → ℕ → Why
why_in t ps f = why_at (how_many t) (length ps) (drop f ps) (drop f (seven t))

-- held against the parts of kind k, of which the first f fit
unfoldable pub shown_as : List ℕ → ℕ → ℕ → ℕ → Diagnosis
shown_as t r k f = diagnosis r k (f + 1) (why_in t (parts_of k) f).reason (start_at t f + (why_in t (parts_of k) f).place)

unfoldable pub shown : List ℕ → ℕ → ℕ → Diagnosis
shown t r k = cond (eqb k 0) (diagnosis r 0 1 unknown 0) (shown_as t r k (front (parts_of k) (seven t)))

unfoldable pub diagnosis_by : List ℕ → Reading → Diagnosis
diagnosis_by t (Ok r) = diagnosis 0 (kind_of r.path) 0 0 0
diagnosis_by t (Err w) = cond (ltb (refusal_of w) not_a_path) (diagnosis (refusal_of w) 0 0 0 0) (shown t (refusal_of w) (nearest (how_many t) (seven t)))

unfoldable pub diagnosis_of : List ℕ → Diagnosis
diagnosis_of t = diagnosis_by t (read_path t)
