-- The number at the start of a text: a sign, and as many digits as there are.
-- Assumes nothing.
use Rattle.std.specs.Prelude.{ℕ, ◌+◌, ◌^◌, List, [], ◌∷◌, Bool, true, cond, not, ◌&&◌, eqb, ltb, take, drop, Option, Some, None}
use Rattle.text.specs.Number.{is_digit, with_digit}
use Rattle.text.specs.Part.{ascii, starts_with}
use Rattle.path.specs.Kinds.{count}
use Rattle.path.specs.Read.{is_number, number_in}
use Rattle.path.specs.Spelled.{spelled}
use Rattle.walk_scan.specs.declared.number.Figures.{Figures}
use Rattle.walk_scan.specs.declared.number.Counted.{Counted}
use Rattle.walk_scan.specs.Run.{run}

-- the value of the digits from i on, with v before them, and where they end: none where it passes a u64
unfoldable pub figures : ℕ → ℕ → List ℕ → Option Figures
figures v i [] = Some (record { value = v; end = i })
figures v i (b ∷ s) =
    let more = figures (with_digit v b) (i + 1) s in
    cond (is_digit b) (cond (ltb (with_digit v b) (2 ^ 64)) more None) (Some (record { value = v; end = i }))

-- how long the sign is, and the number
unfoldable pub sign : List ℕ → ℕ
sign s = cond (starts_with (43 ∷ []) s) 1 0

unfoldable pub num_len : List ℕ → ℕ
num_len s = sign s + run is_digit (drop (sign s) s)

abbrev pub num_text : List ℕ → List ℕ
num_text s = take (num_len s) s

-- the number, where it ends, and whether it is spelled as it is rendered; `at` is the place of its first byte
unfoldable pub counted_of : ℕ → List ℕ → Option Counted
counted_of at s = cond (is_number (num_text s)) (Some (record { value = number_in (num_text s); end = at + num_len s; plain = spelled count (num_text s) })) None

-- n digits, the first of them b, are spelled as their number is rendered: one digit, or no leading zero
unfoldable pub plain_of : ℕ → ℕ → Bool
plain_of n b = cond (eqb n 1) true (not (eqb b 48))

-- R-h at the start of a text
unfoldable pub pair_ok : List ℕ → Bool
pair_ok s = is_number (num_text s) && (starts_with (45 ∷ []) (drop (num_len s) s) && is_number (num_text (drop (num_len s + 1) s)))

unfoldable pub pair_len : List ℕ → ℕ
pair_len s = num_len s + 1 + num_len (drop (num_len s + 1) s)

-- U at the start of a text: all up to the first slash
abbrev pub no_slash : ℕ → Bool
no_slash b = not (eqb b 47)

abbrev pub upgrade_ok : List ℕ → Bool
upgrade_ok s = ascii (take (run no_slash s) s)
