-- What is wrong with a number text, by this paper's numbers, and where.
-- Assumes nothing.
use Rattle.std.specs.Prelude.{ℕ, suc, ◌≤◌, ◌<◌, ◌≡◌, Bool, cond, ◌&&◌, List, ◌++◌, leb, length, take, Ok, Err}
use Rattle.text.specs.Number.{Numeral, numeral_of}
use Rattle.text.specs.declared.Fault.{Fault}
use Rattle.text.specs.declared.NumberFault.TheVariants.{NoDigits, NotADigit, TooLarge}
use Rattle.text.specs.Refusal.{no_digits, not_a_digit, too_large}

-- the refusal of a number text
abbrev pub numeral_fault : Numeral → ℕ
numeral_fault (Ok n) = 0
numeral_fault (Err (NoDigits i)) = no_digits
numeral_fault (Err (NotADigit i)) = not_a_digit
numeral_fault (Err (TooLarge i)) = too_large

-- where its leftmost fault stands, counted from its own first byte
abbrev pub numeral_place : Numeral → ℕ
numeral_place (Ok n) = 0
numeral_place (Err (NoDigits i)) = i
numeral_place (Err (NotADigit i)) = i
numeral_place (Err (TooLarge i)) = i

-- 17, 18 and 19, which have a place
abbrev pub has_place : ℕ → Bool
has_place n = leb no_digits n && leb n too_large

-- the refusal n, with the place p where it has one, and else with 0
abbrev pub fault : ℕ → ℕ → Fault
fault n p = record { refusal = n; place = cond (has_place n) p 0 }

-- s is a number text
abbrev pub IsNumber : List ℕ → Type 0
IsNumber s = (v : ℕ) × (numeral_of s ≡ Ok v)

-- that a place says what to mend in the text c, which is refused as a number by n: what stands before the place begins some number text; without
-- digits it is the whole text, and else no number text goes on with the byte at the place
pub record Mends (c : List ℕ) (n place : ℕ) : Type 0 where
  pub inside : place ≤ length c
  pub begun : (more : List ℕ) × IsNumber (take place c ++ more)
  pub ended : n ≡ no_digits → place ≡ length c
  pub stuck : (n ≡ no_digits → ⊥) → (place < length c) × ((more : List ℕ) → IsNumber (take (suc place) c ++ more) → ⊥)
