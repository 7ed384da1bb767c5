-- Laws of `sentence`: which numbers have no sentence, and how long one is.
-- Assumes nothing.
use Rattle.std.specs.Prelude.{ℕ, ◌≤◌, ◌<◌, ◌≡◌, Bool, true, false, cond, ◌&&◌, List, [], ◌∷◌, eqb, leb, length}
use Rattle.std.proofs.Math.Path.{refl}
use Rattle.std.proofs.Common.{arith, leb-true, ne_eqb}
use Rattle.text.specs.PartLaws.{and_left, and_right}
use Rattle.text.specs.Refusal.{sentences, said, sentence}
use Rattle.text.specs.TableLaws.{NoneOf, past}
use Rattle.std.proofs.Math.Decide.{dec_lt}

-- ---- 8, and what is above 25, have none
pub sentence-eight : sentence 8 ≡ []
unfolding sentence
sentence-eight = refl

abbrev all_given : List (ℕ × List ℕ) → Bool
all_given [] = true
all_given (row ∷ rows) = leb row.0 25 && all_given rows

module _ (n : ℕ) (l : 25 < n) where
  none_said : (rows : List (ℕ × List ℕ)) → all_given rows ≡ true → said n rows ≡ []
  none_said [] g = refl
  none_said (row ∷ rows) g =
      let k : row.0 ≤ 25 = leb-true row.0 25 (and_left (leb row.0 25) (all_given rows) g) in
      rw (ne_eqb n row.0 (λ e. omega arith)) (none_said rows (and_right (leb row.0 25) (all_given rows) g))

  pub sentence-past : sentence n ≡ []
  unfolding sentence
  sentence-past = none_said sentences refl

-- nor has what is none of the others
pub sentence-none : (n : ℕ) → NoneOf 0 8 n → NoneOf 9 17 n → sentence n ≡ []
sentence-none n h k = go (dec_lt 8 n)
  where
    go : Dec (8 < n) → sentence n ≡ []
    go (yes l) = sentence-past n (past 9 17 n k l)
    go (no l) = let e : n ≡ 8 = omega (arith, past 0 8 n h (omega arith)) in rw e sentence-eight

-- ---- a sentence has at most 128 bytes
abbrev short : List (ℕ × List ℕ) → Bool
short [] = true
short (row ∷ rows) = leb (length row.1) 128 && short rows

short-said : (n : ℕ) (rows : List (ℕ × List ℕ)) → short rows ≡ true → length (said n rows) ≤ 128
short-said n [] h = omega arith
short-said n (row ∷ rows) h = go (eqb n row.0) (short-said n rows (and_right (leb (length row.1) 128) (short rows) h))
  where
    go : (v : Bool) → length (said n rows) ≤ 128 → length (cond v row.1 (said n rows)) ≤ 128
    go true k = leb-true (length row.1) 128 (and_left (leb (length row.1) 128) (short rows) h)
    go false k = k

pub sentence-length : (n : ℕ) → length (sentence n) ≤ 128
unfolding sentence
sentence-length n = short-said n sentences refl
