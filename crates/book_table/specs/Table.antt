-- The table: 512 numbers, each 0 or a slot's number counted from 1. A key's home is its hash modulo 512; it stands there, or in the next
-- free bucket, going round at the end.
-- Assumes nothing.
use Rattle.std.specs.Prelude.{◌≡◌, ℕ, zero, suc, ◌+◌, ◌-◌, ◌%◌, Bool, cond, ◌||◌, List, [], ◌∷◌, length, take, drop, replicate, ◌==◌, nat_lt, slice_index, slice_index_or, slice_set, refl}
use Rattle.text.specs.Bytes.{bytes}
use Rattle.text.specs.Part.{same}
use Rattle.book_records.specs.Records.{Key}
use Rattle.book_table.specs.First.{first_from, first}
use Rattle.book_table.specs.Hash.{fnv, fnv_from, joined}

unfoldable pub home : Key → ℕ
home k = fnv k % 512

-- the bucket d after h, going round
abbrev pub spot : ℕ → ℕ → ℕ
spot h d = (h + d) % 512

-- what stands in it
abbrev pub bucket : List ℕ → ℕ → ℕ → ℕ
bucket t h d = slice_index t (spot h d)

abbrev pub free : List ℕ → ℕ → ℕ → Bool
free t h d = bucket t h d == 0

-- the first free bucket from h on
unfoldable pub free_spot : List ℕ → ℕ → ℕ
free_spot t h = spot h (first (free t h) 512)

-- the table of the first n of some keys
unfoldable pub filled : (ℕ → Key) → ℕ → List ℕ
filled f zero = replicate 512 0
filled f (suc n) = slice_set (filled f n) (free_spot (filled f n) (home (f n))) (suc n)

unfoldable pub fill : List Key → List ℕ
fill ks = filled (λ i. slice_index_or ks i []) (length ks)

-- a walk for k ends at a free bucket, and at one that holds k's slot
abbrev pub ends : List ℕ → (ℕ → Key) → Key → ℕ → Bool
ends t f k d = free t (home k) d || same (f (bucket t (home k) d - 1)) k

-- the slot's number of k, or 0
unfoldable pub probe : List ℕ → (ℕ → Key) → Key → ℕ
probe t f k = let d = first (ends t f k) 512 in cond (nat_lt d 512) (bucket t (home k) d) 0

-- dy and pe have home 510, uu 511, nq and zm 0, lp 1
abbrev five : List Key
five = bytes "dy" ∷ bytes "nq" ∷ bytes "pe" ∷ bytes "uu" ∷ bytes "zm" ∷ []

goes_round : take 4 (fill five) ≡ 2 ∷ 4 ∷ 5 ∷ 0 ∷ []
unfolding fill filled free_spot first_from home fnv_from joined
goes_round = refl

to_the_end : drop 510 (fill five) ≡ 1 ∷ 3 ∷ []
unfolding fill filled free_spot first_from home fnv_from joined
to_the_end = refl

finds_zm : probe (fill five) (λ i. slice_index_or five i []) (bytes "zm") ≡ 5
unfolding probe same fill filled free_spot first_from home fnv_from joined
finds_zm = refl

finds_no_lp : probe (fill five) (λ i. slice_index_or five i []) (bytes "lp") ≡ 0
unfolding probe same fill filled free_spot first_from home fnv_from joined
finds_no_lp = refl
