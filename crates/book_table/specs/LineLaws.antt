-- Laws of `lines`: the first text, and the rest.
-- Assumes nothing.
use Rattle.std.specs.Prelude.{◌≡◌, ℕ, suc, ◌+◌, ◌-◌, ◌<◌, ◌≤◌, List, [], ◌∷◌, ◌++◌, length, drop, ◌==◌, ◌≢◌, slice_index, slice_range, refl}
use Rattle.std.proofs.Common.{sym, ap, ◌∙◌, subst, arith, ne_eqb, length-take, length-drop, take-append-drop, drop_of_length-le, drop-cons, drop-drop, get_or-take, get_or-drop, take_all}
use Rattle.std.proofs.Math.Decide.{dec_lt}
use Rattle.book_table.specs.Lines.{ahead, lines, Line, Next}

abbrev NoTen : List ℕ → Type 0
NoTen w = (k : ℕ) → k < length w → slice_index w k ≢ 10

lines-ended : (w s : List ℕ) → NoTen w → lines (w ++ 10 ∷ s) ≡ w ∷ lines s
unfolding lines
lines-ended [] s n = refl
lines-ended (b ∷ w) s n = rw (ne_eqb b 10 (n 0 (omega arith)), lines-ended w s (λ k l. n (suc k) (omega arith)))

lines-last : (b : ℕ) (w : List ℕ) → NoTen (b ∷ w) → lines (b ∷ w) ≡ (b ∷ w) ∷ []
unfolding lines
lines-last b [] n = rw (ne_eqb b 10 (n 0 (omega arith)))
lines-last b (c ∷ w) n = ap (λ (x : List (List ℕ)). ahead (b == 10) b x) (lines-last c w (λ k l. n (suc k) (omega arith))) ∙ rw (ne_eqb b 10 (n 0 (omega arith)))

pub lines_none : (s : List ℕ) (i : ℕ) → length s ≤ i → lines (drop i s) ≡ []
unfolding lines
lines_none s i l = rw (drop_of_length-le s {i = i} l)

module _ (s : List ℕ) (i j : ℕ) (x : Line s i j) where
  abbrev w : List ℕ
  w = slice_range s i j

  no-ten : NoTen w
  no-ten k l e =
      let m : k < j - i = omega (arith, length-take (j - i) (drop i s)) in
      x.inside k m (sym (get_or-take (j - i) (drop i s) k 0 m ∙ get_or-drop i s k 0) ∙ e)

  parted : drop i s ≡ w ++ drop j s
  parted =
      let q : i + (j - i) ≡ j = omega (arith, x.from) in
      sym (take-append-drop (j - i) (drop i s)) ∙ ap (λ (l : List ℕ). w ++ l) (drop-drop (j - i) i s ∙ ap (λ (k : ℕ). drop k s) q)

  -- the text that starts at i is the first
  pub line_first : i < length s → (m : ℕ) → Next s j m → lines (drop i s) ≡ w ∷ lines (drop m s)
  line_first l m n = go (dec_lt j (length s))
    where
      go : Dec (j < length s) → lines (drop i s) ≡ w ∷ lines (drop m s)
      go (yes h) =
          let e : drop j s ≡ 10 ∷ drop m s = drop-cons s j 0 h ∙ ap (λ (b : ℕ). b ∷ drop (suc j) s) (x.stop h) ∙ ap (λ (k : ℕ). 10 ∷ drop k s) (let q : suc j ≡ m = omega (arith, n.more h) in q) in
          ap lines (parted ∙ ap (λ (t : List ℕ). w ++ t) e) ∙ lines-ended w (drop m s) no-ten
      go (no h) =
          let e : drop i s ≡ slice_index s i ∷ drop (suc i) s = drop-cons s i 0 l in
          let a : w ≡ drop i s = take_all (j - i) (drop i s) (omega (arith, length-drop i s)) in
          let z : m ≡ j = n.last (omega arith) in
          ap lines e ∙ lines-last (slice_index s i) (drop (suc i) s) (subst NoTen (a ∙ e) no-ten) ∙ ap (λ (t : List ℕ). t ∷ []) (sym (a ∙ e)) ∙ ap (λ (t : List (List ℕ)). w ∷ t) (sym (lines_none s m (omega arith)))

  pub next-within : (m : ℕ) → Next s j m → (m ≤ length s) × (i < length s → i < m)
  next-within m n = go (dec_lt j (length s))
    where
      go : Dec (j < length s) → (m ≤ length s) × (i < length s → i < m)
      go (yes h) = (omega (arith, n.more h), λ l. omega (arith, n.more h, x.from))
      go (no h) = (omega (arith, n.last (omega arith), x.to), λ l. omega (arith, n.last (omega arith), x.to))

pub next-there : (s : List ℕ) (j : ℕ) → (k : ℕ) × Next s j k
next-there s j = go (dec_lt j (length s))
  where
    go : Dec (j < length s) → (k : ℕ) × Next s j k
    go (yes h) = (j + 1, record { more = λ l. refl; last = λ l. absurd (let z : ⊥ = omega arith in z) })
    go (no h) = (j, record { more = λ l. absurd (let z : ⊥ = omega arith in z); last = λ l. refl })

-- ---- the walk to the end of a text
abbrev pub Clear : List ℕ → ℕ → ℕ → Type 0
Clear s i j = (k : ℕ) → k < j - i → slice_index s (i + k) ≢ 10

pub clear-start : (s : List ℕ) (i : ℕ) → Clear s i i
clear-start s i k l = absurd (let z : ⊥ = omega arith in z)

module _ (s : List ℕ) (i j : ℕ) (h : i ≤ j) (c : Clear s i j) where
  pub clear-more : (slice_index s j ≢ 10) → Clear s i (j + 1)
  clear-more n k l e = go (dec_lt k (j - i))
    where
      go : Dec (k < j - i) → ⊥
      go (yes q) = c k q e
      go (no q) = n (ap (λ (x : ℕ). slice_index s x) (let z : j ≡ i + k = omega arith in z) ∙ e)

  pub line-stop : j < length s → slice_index s j ≡ 10 → Line s i j
  line-stop l e = record { from = h; to = omega arith; inside = c; stop = λ k. e }

  pub line-end : j ≤ length s → length s ≤ j → Line s i j
  line-end m l = record { from = h; to = m; inside = c; stop = λ k. absurd (let z : ⊥ = omega arith in z) }

-- ---- counting
abbrev pub Counting : List ℕ → ℕ → ℕ → Type 0
Counting s i n = length (lines s) ≡ n + length (lines (drop i s))

pub counting-start : (s : List ℕ) → Counting s 0 0
counting-start s = omega arith

pub counting-done : (s : List ℕ) (i n : ℕ) → Counting s i n → length s ≤ i → n ≡ length (lines s)
counting-done s i n c l = omega (arith, ap length (lines_none s i l))

pub counting_more : (s : List ℕ) (i j m n : ℕ) → Counting s i n → i < length s → Line s i j → Next s j m → Counting s m (n + 1)
counting_more s i j m n c l x y = omega (arith, ap length (line_first s i j x l m y))
