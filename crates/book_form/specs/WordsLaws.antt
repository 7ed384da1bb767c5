-- Numbers of eight bytes compare as the bytes do.
-- Assumes nothing.
use Rattle.std.specs.Prelude.{◌≡◌, List, length, drop}
use Rattle.std.proofs.Math.Path.{refl, sym}
use Rattle.std.proofs.Common.{ap, ◌∙◌, drop-drop, get_or-drop}
use Prim.Native.Nat.{ℕ, zero, suc, ◌+◌, ◌*◌, ◌-◌, ◌<◌, ◌≤◌}
use Rattle.std.proofs.Math.Decide.{dec_lt}
use native.Mathlib.Omega.{arith}
use borrow.Author.Count.{below_more}
use Rattle.std.proofs.Math.ListN.{get_or}
use Rattle.std.specs.declared.cmp.Ordering.{Ordering as Order}
use Rattle.std.specs.declared.cmp.Ordering.TheVariants.{Less, Equal, Greater}
use Rattle.std.specs.Ordering.{nat_cmp}
use Rattle.std.specs.Cmp.{nat_cmp_is, ranked}
use Rattle.text.specs.Number.{Bytes, little}
use Rattle.text.specs.Order.{cmp}
use Rattle.text.specs.OrderLaws.{Tri, below, equal, above, tri}
use Rattle.book_form.specs.Counted.{stored}
use Rattle.book_form.specs.Compare.{ordering_of, Agree, Alike, high_sum}
use Rattle.book_form.specs.CompareLaws.{length-stored, get_d-stored, agree-rest, alike-agree, out-lt, out_gt}

-- the first n digits as a number to base 256, the first highest
unfoldable pub number : (ℕ → ℕ) → ℕ → ℕ
number f zero = 0
number f (suc n) = number f n * 256 + f n

-- eight bytes as a number, the first highest
unfoldable pub high : List ℕ → ℕ → ℕ
high s at = number (λ j. get_or s (at + j) 0) 8

-- eight bytes as a number, the first lowest
unfoldable pub low : List ℕ → ℕ → ℕ
low s at = number (λ j. get_or s (at + (7 - j)) 0) 8

-- the first digit that differs is smaller in f
record First (f g : ℕ → ℕ) (n : ℕ) : Type 0 where
  place : ℕ
  inside : place < n
  alike : (j : ℕ) → j < place → f j ≡ g j
  less : f place < g place

number_same : (f g : ℕ → ℕ) (n : ℕ) → ((j : ℕ) → j < n → f j ≡ g j) → number f n ≡ number g n
unfolding number
number_same f g zero h = refl
number_same f g (suc n) h = omega (arith, number_same f g n (λ j l. h j (omega arith)), h n (omega arith))

module _ (f g : ℕ → ℕ) (hf : (j : ℕ) → f j < 256) (hg : (j : ℕ) → g j < 256) where
  number-eq : (n : ℕ) → number f n ≡ number g n → (j : ℕ) → j < n → f j ≡ g j
  unfolding number
  number-eq zero e j l = absurd (let z : ⊥ = omega arith in z)
  number-eq (suc n) e j l = below_more (λ (j : ℕ). f j ≡ g j) n (number-eq n (omega (arith, hf n, hg n))) (omega (arith, hf n, hg n)) j (omega arith)

  number_lt : (n : ℕ) → number f n < number g n → First f g n
  unfolding number
  number_lt zero l = absurd (let z : ⊥ = omega arith in z)
  number_lt (suc n) l = go (tri (number f n) (number g n)) (number_lt n)
    where
      go : Tri (number f n) (number g n) → (number f n < number g n → First f g n) → First f g (suc n)
      go (below p) more =
          let x = more p in
          record { place = x.place; inside = omega arith; alike = x.alike; less = x.less }
      go (equal p) more = record { place = n; inside = omega arith; alike = number-eq n p; less = omega arith }
      go (above p) more = absurd (let z : ⊥ = omega (arith, hf n, hg n) in z)

at_place : (s : List ℕ) (p q : ℕ) → p ≡ q → get_or s p 0 ≡ get_or s q 0
at_place s p q e = ap (λ (m : ℕ). get_or s m 0) e

pub high_sum_lem : (s : List ℕ) (at : ℕ) → high_sum s at ≡ high s at
unfolding high number
high_sum_lem s at = omega (arith, at_place s (at + 0) at (omega arith))

pub low_of : (s : List ℕ) (at : ℕ) → little 8 (drop at s) ≡ low s at
unfolding low number little
low_of s at =
    simp (drop-drop, get_or-drop) (omega (arith, at_place s (at + 1 + 0) (at + 1) (omega arith), at_place s (at + 1 + 1 + 0) (at + 2) (omega arith), at_place s (at + 1 + 1 + 1 + 0) (at + 3) (omega arith), at_place s (at + 1 + 1 + 1 + 1 + 0) (at + 4) (omega arith), at_place s (at + 1 + 1 + 1 + 1 + 1 + 0) (at + 5) (omega arith), at_place s (at + 1 + 1 + 1 + 1 + 1 + 1 + 0) (at + 6) (omega arith), at_place s (at + 1 + 1 + 1 + 1 + 1 + 1 + 1 + 0) (at + 7) (omega arith)))

pub equal_numbers : (x y : ℕ) → nat_cmp x y ≡ Equal → x ≡ y
equal_numbers x y e = ranked x y Equal (sym e)

-- ---- what is the same from two places on
alike-join : (s : List ℕ) (a b i n : ℕ) → Alike s a b i → Alike s (a + i) (b + i) n → Alike s a b (i + n)
alike-join s a b i n g h j l = go (dec_lt j i)
  where
    go : Dec (j < i) → get_or s (a + j) 0 ≡ get_or s (b + j) 0
    go (yes q) = g j q
    go (no q) = at_place s (a + j) (a + i + (j - i)) (omega arith) ∙ h (j - i) (omega arith) ∙ at_place s (b + i + (j - i)) (b + j) (omega arith)

pub low_alike : (s : List ℕ) (a b i : ℕ) → Bytes s → Alike s a b i → low s (a + i) ≡ low s (b + i) → Alike s a b (i + 8)
unfolding low
low_alike s a b i h g e =
    alike-join s a b i 8 g (λ j l.
    at_place s (a + i + j) (a + i + (7 - (7 - j))) (omega arith)
    ∙ number-eq (λ j. get_or s (a + i + (7 - j)) 0) (λ j. get_or s (b + i + (7 - j)) 0) (λ j. h (a + i + (7 - j))) (λ j. h (b + i + (7 - j))) 8 e (7 - j) (omega arith)
    ∙ at_place s (b + i + (7 - (7 - j))) (b + i + j) (omega arith))

pub low_same : (s : List ℕ) (a b : ℕ) → Alike s a b 8 → low s a ≡ low s b
unfolding low
low_same s a b g = number_same (λ j. get_or s (a + (7 - j)) 0) (λ j. get_or s (b + (7 - j)) 0) 8 (λ j l. g (7 - j) (omega arith))

-- The keys of two neighbouring slots that share n - 8 or fewer bytes: the eight bytes behind these decide.
module _ (s key : List ℕ) (at by n i : ℕ) (hs : at + by + 256 ≤ length s) (h : Bytes s) (ek : key ≡ stored s at) (nk : n ≤ length key) (nb : n ≤ get_or s (at + by) 0)
    (hi : i + 8 ≤ n) (g : Alike s (at + 1) (at + by + 1) i) where
  ha : get_or s at 0 ≤ 255
  ha = omega (arith, h at)

  la : length (stored s at) ≡ get_or s at 0
  la = length-stored s at (omega (arith, ha))

  na : n ≤ get_or s at 0
  na = omega (arith, ap length ek, la)

  hb : get_or s (at + by) 0 ≤ 255
  hb = omega (arith, h (at + by))

  agrees : (j : ℕ) → j ≤ n → Alike s (at + 1) (at + by + 1) j → Agree (stored s at) s (at + by) j
  agrees j l e = alike-agree s (stored s at) at by n j hs ha hb refl na nb l e

  -- what both keys have at i + p
  left : (p : ℕ) → i + p < n → get_or (stored s at) (i + p) 0 ≡ get_or s (at + 1 + i + p) 0
  left p l = get_d-stored s at (i + p) (omega (arith, na)) ∙ at_place s (at + 1 + (i + p)) (at + 1 + i + p) (omega arith)

  right : (p : ℕ) → get_or s (at + by + 1 + (i + p)) 0 ≡ get_or s (at + by + 1 + i + p) 0
  right p = at_place s (at + by + 1 + (i + p)) (at + by + 1 + i + p) (omega arith)

  next-lt : high s (at + 1 + i) < high s (at + by + 1 + i) → Less ≡ ordering_of (cmp (stored s at) (stored s (at + by)))
  unfolding high
  next-lt l =
      let x = number_lt (λ j. get_or s (at + 1 + i + j) 0) (λ j. get_or s (at + by + 1 + i + j) 0) (λ j. h (at + 1 + i + j)) (λ j. h (at + by + 1 + i + j)) 8 l in
      let p = x.place in
      let a = agrees (i + p) (omega arith) (alike-join s (at + 1) (at + by + 1) i p g x.alike) in
      out-lt s (stored s at) (at + by) (get_or s (at + by) 0) (i + p) (omega arith) refl hb (agree-rest (stored s at) s (at + by) (i + p) (omega arith) hb a) (omega (arith, la, na)) (omega arith) (omega (arith, left p (omega arith), right p))

  next_gt : high s (at + by + 1 + i) < high s (at + 1 + i) → Greater ≡ ordering_of (cmp (stored s at) (stored s (at + by)))
  unfolding high
  next_gt l =
      let x = number_lt (λ j. get_or s (at + by + 1 + i + j) 0) (λ j. get_or s (at + 1 + i + j) 0) (λ j. h (at + by + 1 + i + j)) (λ j. h (at + 1 + i + j)) 8 l in
      let p = x.place in
      let a = agrees (i + p) (omega arith) (alike-join s (at + 1) (at + by + 1) i p g (λ j k. sym (x.alike j k))) in
      out_gt s (stored s at) (at + by) (get_or s (at + by) 0) (i + p) (omega arith) refl hb (agree-rest (stored s at) s (at + by) (i + p) (omega arith) hb a) (omega (arith, la, na)) (omega arith) (omega (arith, left p (omega arith), right p))

  -- the order of the two numbers, where they differ
  pub next-decides : (x y : ℕ) → x ≡ high s (at + 1 + i) → y ≡ high s (at + by + 1 + i) → (r : Order) → r ≡ nat_cmp x y → (r ≡ Equal → ⊥) → r ≡ ordering_of (cmp (stored s at) (stored s (at + by)))
  next-decides x y ex ey r e n = go (tri x y)
    where
      go : Tri x y → r ≡ ordering_of (cmp (stored s at) (stored s (at + by)))
      go (below p) = e ∙ sym (nat_cmp_is x y Less p) ∙ next-lt (omega arith)
      go (equal p) = absurd (n (e ∙ sym (nat_cmp_is x y Equal p)))
      go (above p) = e ∙ sym (nat_cmp_is x y Greater p) ∙ next_gt (omega arith)

  pub next-same : (Alike s (at + 1 + i) (at + by + 1 + i) 8 → i ≡ n - 8) → high s (at + 1 + i) ≡ high s (at + by + 1 + i) → Agree key s (at + by) n
  unfolding high
  next-same last e =
      let q = number-eq (λ j. get_or s (at + 1 + i + j) 0) (λ j. get_or s (at + by + 1 + i + j) 0) (λ j. h (at + 1 + i + j)) (λ j. h (at + by + 1 + i + j)) 8 e in
      let ei : i + 8 ≡ n = omega (arith, last q) in
      rw (ek, ← ei) (agrees (i + 8) hi (alike-join s (at + 1) (at + by + 1) i 8 g q))
