-- Laws of the table: in a filled one each key stands at a distance from its home, and every bucket on the way there is used, since to
-- enter another key empties no bucket and moves no entry. So a walk for a key finds it, and a walk that ends at a free bucket shows that
-- the key is not there.
-- Assumes nothing.
use Rattle.std.specs.Prelude.{◌≡◌, ℕ, zero, suc, ◌+◌, ◌-◌, ◌%◌, ◌<◌, ◌≤◌, Bool, true, false, cond, List, [], ◌∷◌, length, replicate, ◌==◌, ◌≢◌, slice_index, slice_index_or, slice_set, refl}
use Rattle.std.proofs.Common.{sym, ap, ◌∙◌, arith, eqb-true, eq-eqb, length-set, get_or-set_same, get_or-set_other}
use Rattle.std.proofs.Math.Decide.{dec_lt, ℕ_discrete}
use Rattle.std.proofs.lemmas.Bool.{eqb-false}
use Rattle.std.proofs.lemmas.List.{length-replicate}
use Rattle.book_records.specs.Records.{Key}
use Rattle.book_table.specs.First.{first}
use Rattle.book_table.specs.FirstLaws.{Least, first-least}
use Rattle.book_table.specs.Probe.{Holds, Lacks}
use Rattle.book_table.specs.Table.{home, spot, bucket, free, free_spot, filled}

-- ---- how many buckets are used
abbrev pub used : List ℕ → ℕ
used [] = 0
used (x ∷ t) = cond (x == 0) 0 1 + used t

one-most : (b : Bool) → cond {A = ℕ} b 0 1 ≤ 1
one-most true = omega arith
one-most false = omega arith

used-set : (t : List ℕ) (i v : ℕ) → used (slice_set t i v) ≤ suc (used t)
used-set [] i v = omega arith
used-set (x ∷ t) zero v = omega (arith, one-most (v == 0))
used-set (x ∷ t) (suc i) v = omega (arith, used-set t i v)

used-none : (n : ℕ) → used (replicate n 0) ≡ 0
used-none zero = refl
used-none (suc n) = omega (arith, used-none n)

-- one of them is free where fewer are used than there are
unused : (t : List ℕ) → used t < length t → (i : ℕ) × (i < length t) × (slice_index t i ≡ 0)
unused [] h = absurd (let z : ⊥ = omega arith in z)
unused (x ∷ t) h = go (x == 0) refl (unused t)
  where
    go : (b : Bool) → (x == 0) ≡ b → (used t < length t → (i : ℕ) × (i < length t) × (slice_index t i ≡ 0)) → (i : ℕ) × (i < suc (length t)) × (slice_index (x ∷ t) i ≡ 0)
    go true e r = (0, omega arith, eqb-true x 0 e)
    go false e r = let q = r (let z : used t < length t = omega (arith, ap (λ (b : Bool). cond {A = ℕ} b 0 1) e) in z) in (suc q.0, omega (arith, q.1), q.2)

-- every bucket is at some distance from h, going round
distance : (h i : ℕ) → i < 512 → (d : ℕ) × (d < 512) × (spot h d ≡ i)
distance h i l = ((i + 512 - h % 512) % 512, omega arith, omega arith)

module _ (t : List ℕ) (h : ℕ) (size : length t ≡ 512) (few : used t < 512) where
  room : Least (free t h) 512 (first (free t h) 512)
  room =
      let u = unused t (omega arith) in
      let d = distance h u.0 (omega (arith, u.1)) in
      first-least (free t h) 512 d.0 d.1 (eq-eqb (bucket t h d.0) 0 (ap (λ (i : ℕ). slice_index t i) d.2 ∙ u.2))

-- v stands at a distance from h, and each bucket before it is used
pub record Stands (t : List ℕ) (h v : ℕ) : Type 0 where
  pub far : ℕ
  pub near : far < 512
  pub there : bucket t h far ≡ v
  pub run : (e : ℕ) → e < far → bucket t h e ≢ 0

pub record Sound (f : ℕ → Key) (n : ℕ) (t : List ℕ) : Type 0 where
  pub size : length t ≡ 512
  pub few : used t ≤ n
  pub slots : (i : ℕ) → slice_index t i ≤ n
  pub stands : (j : ℕ) → j < n → Stands t (home (f j)) (suc j)

abbrev none : List ℕ
none = replicate 512 0

none-there : (n i : ℕ) → slice_index (replicate n 0) i ≤ 0
none-there zero i = omega arith
none-there (suc n) zero = omega arith
none-there (suc n) (suc i) = none-there n i

pub sound_none : (f : ℕ → Key) → Sound f 0 none
sound_none f = record { size = length-replicate {A = ℕ} 512 0; few = omega (arith, used-none 512); slots = none-there 512; stands = λ j l. absurd (let z : ⊥ = omega arith in z) }

-- ---- one more key
module _ (f : ℕ → Key) (n : ℕ) (t : List ℕ) (s : Sound f n t) (l : n < 512) where
  abbrev h : ℕ
  h = home (f n)

  abbrev d : ℕ
  d = first (free t h) 512

  abbrev p : ℕ
  p = spot h d

  abbrev t₁ : List ℕ
  t₁ = slice_set t p (suc n)

  least : Least (free t h) 512 d
  least = room t h s.size (omega (arith, s.few))

  was_free : slice_index_or t p 0 ≡ 0
  was_free = eqb-true (bucket t h d) 0 least.here

  here : slice_index_or t₁ p 0 ≡ suc n
  here = get_or-set_same t p (suc n) 0 (omega (arith, s.size))

  other : (i : ℕ) → (i ≢ p) → slice_index t₁ i ≡ slice_index t i
  other i = get_or-set_other t p i (suc n) 0

  -- what is used stays as it is
  kept : (i : ℕ) → (slice_index t i ≢ 0) → slice_index t₁ i ≡ slice_index t i
  kept i u = other i (λ e. u (ap (λ (j : ℕ). slice_index t j) e ∙ was_free))

  kept-used : (i : ℕ) → (slice_index t i ≢ 0) → slice_index t₁ i ≢ 0
  kept-used i u e = u (sym (kept i u) ∙ e)

  slots₁ : (i : ℕ) → Dec (i ≡ p) → slice_index t₁ i ≤ suc n
  slots₁ i (yes e) = rw e (omega (arith, here))
  slots₁ i (no e) = omega (arith, other i e, s.slots i)

  stands₁ : (j : ℕ) → j < suc n → Dec (j < n) → Stands t₁ (home (f j)) (suc j)
  stands₁ j k (yes q) =
      let x = s.stands j q in
      record {
        far = x.far;
        near = x.near;
        there = kept (spot (home (f j)) x.far) (λ e. omega (arith, x.there)) ∙ x.there;
        run = λ e m. kept-used (spot (home (f j)) e) (x.run e m);
      }
  stands₁ j k (no q) =
      let e : j ≡ n = omega arith in
      rw e (record { far = d; near = least.below; there = here; run = λ i m. kept-used (spot h i) (eqb-false (bucket t h i) 0 (least.before i m)) })

  pub sound_more : Sound f (suc n) t₁
  sound_more =
      record {
        size = length-set t p (suc n) ∙ s.size;
        few = omega (arith, used-set t p (suc n), s.few);
        slots = λ i. slots₁ i (ℕ_discrete i p);
        stands = λ j k. stands₁ j k (dec_lt j n);
      }

pub sound-filled : (f : ℕ → Key) (n : ℕ) → n < 512 → Sound f n (filled f n)
unfolding filled free_spot
sound-filled f zero l = sound_none f
sound-filled f (suc n) l = sound_more f n (filled f n) (sound-filled f n (omega arith)) (omega arith)

-- ---- walks
-- none of the first d buckets from k's home is free or holds k's slot
abbrev pub Passed : List ℕ → (ℕ → Key) → Key → ℕ → Type 0
Passed t f k d = (e : ℕ) → e < d → (bucket t (home k) e ≢ 0) × (f (bucket t (home k) e - 1) ≢ k)

module _ (f : ℕ → Key) (n : ℕ) (t : List ℕ) (s : Sound f n t) (k : Key) where
  pub walk-slot : (d : ℕ) → (bucket t (home k) d ≢ 0) → bucket t (home k) d - 1 < n
  walk-slot d u = omega (arith, s.slots (spot (home k) d))

  pub walk-found : (d : ℕ) → (bucket t (home k) d ≢ 0) → f (bucket t (home k) d - 1) ≡ k → Holds f n k (bucket t (home k) d - 1)
  walk-found d u e = (walk-slot d u, e)

  -- a walk that ends at a free bucket, or has seen them all
  pub walk-missing : (d : ℕ) → Passed t f k d → (d < 512 → bucket t (home k) d ≡ 0) → Lacks f n k
  walk-missing d p z j g = go (dec_lt d x.far) (dec_lt x.far d)
    where
      x : Stands t (home k) (suc j)
      x = rw (ap home g.1) at (s.stands j g.0)

      go : Dec (d < x.far) → Dec (x.far < d) → ⊥
      go (yes q) r = x.run d q (z (omega (arith, x.near)))
      go (no q) (yes r) = (p x.far r).1 (ap f (let w : bucket t (home k) x.far - 1 ≡ j = omega (arith, x.there) in w) ∙ g.1)
      go (no q) (no r) =
          let w : d ≡ x.far = omega arith in
          let v : bucket t (home k) d ≡ suc j = ap (bucket t (home k)) w ∙ x.there in
          omega (arith, z (omega (arith, x.near)))
