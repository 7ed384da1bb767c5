-- Laws of `probe`: in the table that is filled from keys in rising order it gives a key's slot, counted from 1, and 0 where the key is not
-- among them.
-- Assumes nothing.
use Rattle.std.specs.Prelude.{◌≡◌, ℕ, suc, ◌-◌, ◌<◌, Bool, true, false, cond, ◌||◌, ◌↔◌, List, [], length, ◌≢◌, nat_lt, slice_index_or, refl}
use Rattle.std.proofs.Common.{sym, ap, ◌∙◌}
use Rattle.std.proofs.Math.Decide.{dec_lt}
use native.Mathlib.Omega.{arith}
use borrow.Author.Tests.{eqb-true, eqb-false, lt-ltb}
use Rattle.text.specs.Order.{Before}
use Rattle.text.specs.OrderLaws.{before-not-same}
use Rattle.text.specs.Part.{same}
use Rattle.text.specs.PartLaws.{same-is, same_refl}
use Rattle.book_records.specs.Records.{Key}
use Rattle.book_table.specs.First.{first}
use Rattle.book_table.specs.FirstLaws.{Least, Sought, seek, first-stop}
use Rattle.book_table.specs.Probe.{Holds, Lacks}
use Rattle.book_table.specs.Table.{home, bucket, free, filled, fill, ends, probe}
use Rattle.book_table.specs.TableLaws.{Sound, sound-filled, walk-found, walk-missing}

abbrev pub Rising : (ℕ → Key) → ℕ → Type 0
Rising f n = (i j : ℕ) → i < j → j < n → Before (f i) (f j)

-- a key stands in one slot
pub one_holds : (f : ℕ → Key) (n : ℕ) → Rising f n → (k : Key) (i j : ℕ) → Holds f n k i → Holds f n k j → i ≡ j
one_holds f n r k i j x y = go (dec_lt i j) (dec_lt j i)
  where
    go : Dec (i < j) → Dec (j < i) → i ≡ j
    go (yes h) d = absurd (before-not-same (f i) (f j) (r i j h y.0) (x.1 ∙ sym y.1))
    go (no h) (yes l) = absurd (before-not-same (f j) (f i) (r j i l x.0) (y.1 ∙ sym x.1))
    go (no h) (no l) = omega arith

-- what a number says of k
pub data Probed (f : ℕ → Key) (n : ℕ) (k : Key) : ℕ → Type 0 where
  hit : (i : ℕ) → Holds f n k i → Probed f n k (suc i)
  miss : Lacks f n k → Probed f n k 0

neither : (t : List ℕ) (f : ℕ → Key) (k : Key) (e : ℕ) → ends t f k e ≡ false → (bucket t (home k) e ≢ 0) × (f (bucket t (home k) e - 1) ≢ k)
neither t f k e = go (free t (home k) e) refl (same (f (bucket t (home k) e - 1)) k) refl
  where
    go : (a : Bool) → free t (home k) e ≡ a → (b : Bool) → same (f (bucket t (home k) e - 1)) k ≡ b → (a || b) ≡ false → (bucket t (home k) e ≢ 0) × (f (bucket t (home k) e - 1) ≢ k)
    go true p b q h = absurd (let z : ◌≡◌ {A = ℕ} 0 1 = cc in let y : ⊥ = omega arith in y)
    go false p true q h = absurd (let z : ◌≡◌ {A = ℕ} 0 1 = cc in let y : ⊥ = omega arith in y)
    go false p false q h = (eqb-false (bucket t (home k) e) 0 p, λ g. let z : ◌≡◌ {A = ℕ} 0 1 = cc (ap (λ (x : Key). same x k) g, same_refl k) in omega arith)

module _ (f : ℕ → Key) (n : ℕ) (t : List ℕ) (s : Sound f n t) (k : Key) where
  at_end : (d : ℕ) → Least (ends t f k) 512 d → Probed f n k (bucket t (home k) d)
  at_end d l = go (free t (home k) d) refl (same (f (bucket t (home k) d - 1)) k) refl l.here
    where
      go : (a : Bool) → free t (home k) d ≡ a → (b : Bool) → same (f (bucket t (home k) d - 1)) k ≡ b → (a || b) ≡ true → Probed f n k (bucket t (home k) d)
      go true p b q h = let z : bucket t (home k) d ≡ 0 = eqb-true (bucket t (home k) d) 0 p in rw z (miss (walk-missing f n t s k d (λ e m. neither t f k e (l.before e m)) (λ m. z)))
      go false p true q h =
          let u = eqb-false (bucket t (home k) d) 0 p in
          let w : bucket t (home k) d ≡ suc (bucket t (home k) d - 1) = omega arith in
          rw w (hit (bucket t (home k) d - 1) (walk-found f n t s k d u (same-is (f (bucket t (home k) d - 1)) k q)))
      go false p false q h = absurd (let z : ◌≡◌ {A = ℕ} 0 1 = cc in let y : ⊥ = omega arith in y)

  pub probed : Probed f n k (probe t f k)
  unfolding probe
  probed = go (seek (ends t f k) 512)
    where
      go : Sought (ends t f k) 512 → Probed f n k (cond (nat_lt (first (ends t f k) 512) 512) (bucket t (home k) (first (ends t f k) 512)) 0)
      go (Sought.found d l) = rw (first-stop (ends t f k) 512 d (omega (arith, l.below)) l.before (λ m. l.here), lt-ltb d 512 l.below) (at_end d l)
      go (Sought.missing b) = rw (first-stop (ends t f k) 512 512 (omega arith) b (λ m. absurd (let z : ⊥ = omega arith in z))) (miss (walk-missing f n t s k 512 (λ e m. neither t f k e (b e m)) (λ m. absurd (let z : ⊥ = omega arith in z))))

-- what it says is so, and what is so it says
pub hit-is : (f : ℕ → Key) (n : ℕ) (k : Key) (r i : ℕ) → Probed f n k r → r ≡ suc i → Holds f n k i
hit-is f n k r i (hit j h) e = let s : j ≡ i = omega arith in rw s at h
hit-is f n k r i (miss h) e = absurd (let z : ⊥ = omega arith in z)

pub miss-is : (f : ℕ → Key) (n : ℕ) (k : Key) (r : ℕ) → Probed f n k r → r ≡ 0 → Lacks f n k
miss-is f n k r (hit j h) e = absurd (let z : ⊥ = omega arith in z)
miss-is f n k r (miss h) e = h

pub is_hit : (f : ℕ → Key) (n : ℕ) → Rising f n → (k : Key) (r i : ℕ) → Probed f n k r → Holds f n k i → r ≡ suc i
is_hit f n u k r i (hit j h) g = ap suc (one_holds f n u k j i h g)
is_hit f n u k r i (miss h) g = absurd (h i g)

pub is_miss : (f : ℕ → Key) (n : ℕ) (k : Key) (r : ℕ) → Probed f n k r → Lacks f n k → r ≡ 0
is_miss f n k r (hit j h) g = absurd (g j h)
is_miss f n k r (miss h) g = refl

-- ---- the table of a list of keys
abbrev pub nth_key : List Key → ℕ → Key
nth_key ks i = slice_index_or ks i []

module _ (ks : List Key) (few : length ks < 512) (k : Key) where
  pub fill_probed : Probed (nth_key ks) (length ks) k (probe (fill ks) (nth_key ks) k)
  unfolding fill
  fill_probed = probed (nth_key ks) (length ks) (filled (nth_key ks) (length ks)) (sound-filled (nth_key ks) (length ks) few) k

  module _ (up : Rising (nth_key ks) (length ks)) where
    pub fill_hit : (i : ℕ) → probe (fill ks) (nth_key ks) k ≡ suc i ↔ Holds (nth_key ks) (length ks) k i
    fill_hit i = (hit-is (nth_key ks) (length ks) k _ i fill_probed, is_hit (nth_key ks) (length ks) up k _ i fill_probed)

  pub fill_miss : probe (fill ks) (nth_key ks) k ≡ 0 ↔ Lacks (nth_key ks) (length ks) k
  fill_miss = (miss-is (nth_key ks) (length ks) k _ fill_probed, is_miss (nth_key ks) (length ks) k _ fill_probed)
