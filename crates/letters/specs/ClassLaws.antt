-- Laws of `Class`: a lookup among the ends of the ranges, and one in parts of a table.
-- Assumes nothing.
use Prim.Native.Nat.{ℕ, zero, suc, ◌%◌, ◌≤◌, ◌<◌}
use Rattle.std.specs.Prelude.{◌≡◌, Bool, true, false, ◌&&◌, ◌||◌, List, [], ◌∷◌, ◌++◌, ltb, leb, eqb, length}
use Rattle.std.proofs.Math.Path.{refl}
use Rattle.std.proofs.Common.{sym, ◌∙◌}
use Rattle.std.proofs.Math.Bool.{or-true, or-false, or_assoc, and-false}
use native.Mathlib.Omega.{arith}
use Rattle.std.proofs.Math.ListN.{get_or}
use borrow.Author.Tests.{ltb-true, lt-ltb, leb-true, lt-leb, le-leb}
use Rattle.text.specs.PartLaws.{and_left, and_right}
use Rattle.letters.specs.Class.{between, inside, scalars, rises}

-- ---- ranges that rise
record Rise (low a z : ℕ) (more : List ℕ) : Type 0 where
  first : low < a
  range : a ≤ z
  others : rises (suc z) more ≡ true

rise : (low a z : ℕ) (more : List ℕ) → rises low (a ∷ (z ∷ more)) ≡ true → Rise low a z more
unfolding rises
rise low a z more h =
    let k = and_right (ltb low a) _ h in
    record {
      first = ltb-true low a (and_left (ltb low a) _ h);
      range = leb-true a z (and_left (leb a z) _ (and_left (scalars a z) _ k));
      others = and_right (scalars a z) _ k;
    }

rise_odd : (low a : ℕ) → rises low (a ∷ []) ≡ true → ⊥
unfolding rises
rise_odd low a h = let z : ◌≡◌ {A = ℕ} 0 1 = cc in omega arith

-- v is in none of them where it is not above what they stand above
inside-below : (v low : ℕ) (t : List ℕ) → rises low t ≡ true → v ≤ low → inside v t ≡ false
unfolding inside
inside-below v low [] h l = refl
inside-below v low (a ∷ []) h l = refl
inside-below v low (a ∷ (z ∷ more)) h l =
    let r = rise low a z more h in
    rw (lt-leb a v (omega arith)) (inside-below v (suc z) more r.others (omega arith))

first_above_lem : (v low : ℕ) (t : List ℕ) → rises low t ≡ true → v < get_or t 0 0 → inside v t ≡ false
unfolding inside
first_above_lem v low [] h l = refl
first_above_lem v low (a ∷ []) h l = refl
first_above_lem v low (a ∷ (z ∷ more)) h l =
    let r = rise low a z more h in
    rw (lt-leb a v l) (inside-below v (suc z) more r.others (omega arith))

entry-above : (low : ℕ) (t : List ℕ) (j : ℕ) → rises low t ≡ true → j < length t → low < get_or t j 0
entry-above low [] j h l = absurd (omega arith)
entry-above low (a ∷ []) j h l = absurd (rise_odd low a h)
entry-above low (a ∷ (z ∷ more)) zero h l = (rise low a z more h).first
entry-above low (a ∷ (z ∷ more)) (suc zero) h l = let r = rise low a z more h in omega arith
entry-above low (a ∷ (z ∷ more)) (suc (suc j)) h l = let r = rise low a z more h in omega (arith, entry-above (suc z) more j r.others (omega arith))

-- ---- a lookup among the ends of the ranges: they do not fall
pub rises-sorted : (low : ℕ) (t : List ℕ) → rises low t ≡ true → (i j : ℕ) → i ≤ j → j < length t → get_or t i 0 ≤ get_or t j 0
rises-sorted low [] h i j l k = absurd (omega arith)
rises-sorted low (a ∷ []) h i j l k = absurd (rise_odd low a h)
rises-sorted low (a ∷ (z ∷ more)) h zero zero l k = omega arith
rises-sorted low (a ∷ (z ∷ more)) h zero (suc zero) l k = (rise low a z more h).range
rises-sorted low (a ∷ (z ∷ more)) h zero (suc (suc j)) l k = let r = rise low a z more h in omega (arith, entry-above (suc z) more j r.others (omega arith))
rises-sorted low (a ∷ (z ∷ more)) h (suc i) zero l k = absurd (omega arith)
rises-sorted low (a ∷ (z ∷ more)) h (suc zero) (suc zero) l k = omega arith
rises-sorted low (a ∷ (z ∷ more)) h (suc (suc i)) (suc zero) l k = absurd (omega arith)
rises-sorted low (a ∷ (z ∷ more)) h (suc zero) (suc (suc j)) l k = let r = rise low a z more h in omega (arith, entry-above (suc z) more j r.others (omega arith))
rises-sorted low (a ∷ (z ∷ more)) h (suc (suc i)) (suc (suc j)) l k = rises-sorted (suc z) more (rise low a z more h).others i j (omega arith) (omega arith)

-- each end lies in its range
pub inside_end : (low : ℕ) (t : List ℕ) → rises low t ≡ true → (i v : ℕ) → i < length t → get_or t i 0 ≡ v → inside v t ≡ true
unfolding inside
inside_end low [] h i v l e = absurd (omega arith)
inside_end low (a ∷ []) h i v l e = absurd (rise_odd low a h)
inside_end low (a ∷ (z ∷ more)) h zero v l e = let r = rise low a z more h in rw (le-leb a v (omega arith), le-leb v z (omega arith))
inside_end low (a ∷ (z ∷ more)) h (suc zero) v l e = let r = rise low a z more h in rw (le-leb a v (omega arith), le-leb v z (omega arith))
inside_end low (a ∷ (z ∷ more)) h (suc (suc i)) v l e = rw (inside_end (suc z) more (rise low a z more h).others i v (omega arith) e) (or-true (between a z v))

-- a number that is none of them lies in a range where its place among them is odd
pub inside_place : (low : ℕ) (t : List ℕ) → rises low t ≡ true → (i v : ℕ) → i ≤ length t → ((k : ℕ) → k < i → get_or t k 0 < v) → ((k : ℕ) → i ≤ k → k < length t → v < get_or t k 0) → eqb (i % 2) 1 ≡ inside v t
unfolding inside
inside_place low [] h zero v l b f = refl
inside_place low [] h (suc i) v l b f = absurd (omega arith)
inside_place low (a ∷ []) h i v l b f = absurd (rise_odd low a h)
inside_place low (a ∷ (z ∷ more)) h zero v l b f = sym (first_above_lem v low (a ∷ (z ∷ more)) h (f 0 (omega arith) (omega arith)))
inside_place low (a ∷ (z ∷ more)) h (suc zero) v l b f =
    let x = b 0 (omega arith) in
    let y = f 1 (omega arith) (omega arith) in
    rw (le-leb a v (omega arith), le-leb v z (omega arith))
inside_place low (a ∷ (z ∷ more)) h (suc (suc i)) v l b f =
    let y = b 1 (omega arith) in
    let e : suc (suc i) % 2 ≡ i % 2 = omega arith in
    rw (e, lt-leb v z y, and-false (leb a v)) (inside_place (suc z) more (rise low a z more h).others i v (omega arith) (λ k m. b (suc (suc k)) (omega arith)) (λ k m n. f (suc (suc k)) (omega arith) (omega arith)))

-- ---- a range of a table
-- one of the ranges has all numbers from b to y
abbrev pub covers : ℕ → ℕ → List ℕ → Bool
covers b y [] = false
covers b y (a ∷ []) = false
covers b y (a ∷ (z ∷ more)) = (leb a b && leb y z) || covers b y more

pub inside_covered : (b y v : ℕ) (t : List ℕ) → covers b y t ≡ true → b ≤ v → v ≤ y → inside v t ≡ true
unfolding inside
inside_covered b y v [] h l k = h
inside_covered b y v (a ∷ []) h l k = h
inside_covered b y v (a ∷ (z ∷ more)) h l k = go (leb a b && leb y z) refl h (λ h'. inside_covered b y v more h' l k)
  where
    go : (p : Bool) → (leb a b && leb y z) ≡ p → (p || covers b y more) ≡ true → (covers b y more ≡ true → inside v more ≡ true) → (between a z v || inside v more) ≡ true
    go true e h' next =
        let f = leb-true a b (and_left (leb a b) (leb y z) e) in
        let g = leb-true y z (and_right (leb a b) (leb y z) e) in
        rw (le-leb a v (omega arith), le-leb v z (omega arith))
    go false e h' next = rw (next h') (or-true (between a z v))

-- ---- tables that are joined
pub inside-append : (v low : ℕ) (a b : List ℕ) → rises low a ≡ true → inside v (a ++ b) ≡ (inside v a || inside v b)
unfolding inside
inside-append v low [] b h = refl
inside-append v low (a ∷ []) b h = absurd (rise_odd low a h)
inside-append v low (a ∷ (z ∷ more)) b h =
    let r = rise low a z more h in
    rw (inside-append v (suc z) more b r.others) (sym (or_assoc (leb a v && leb v z) (inside v more) (inside v b)))

-- ranges above a number are above each that is less
rises-above : (low under : ℕ) (t : List ℕ) → under ≤ low → rises low t ≡ true → rises under t ≡ true
unfolding rises
rises-above low under [] l h = h
rises-above low under (a ∷ []) l h = h
rises-above low under (a ∷ (z ∷ more)) l h =
    let k = ltb-true low a (and_left (ltb low a) _ h) in
    rw (lt-ltb under a (omega arith)) (and_right (ltb low a) _ h)

-- a list of pairs
abbrev pub even : List ℕ → Bool
even [] = true
even (a ∷ []) = false
even (a ∷ (z ∷ more)) = even more

-- each of two tables rises where both together do
pub rises-parts : (low : ℕ) (a b : List ℕ) → even a ≡ true → rises low (a ++ b) ≡ true → (rises low a ≡ true) × (rises low b ≡ true)
unfolding rises
rises-parts low [] b e h = (refl, h)
rises-parts low (a ∷ []) b e h = let z : ◌≡◌ {A = ℕ} 0 1 = cc in absurd (omega arith)
rises-parts low (a ∷ (z ∷ more)) b e h =
    let r = rise low a z (more ++ b) h in
    let k = and_right (ltb low a) _ h in
    let x = rises-parts (suc z) more b e r.others in
    (rw (and_left (ltb low a) _ h, and_left (scalars a z) _ k) x.0, rises-above (suc z) low b (omega arith) x.1)

-- the last of the last range, or z where there is none
abbrev pub last_or : ℕ → List ℕ → ℕ
last_or z [] = z
last_or z (a ∷ []) = z
last_or z (a ∷ (y ∷ more)) = last_or y more

last-least : (z : ℕ) (t : List ℕ) → rises (suc z) t ≡ true → z ≤ last_or z t
last-least z [] h = omega arith
last-least z (a ∷ []) h = omega arith
last-least z (a ∷ (y ∷ more)) h = let r = rise (suc z) a y more h in omega (arith, last-least y more r.others)

past-last : (v low z : ℕ) (t : List ℕ) → rises low t ≡ true → last_or z t < v → inside v t ≡ false
unfolding inside
past-last v low z [] h l = refl
past-last v low z (a ∷ []) h l = refl
past-last v low z (a ∷ (y ∷ more)) h l =
    let r = rise low a y more h in
    rw (lt-leb v y (omega (arith, last-least y more r.others)), past-last v (suc y) y more r.others l, and-false (leb a v))

-- where the one ends below a limit and the other begins no lower, a number is looked for in one of them
abbrev pub seam : ℕ → List ℕ → List ℕ → Bool
seam limit a b = ltb (last_or 0 a) limit && leb limit (get_or b 0 0)

module _ (low limit : ℕ) (a b : List ℕ) (e : even a ≡ true) (h : rises low (a ++ b) ≡ true) (s : seam limit a b ≡ true) (v : ℕ) where
  pub look-first : v < limit → inside v (a ++ b) ≡ inside v a
  look-first l =
      let x = rises-parts low a b e h in
      let k = leb-true limit (get_or b 0 0) (and_right (ltb (last_or 0 a) limit) _ s) in
      inside-append v low a b x.0 ∙ rw (first_above_lem v low b x.1 (omega arith)) (or-false (inside v a))

  pub look-second : limit ≤ v → inside v (a ++ b) ≡ inside v b
  look-second l =
      let x = rises-parts low a b e h in
      let k = ltb-true (last_or 0 a) limit (and_left (ltb (last_or 0 a) limit) _ s) in
      inside-append v low a b x.0 ∙ rw (past-last v low 0 a x.0 (omega arith))
