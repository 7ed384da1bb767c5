-- No white space is a letter, so that a character is white exactly where what stands for it in the picture is.
-- Assumes nothing.
use Rattle.std.specs.Prelude.{ℕ, ◌≤◌, ◌≡◌, refl, Bool, true, false, cond, ◌&&◌, ◌||◌, List, [], ◌∷◌, ltb, leb, Some, None}
use Rattle.std.proofs.Common.{arith, ltb-true, leb-true}
use Rattle.std.proofs.Math.Bool.{and-false}
use Rattle.std.proofs.lemmas.Bool.{lt-leb}
use Rattle.text.specs.PartLaws.{and_left, and_right}
use Rattle.identifiers.specs.Owned.{blank}
use Rattle.letters.specs.Table.{part1, part2, part3, part4, letters, blanks}
use Rattle.letters.specs.Class.{between, inside, is_letter, is_blank}
use Rattle.letters.specs.Narrow.{mark_of, seen_as}
use Rattle.letters.specs.Trimmed.{white}
use Rattle.letters.specs.Character.{Character}

-- every range of the list ends before a or begins behind z
unfoldable clears : ℕ → ℕ → List ℕ → Bool
clears a z [] = true
clears a z (b ∷ []) = true
clears a z (b ∷ (y ∷ more)) = (ltb y a || ltb z b) && clears a z more

unfoldable apart : List ℕ → List ℕ → Bool
apart [] t = true
apart (a ∷ []) t = true
apart (a ∷ (z ∷ more)) t = clears a z t && apart more t

blanks-apart : apart blanks letters ≡ true
unfolding apart clears blanks letters part1 part2 part3 part4
blanks-apart = refl

-- a number in the range from a to z is in none from b to y
outside : (a z b y v : ℕ) → (ltb y a || ltb z b) ≡ true → between a z v ≡ true → between b y v ≡ false
outside a z b y v h k = go (ltb y a) refl h
  where
    low : a ≤ v
    low = leb-true a v (and_left (leb a v) _ k)

    high : v ≤ z
    high = leb-true v z (and_right (leb a v) _ k)

    go : (t : Bool) → ltb y a ≡ t → (t || ltb z b) ≡ true → between b y v ≡ false
    go true e f = let l = ltb-true y a e in rw (lt-leb v y (omega (arith, low, l))) (and-false (leb b v))
    go false e f = let l = ltb-true z b f in rw (lt-leb b v (omega (arith, high, l)))

clear-inside : (a z v : ℕ) (t : List ℕ) → clears a z t ≡ true → between a z v ≡ true → inside v t ≡ false
unfolding clears inside
clear-inside a z v [] h k = refl
clear-inside a z v (b ∷ []) h k = refl
clear-inside a z v (b ∷ (y ∷ more)) h k = rw (outside a z b y v (and_left (ltb y a || ltb z b) _ h) k) (clear-inside a z v more (and_right (ltb y a || ltb z b) _ h) k)

apart-inside : (s t : List ℕ) (v : ℕ) → apart s t ≡ true → inside v s ≡ true → inside v t ≡ false
unfolding apart inside
apart-inside [] t v h k = let z : ◌≡◌ {A = ℕ} 0 1 = cc in absurd (omega arith)
apart-inside (a ∷ []) t v h k = let z : ◌≡◌ {A = ℕ} 0 1 = cc in absurd (omega arith)
apart-inside (a ∷ (z ∷ more)) t v h k = go (between a z v) refl k (apart-inside more t v (and_right (clears a z t) _ h))
  where
    go : (b : Bool) → between a z v ≡ b → (b || inside v more) ≡ true → (inside v more ≡ true → inside v t ≡ false) → inside v t ≡ false
    go true e f ih = clear-inside a z v t (and_left (clears a z t) _ h) e
    go false e f ih = ih f

blank-no_letter : (v : ℕ) → is_blank v ≡ true → is_letter v ≡ false
unfolding is_blank is_letter
blank-no_letter v h = apart-inside blanks letters v blanks-apart h

pub white-seen : (c : Character) → blank (seen_as c) ≡ white c
unfolding mark_of white
white-seen (Some c) = go (ltb c.value 128) (is_blank c.value) refl (is_letter c.value) refl
  where
    go : (a b : Bool) → is_blank c.value ≡ b → (l : Bool) → is_letter c.value ≡ l → blank (cond a c.value (cond l 90 (cond b 32 33))) ≡ cond a (blank c.value) b
    go true b e l f = refl
    go false true e true f = let k = blank-no_letter c.value e in let z : ◌≡◌ {A = ℕ} 0 1 = cc in absurd (omega (arith, z))
    go false true e false f = refl
    go false false e true f = refl
    go false false e false f = refl
white-seen None = refl
