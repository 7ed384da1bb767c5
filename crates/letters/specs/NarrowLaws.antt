-- Laws of `Narrow`: a picture has the length of its text, stands byte for byte beside it, and goes with joining and cutting.
-- Assumes nothing.
use Rattle.std.specs.Prelude.{ℕ, zero, suc, ◌≤◌, ◌<◌, ◌≡◌, refl, Bool, true, false, cond, ◌&&◌, List, [], ◌∷◌, ◌++◌, ltb, length, take, get_or, replicate}
use Rattle.std.proofs.Common.{sym, ap, ◌∙◌, append_assoc, arith, take-append-drop, lt-ltb, le-ltb, ltb-true, leb-true}
use Rattle.std.proofs.Math.Bool.{and-true}
use Rattle.text.specs.Part.{every, ascii}
use Rattle.text.specs.PartLaws.{and_left, and_right, every_append}
use Rattle.letters.specs.Character.{Character, further, character_of, size_of, characters, each, utf8}
use Rattle.letters.specs.CharacterLaws.{First, low, bad, high, first_is, size-within, characters-none, characters-step, characters-low, rest, walk, plain_start, characters-append, characters-plain}
use Rattle.letters.specs.Class.{is_letter, is_blank}
use Rattle.letters.specs.Narrow.{mark_of, seen_as, picture, pictures, narrow}

-- ---- one character after the other
pub pictures-append : (cs ds : List Character) → pictures (cs ++ ds) ≡ pictures cs ++ pictures ds
unfolding pictures
pictures-append [] ds = refl
pictures-append (c ∷ cs) ds = rw (pictures-append cs ds) (sym (append_assoc (picture c) (pictures cs) (pictures ds)))

pub narrow-none : narrow [] ≡ []
unfolding narrow pictures
narrow-none = rw characters-none

pub narrow_step : (t : List ℕ) → 0 < length t → narrow t ≡ picture (character_of t) ++ narrow (rest t)
unfolding narrow pictures
narrow_step t h = rw (characters-step t h)

-- ---- ASCII
pub narrow-low : (b : ℕ) (s : List ℕ) → b < 128 → narrow (b ∷ s) ≡ b ∷ narrow s
unfolding narrow pictures
narrow-low b s h = rw (characters-low b s h, lt-ltb b 128 h)

pub ascii-narrow : (t : List ℕ) → ascii t ≡ true → narrow t ≡ t
unfolding ascii every
ascii-narrow [] h = narrow-none
ascii-narrow (b ∷ s) h = narrow-low b s (ltb-true b 128 (and_left (ltb b 128) _ h)) ∙ rw (ascii-narrow s (and_right (ltb b 128) _ h))

-- ---- texts that are joined
pub narrow-append : (a b : List ℕ) → utf8 a ≡ true → narrow (a ++ b) ≡ narrow a ++ narrow b
unfolding narrow
narrow-append a b h = rw (characters-append a b h) (pictures-append (characters a) (characters b))

pub narrow-plain : (a b : List ℕ) → plain_start b ≡ true → narrow (a ++ b) ≡ narrow a ++ narrow b
unfolding narrow
narrow-plain a b h = rw (characters-plain a b h) (pictures-append (characters a) (characters b))

-- cut at a byte of ASCII
pub narrow_at : (a : List ℕ) (x : ℕ) (b : List ℕ) → x < 128 → narrow (a ++ (x ∷ b)) ≡ narrow a ++ (x ∷ narrow b)
narrow_at a x b h = narrow-plain a (x ∷ b) (lt-ltb x 128 h) ∙ rw (narrow-low x b h)

-- ---- byte for byte: one of ASCII stands for itself, and of the others each is one of three
pub data Mark : ℕ → Type 0 where
  as_letter : Mark 90
  as_blank : Mark 32
  as_other : Mark 33

pub data Alike : List ℕ → List ℕ → Type 0 where
  none : Alike [] []
  same : {b : ℕ} {s u : List ℕ} → b < 128 → Alike s u → Alike (b ∷ s) (b ∷ u)
  other : {b m : ℕ} {s u : List ℕ} → 128 ≤ b → Mark m → Alike s u → Alike (b ∷ s) (m ∷ u)

pub mark_of_lem : (v : ℕ) → Mark (mark_of v)
unfolding mark_of
mark_of_lem v = go (is_letter v) (is_blank v)
  where
    go : (p q : Bool) → Mark (cond p 90 (cond q 32 33))
    go true q = as_letter
    go false true = as_blank
    go false false = as_other

pub alike-append : {a u b w : List ℕ} → Alike a u → Alike b w → Alike (a ++ b) (u ++ w)
alike-append none y = y
alike-append (same h x) y = same h (alike-append x y)
alike-append (other h m x) y = other h m (alike-append x y)

-- bytes that go on with a character
run-alike : (n : ℕ) (s : List ℕ) {m : ℕ} → n ≤ length s → every further (take n s) ≡ true → Mark m → Alike (take n s) (replicate n m)
unfolding every
run-alike zero s l h k = none
run-alike (suc n) [] l h k = absurd (omega arith)
run-alike (suc n) (b ∷ s) l h k =
    let f = and_left (further b) _ h in
    other (leb-true 128 b (and_left _ _ f)) k (run-alike n s (omega arith) (and_right (further b) _ h) k)

first_alike : {b : ℕ} {s : List ℕ} {c : Character} → First b s c → Alike (take (size_of c) (b ∷ s)) (picture c)
first_alike {b} (low h) = rw (lt-ltb b 128 h) (same h none)
first_alike (bad h) = other h as_other none
first_alike {b} {s} (high {v} {n} h k l f) = rw (le-ltb v 128 k) (other h (mark_of_lem v) (run-alike n s l f (mark_of_lem v)))

pub alike : (t : List ℕ) → Alike t (narrow t)
alike = walk (λ t. Alike t (narrow t)) (rw narrow-none none) more
  where
    front : (t : List ℕ) → 0 < length t → Alike (take (size_of (character_of t)) t) (picture (character_of t))
    front [] l = absurd (omega arith)
    front (b ∷ s) l = first_alike (first_is b s)

    more : (t : List ℕ) → 0 < length t → Alike (rest t) (narrow (rest t)) → Alike t (narrow t)
    more t l ih = rw (narrow_step t l) (rw (take-append-drop (size_of (character_of t)) t) at (alike-append (front t l) ih))

alike-length : {s u : List ℕ} → Alike s u → length u ≡ length s
alike-length none = refl
alike-length (same h x) = ap suc (alike-length x)
alike-length (other h m x) = ap suc (alike-length x)

pub length-narrow : (t : List ℕ) → length (narrow t) ≡ length t
length-narrow t = alike-length (alike t)

pub mark-low : {m : ℕ} → Mark m → m < 128
mark-low as_letter = omega arith
mark-low as_blank = omega arith
mark-low as_other = omega arith

alike-ascii : {s u : List ℕ} → Alike s u → ascii u ≡ true
unfolding ascii every
alike-ascii none = refl
alike-ascii (same {b} h x) = rw (lt-ltb b 128 h) (alike-ascii x)
alike-ascii (other {b} {m} h k x) = rw (lt-ltb m 128 (mark-low k)) (alike-ascii x)

-- a picture is a text of ASCII
pub narrow-ascii : (t : List ℕ) → ascii (narrow t) ≡ true
narrow-ascii t = alike-ascii (alike t)

-- the byte at a place
pub alike_at : {s u : List ℕ} → Alike s u → (i : ℕ) → i < length s → (get_or s i 0 < 128 → get_or u i 0 ≡ get_or s i 0) × (128 ≤ get_or s i 0 → Mark (get_or u i 0))
alike_at none i l = absurd (omega arith)
alike_at (same h x) zero l = (λ k. refl, λ k. absurd (omega arith))
alike_at (same h x) (suc i) l = alike_at x i (omega arith)
alike_at (other h m x) zero l = (λ k. absurd (omega arith), λ k. m)
alike_at (other h m x) (suc i) l = alike_at x i (omega arith)

-- ---- a test on each byte of a picture is one on each character
pub every-run : (f : ℕ → Bool) (n m : ℕ) → 1 ≤ n → every f (replicate n m) ≡ f m
unfolding every
every-run f zero m h = absurd (omega arith)
every-run f (suc zero) m h = and-true (f m)
every-run f (suc (suc n)) m h = rw (every-run f (suc n) m (omega arith)) (twice (f m))
  where
    twice : (p : Bool) → (p && p) ≡ p
    twice true = refl
    twice false = refl

pub every-narrow : (f : ℕ → Bool) (t : List ℕ) → every f (narrow t) ≡ each (λ c. f (seen_as c)) (characters t)
unfolding each every
every-narrow f = walk (λ t. every f (narrow t) ≡ each (λ c. f (seen_as c)) (characters t)) (rw (narrow-none, characters-none)) more
  where
    more : (t : List ℕ) → 0 < length t → every f (narrow (rest t)) ≡ each (λ c. f (seen_as c)) (characters (rest t)) → every f (narrow t) ≡ each (λ c. f (seen_as c)) (characters t)
    more t l ih =
        rw (narrow_step t l, every_append f (picture (character_of t)) (narrow (rest t)), every-run f (size_of (character_of t)) (seen_as (character_of t)) (size-within t l).0, ih, characters-step t l)
