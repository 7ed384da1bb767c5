-- A word against a text, eight bytes at a time as a number, the first byte lowest.
-- Assumes nothing.
use Rattle.std.specs.Prelude.{ℕ, zero, suc, ◌+◌, ◌*◌, ◌-◌, ◌/◌, ◌%◌, ◌≤◌, ◌<◌, ◌≡◌, refl, List, [], ◌∷◌, ◌++◌, Bool, true, false, ◌&&◌, eqb, length, take, drop, get_or}
use Rattle.std.proofs.Common.{sym, ap, ◌∙◌, arith, length-drop, take_all, drop-drop, get_or-drop, eq-eqb, eqb-true}
use Rattle.std.proofs.Math.Bool.{and-false}
use Rattle.std.proofs.lemmas.Bool.{eqb-false}
use Rattle.text.specs.Bytes.{bytes}
use Rattle.text.specs.Number.{Bytes, little, low_bytes}
use Rattle.text.specs.NumberLaws.{length-low}
use Rattle.text.specs.Part.{starts_with}
use Rattle.text.specs.PartLaws.{and_left, and_right, starts-short}

-- the bound of n bytes
abbrev pub room : ℕ → ℕ
room zero = 1
room (suc n) = 256 * room n

-- a text starts with the bytes of a number where its first bytes are that number
pub starts-little : (n : ℕ) (s : List ℕ) (a : ℕ) → n ≤ length s → Bytes s → a < room n → starts_with (low_bytes n a) s ≡ eqb (little n s) a
unfolding starts_with little low_bytes
starts-little zero s a h k l = let z : a ≡ 0 = omega arith in rw z
starts-little (suc n) [] a h k l = absurd (omega arith)
starts-little (suc n) (b ∷ s) a h k l =
    go (starts-little n s (a / 256) (omega arith) (λ i. k (suc i)) (omega arith)) (k 0) (eqb (little n s * 256 + b) a) refl
  where
    go : starts_with (low_bytes n (a / 256)) s ≡ eqb (little n s) (a / 256) → b < 256 → (v : Bool) → eqb (little n s * 256 + b) a ≡ v → (eqb b (a % 256) && starts_with (low_bytes n (a / 256)) s) ≡ v
    go ih q true e =
        let x = eqb-true (little n s * 256 + b) a e in
        let y : b ≡ a % 256 = omega arith in
        let z : little n s ≡ a / 256 = omega arith in
        rw (ih, eq-eqb b (a % 256) y, eq-eqb (little n s) (a / 256) z)
    go ih q false e = none (eqb b (a % 256) && starts_with (low_bytes n (a / 256)) s) refl
      where
        none : (w : Bool) → (eqb b (a % 256) && starts_with (low_bytes n (a / 256)) s) ≡ w → w ≡ false
        none false f = refl
        none true f =
            let y = eqb-true b (a % 256) (and_left _ _ f) in
            let z = eqb-true (little n s) (a / 256) (sym ih ∙ and_right (eqb b (a % 256)) _ f) in
            absurd (eqb-false (little n s * 256 + b) a e (omega arith))

-- what stands at a place, compared as one number
pub starts-eight : (s : List ℕ) (at a n : ℕ) → at + 8 ≤ length s → Bytes s → a < 18446744073709551616 → n ≡ little 8 (drop at s) → eqb n a ≡ starts_with (low_bytes 8 a) (drop at s)
starts-eight s at a n h k l e =
    rw e (sym (starts-little 8 (drop at s) a (rw length-drop (omega arith)) (λ i. rw get_or-drop (k (at + i))) l))

-- the first bytes of a text are those of their number
pub low-little : (n : ℕ) (w : List ℕ) → n ≤ length w → Bytes w → low_bytes n (little n w) ≡ take n w
unfolding little low_bytes
low-little zero w h k = refl
low-little (suc n) [] h k = absurd (omega arith)
low-little (suc n) (b ∷ w) h k =
    let p : (little n w * 256 + b) % 256 ≡ b = omega (arith, k 0) in
    let q : (little n w * 256 + b) / 256 ≡ little n w = omega (arith, k 0) in
    rw (p, q, low-little n w (omega arith) (λ i. k (suc i)))

-- a word of eight bytes, as the code makes its number
pub eight-word : (w : List ℕ) (a : ℕ) → 8 ≤ length w → (a ≡ little 8 (drop 0 w)) × Bytes w → low_bytes 8 a ≡ take 8 w
eight-word w a h e = ap (low_bytes 8) e.0 ∙ low-little 8 w h e.1

-- all of its bytes
pub eight-whole : (w : List ℕ) (a : ℕ) → length w ≡ 8 → (a ≡ little 8 (drop 0 w)) × Bytes w → low_bytes 8 a ≡ w
eight-whole w a h e = eight-word w a (omega arith) e ∙ take_all 8 w (omega arith)

-- a text too short for it
pub starts_none : (s : List ℕ) (at a : ℕ) → length s < at + 8 → starts_with (low_bytes 8 a) (drop at s) ≡ false
starts_none s at a h = starts-short (low_bytes 8 a) (drop at s) (rw (length-low 8 a, length-drop) (omega arith))

-- ---- a word that its first bytes and its last make, which may overlap
pub starts-less : (w s : List ℕ) (j : ℕ) → starts_with w s ≡ true → starts_with (take j w) s ≡ true
unfolding starts_with
starts-less w s zero h = refl
starts-less [] s (suc j) h = refl
starts-less (x ∷ w) [] (suc j) h = h
starts-less (x ∷ w) (y ∷ s) (suc j) h = rw (and_left (eqb y x) (starts_with w s) h, starts-less w s j (and_right (eqb y x) (starts_with w s) h))

pub overlap : (w s : List ℕ) (j k : ℕ) → k ≤ j → starts_with w s ≡ (starts_with (take j w) s && starts_with (drop k w) (drop k s))
unfolding starts_with
overlap w s j zero h = go (starts_with w s) refl
  where
    go : (v : Bool) → starts_with w s ≡ v → v ≡ (starts_with (take j w) s && v)
    go true e = rw (starts-less w s j e)
    go false e = sym (and-false (starts_with (take j w) s))
overlap w s zero (suc k) h = absurd (omega arith)
overlap [] s (suc j) (suc k) h = refl
overlap (x ∷ w) [] (suc j) (suc k) h = refl
overlap (x ∷ w) (y ∷ s) (suc j) (suc k) h = rw (overlap w s j k (omega arith)) (go (eqb y x))
  where
    go : (v : Bool) → (v && (starts_with (take j w) s && starts_with (drop k w) (drop k s))) ≡ ((v && starts_with (take j w) s) && starts_with (drop k w) (drop k s))
    go true = refl
    go false = refl

-- two tests
pub and_none : (x y : Bool) → y ≡ false → false ≡ (x && y)
and_none true y e = sym e
and_none false y e = refl

pub and-stop : (x y : Bool) → x ≡ false → false ≡ (x && y)
and-stop x y e = rw e

pub and-go : (x y z : Bool) → x ≡ true → z ≡ y → z ≡ (x && y)
and-go x y z e f = rw (e, f)

-- ---- a word and the rest
pub starts_split : (w s : List ℕ) → starts_with w s ≡ true → s ≡ w ++ drop (length w) s
unfolding starts_with
starts_split [] s h = refl
starts_split (x ∷ w) [] h = let z : ◌≡◌ {A = ℕ} 0 1 = cc in absurd (omega arith)
starts_split (x ∷ w) (y ∷ s) h = rw (eqb-true y x (and_left (eqb y x) (starts_with w s) h), ← starts_split w s (and_right (eqb y x) (starts_with w s) h))

pub starts-whole : (w r : List ℕ) → starts_with w (w ++ r) ≡ true
unfolding starts_with
starts-whole [] r = refl
starts-whole (x ∷ w) r = rw (eq-eqb x x refl) (starts-whole w r)

pub starts-room : (w s : List ℕ) → starts_with w s ≡ true → length w ≤ length s
unfolding starts_with
starts-room [] s h = omega arith
starts-room (x ∷ w) [] h = let z : ◌≡◌ {A = ℕ} 0 1 = cc in absurd (omega arith)
starts-room (x ∷ w) (y ∷ s) h = omega (arith, starts-room w s (and_right (eqb y x) (starts_with w s) h))

-- ---- a word by the numbers of its bytes
module _ (w : List ℕ) (n : ℕ) (s : List ℕ) (e : ℕ) where
  -- of 8 to 16 bytes: the first eight, and the last
  pub word_two : (a b : ℕ) → low_bytes 8 a ≡ take 8 w → low_bytes 8 b ≡ drop (n - 8) w → n ≤ 16 → (starts_with (low_bytes 8 a) (drop e s) && starts_with (low_bytes 8 b) (drop (e + (n - 8)) s)) ≡ starts_with w (drop e s)
  word_two a b f g l = rw (f, g, ← drop-drop (n - 8) e s) (sym (overlap w (drop e s) 8 (n - 8) (omega arith)))

  -- of 16 to 24: the first, the second and the last
  pub word-three : (a b c : ℕ) → low_bytes 8 a ≡ take 8 w → low_bytes 8 b ≡ take 8 (drop 8 w) → low_bytes 8 c ≡ drop (n - 8) w → 16 ≤ n → n ≤ 24
      → (starts_with (low_bytes 8 a) (drop e s) && (starts_with (low_bytes 8 b) (drop (e + 8) s) && starts_with (low_bytes 8 c) (drop (e + (n - 8)) s))) ≡ starts_with w (drop e s)
  word-three a b c f g h l m =
      let k : 8 + (n - 16) ≡ n - 8 = omega arith in
      let i : e + 8 + (n - 16) ≡ e + (n - 8) = omega arith in
      let rest = overlap (drop 8 w) (drop 8 (drop e s)) 8 (n - 16) (omega arith) in
      rw (f, g, h)
      (sym (overlap w (drop e s) 8 8 (omega arith) ∙ rw (rest, drop-drop (n - 16) 8 w, k, drop-drop 8 e s, drop-drop (n - 16) (e + 8) s, i)))

-- a text that has a word at a place goes on to the word's end
pub word_room : (w s : List ℕ) (e : ℕ) → starts_with w (drop e s) ≡ true → e ≤ length s → e + length w ≤ length s
word_room w s e h l = omega (arith, starts-room w (drop e s) h, length-drop e s)

-- ---- six bytes of eight
-- a text without its first bytes, one at a time
abbrev drops : ℕ → List ℕ → List ℕ
drops zero s = s
drops (suc i) s = drops i (drop 1 s)

six_of-eight : (s : List ℕ) → Bytes s → little 8 s % 281474976710656 ≡ little 6 s
unfolding little
six_of-eight s k = omega (arith, each 0, each 1, each 2, each 3, each 4, each 5)
  where
    each : (i : ℕ) → get_or (drops i s) 0 0 < 256
    each i = go i s k
      where
        go : (j : ℕ) (x : List ℕ) → Bytes x → get_or (drops j x) 0 0 < 256
        go zero x q = q 0
        go (suc j) x q = go j (drop 1 x) (λ n. rw get_or-drop (q (1 + n)))

pub ports-six : (s : List ℕ) (at n : ℕ) → at + 8 ≤ length s → Bytes s → n ≡ little 8 (drop at s) → eqb (n % 281474976710656) 52172921401200 ≡ starts_with (bytes "ports/") (drop at s)
unfolding low_bytes
ports-six s at n h k e =
    let b : Bytes (drop at s) = λ i. rw get_or-drop (k (at + i)) in
    let l : 6 ≤ length (drop at s) = simp length-drop (omega arith) in
    rw (e, six_of-eight (drop at s) b) (sym (starts-little 6 (drop at s) 52172921401200 l b (omega arith)))
