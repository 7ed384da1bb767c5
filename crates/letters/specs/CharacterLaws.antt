-- Laws of `Character`: what the first character of a text is, the characters one after the other, and those of texts that are joined.
-- Assumes nothing.
use Rattle.std.specs.Prelude.{ℕ, zero, suc, ◌+◌, ◌*◌, ◌-◌, ◌^◌, ◌≤◌, ◌<◌, ◌≡◌, refl, Bool, true, false, cond, ◌&&◌, List, [], ◌∷◌, ◌++◌, ltb, leb, length, take, drop, get_or, None}
use Rattle.std.proofs.Common.{sym, ◌∙◌, pow-suc, add-one, arith, length-append, length-drop, drop-drop}
use Rattle.std.proofs.Math.Bool.{and_assoc, and-false}
use Rattle.std.proofs.Math.Nat.{pow-le-pow_right}
use Rattle.std.proofs.Math.ListN.{drop_of_length-le}
use Rattle.std.proofs.Math.Seq.{drop-cons}
use Rattle.std.proofs.lemmas.List.{drop-append-le}
use borrow.Author.Tests.{lt-ltb, le-ltb, ltb-true, ltb-false, leb-true, lt-leb, le-leb}
use Rattle.text.specs.Part.{every, ascii}
use Rattle.text.specs.PartLaws.{and_left, and_right}
use Rattle.letters.specs.Character.{Character, point, further, proper, goes_on, character_of, size_of, whole, characters_from, characters, each, utf8}

-- ---- what the first character of a text is
-- a character that goes on for n bytes
pub data Goes (n size least : ℕ) (s : List ℕ) : Character → Type 0 where
  stops : Goes n size least s None
  ends : {v : ℕ} → least ≤ v → n ≤ length s → every further (take n s) ≡ true → Goes n size least s (point v size)

pub goes : (n size least v : ℕ) (s : List ℕ) → Goes n size least s (goes_on n size least v s)
unfolding goes_on every
goes zero size least v s = go (proper least v) refl
  where
    go : (p : Bool) → proper least v ≡ p → Goes 0 size least s (cond p (point v size) None)
    go true e = ends (leb-true least v (and_left (leb least v) _ e)) (omega arith) refl
    go false e = stops
goes (suc n) size least v [] = stops
goes (suc n) size least v (b ∷ s) = go (further b) refl (goes n size least (v * 64 + (b - 128)) s)
  where
    more : {c : Character} → further b ≡ true → Goes n size least s c → Goes (suc n) size least (b ∷ s) c
    more e stops = stops
    more e (ends l h f) = ends l (omega arith) (rw (e, f))

    go : (p : Bool) → further b ≡ p → Goes n size least s (goes_on n size least (v * 64 + (b - 128)) s) → Goes (suc n) size least (b ∷ s) (cond p (goes_on n size least (v * 64 + (b - 128)) s) None)
    go true e g = more e g
    go false e g = stops

-- a byte of ASCII; a byte that begins none; or a character beyond ASCII, whose n further bytes are all there
pub data First (b : ℕ) (s : List ℕ) : Character → Type 0 where
  low : b < 128 → First b s (point b 1)
  bad : 128 ≤ b → First b s None
  high : {v n : ℕ} → 128 ≤ b → 128 ≤ v → n ≤ length s → every further (take n s) ≡ true → First b s (point v (suc n))

-- what a first byte begins, whatever comes after it
pub data Begins (b : ℕ) : Type 0 where
  alone : b < 128 → ((s : List ℕ) → character_of (b ∷ s) ≡ point b 1) → Begins b
  nothing : 128 ≤ b → ((s : List ℕ) → character_of (b ∷ s) ≡ None) → Begins b
  longer : (n least v : ℕ) → 128 ≤ b → 128 ≤ least → ((s : List ℕ) → character_of (b ∷ s) ≡ goes_on n (suc n) least v s) → Begins b

pub begins : (b : ℕ) → Begins b
unfolding character_of
begins b = go (ltb b 128) refl (ltb b 192) refl (ltb b 224) refl (ltb b 240) refl (ltb b 248) refl
  where
    go : (p : Bool) → ltb b 128 ≡ p → (q : Bool) → ltb b 192 ≡ q → (r : Bool) → ltb b 224 ≡ r → (u : Bool) → ltb b 240 ≡ u → (w : Bool) → ltb b 248 ≡ w → Begins b
    go true e q f r g u h w k = alone (ltb-true b 128 e) (λ s. rw e)
    go false e true f r g u h w k = nothing (ltb-false b 128 e) (λ s. rw (e, f))
    go false e false f true g u h w k = longer 1 128 (b - 192) (ltb-false b 128 e) (omega arith) (λ s. rw (e, f, g))
    go false e false f false g true h w k = longer 2 2048 (b - 224) (ltb-false b 128 e) (omega arith) (λ s. rw (e, f, g, h))
    go false e false f false g false h true k = longer 3 65536 (b - 240) (ltb-false b 128 e) (omega arith) (λ s. rw (e, f, g, h, k))
    go false e false f false g false h false k = nothing (ltb-false b 128 e) (λ s. rw (e, f, g, h, k))

pub first_is : (b : ℕ) (s : List ℕ) → First b s (character_of (b ∷ s))
first_is b s = go (begins b)
  where
    by-goes : (n least : ℕ) {c : Character} → 128 ≤ b → 128 ≤ least → Goes n (suc n) least s c → First b s c
    by-goes n least h l stops = bad h
    by-goes n least h l (ends {v} k m f) = high {v = v} h (omega arith) m f

    go : Begins b → First b s (character_of (b ∷ s))
    go (alone h e) = rw (e s) (low h)
    go (nothing h e) = rw (e s) (bad h)
    go (longer n least v h l e) = rw (e s) (by-goes n least h l (goes n (suc n) least v s))

first-size : {b : ℕ} {s : List ℕ} {c : Character} → First b s c → (1 ≤ size_of c) × (size_of c ≤ suc (length s))
first-size (low h) = (omega arith, omega arith)
first-size (bad h) = (omega arith, omega arith)
first-size (high h v n f) = (omega arith, omega arith)

-- it takes at least one byte, and no more than there are
pub size-within : (t : List ℕ) → 0 < length t → (1 ≤ size_of (character_of t)) × (size_of (character_of t) ≤ length t)
size-within [] h = absurd (omega arith)
size-within (b ∷ s) h = first-size (first_is b s)

-- a byte of ASCII is a character
pub first-low : (b : ℕ) (s : List ℕ) → b < 128 → character_of (b ∷ s) ≡ point b 1
unfolding character_of
first-low b s h = rw (lt-ltb b 128 h)

-- ---- the characters one after the other
from-drop : (k : ℕ) (s : List ℕ) → characters_from k s ≡ characters (drop k s)
unfolding characters_from characters
from-drop zero s = refl
from-drop (suc k) [] = refl
from-drop (suc k) (b ∷ s) = from-drop k s

pub characters-none : characters [] ≡ []
unfolding characters_from characters
characters-none = refl

-- what is left of a text after its first character
abbrev pub rest : List ℕ → List ℕ
rest t = drop (size_of (character_of t)) t

open_step : (b : ℕ) (s : List ℕ) → characters (b ∷ s) ≡ character_of (b ∷ s) ∷ characters_from (size_of (character_of (b ∷ s)) - 1) s
unfolding characters_from characters
open_step b s = refl

pub characters-step : (t : List ℕ) → 0 < length t → characters t ≡ character_of t ∷ characters (rest t)
characters-step [] h = absurd (omega arith)
characters-step (b ∷ s) h = go (size_of (character_of (b ∷ s))) refl (size-within (b ∷ s) h).0
  where
    go : (n : ℕ) → size_of (character_of (b ∷ s)) ≡ n → 1 ≤ n → characters (b ∷ s) ≡ character_of (b ∷ s) ∷ characters (drop n (b ∷ s))
    go zero e l = absurd (omega arith)
    go (suc n) e l = let m : suc n - 1 ≡ n = omega arith in open_step b s ∙ rw (e, m, from-drop n s)

-- what holds of the empty text, and of each text where it holds of what is left after its first character, holds of every text
module _ (P : List ℕ → Type 0) (none : P []) (more : (t : List ℕ) → 0 < length t → P (rest t) → P t) where
  walk_turn : (n : ℕ) (t : List ℕ) → length t ≤ suc n → (length (rest t) ≤ n → P (rest t)) → P t
  walk_turn n [] h ih = none
  walk_turn n (b ∷ s) h ih = more (b ∷ s) (omega arith) (ih (rw length-drop (omega (arith, size-within (b ∷ s) (omega arith)))))

  walk_none : (t : List ℕ) → length t ≤ 0 → P t
  walk_none [] h = none
  walk_none (b ∷ s) h = absurd (omega arith)

  walk-under : (n : ℕ) (t : List ℕ) → length t ≤ n → P t
  walk-under zero t h = walk_none t h
  walk-under (suc n) t h = walk_turn n t h (walk-under n (rest t))

  pub walk : (t : List ℕ) → P t
  walk t = walk-under (length t) t (omega arith)

-- ---- tests on each character
pub each_append : (f : Character → Bool) (cs ds : List Character) → each f (cs ++ ds) ≡ (each f cs && each f ds)
unfolding each
each_append f [] ds = refl
each_append f (c ∷ cs) ds = rw (each_append f cs ds) (sym (and_assoc (f c) (each f cs) (each f ds)))

pub utf8-none : utf8 [] ≡ true
unfolding utf8 each
utf8-none = rw characters-none

pub utf8-step : (t : List ℕ) → 0 < length t → utf8 t ≡ (whole (character_of t) && utf8 (rest t))
unfolding utf8 each
utf8-step t h = rw (characters-step t h)

-- ---- ASCII
pub characters-low : (b : ℕ) (s : List ℕ) → b < 128 → characters (b ∷ s) ≡ point b 1 ∷ characters s
characters-low b s h = let e = first-low b s h in characters-step (b ∷ s) (omega arith) ∙ rw e

pub ascii-utf8 : (t : List ℕ) → ascii t ≡ true → utf8 t ≡ true
unfolding ascii every
ascii-utf8 [] h = utf8-none
ascii-utf8 (b ∷ s) h =
    let l = ltb-true b 128 (and_left (ltb b 128) _ h) in
    let e = first-low b s l in
    utf8-step (b ∷ s) (omega arith) ∙ rw e (ascii-utf8 s (and_right (ltb b 128) _ h))

-- ---- texts that are joined
-- b is empty, or begins with a byte of ASCII
abbrev pub plain_start : List ℕ → Bool
plain_start [] = true
plain_start (x ∷ b) = ltb x 128

low-further : (x : ℕ) → ltb x 128 ≡ true → further x ≡ false
low-further x h = rw (lt-leb 128 x (ltb-true x 128 h))

goes-plain : (n size least v : ℕ) (s b : List ℕ) → plain_start b ≡ true → goes_on n size least v (s ++ b) ≡ goes_on n size least v s
unfolding goes_on
goes-plain zero size least v s b h = refl
goes-plain (suc n) size least v [] [] h = refl
goes-plain (suc n) size least v [] (x ∷ b) h = rw (low-further x h)
goes-plain (suc n) size least v (y ∷ s) b h = rw (goes-plain n size least (v * 64 + (y - 128)) s b h)

first_plain : (a b : List ℕ) → 0 < length a → plain_start b ≡ true → character_of (a ++ b) ≡ character_of a
first_plain [] b l h = absurd (omega arith)
first_plain (y ∷ s) b l h = go (begins y)
  where
    go : Begins y → character_of (y ∷ (s ++ b)) ≡ character_of (y ∷ s)
    go (alone k e) = e (s ++ b) ∙ sym (e s)
    go (nothing k e) = e (s ++ b) ∙ sym (e s)
    go (longer n least v k m e) = e (s ++ b) ∙ goes-plain n (suc n) least v s b h ∙ sym (e s)

goes-whole : (n size least v : ℕ) (s b : List ℕ) → whole (goes_on n size least v s) ≡ true → goes_on n size least v (s ++ b) ≡ goes_on n size least v s
unfolding goes_on
goes-whole zero size least v s b h = refl
goes-whole (suc n) size least v [] b h = let z : ◌≡◌ {A = ℕ} 0 1 = cc in absurd (omega arith)
goes-whole (suc n) size least v (y ∷ s) b h = go (further y) refl h (goes-whole n size least (v * 64 + (y - 128)) s b)
  where
    go : (p : Bool) → further y ≡ p → whole (cond p (goes_on n size least (v * 64 + (y - 128)) s) None) ≡ true
        → (whole (goes_on n size least (v * 64 + (y - 128)) s) ≡ true → goes_on n size least (v * 64 + (y - 128)) (s ++ b) ≡ goes_on n size least (v * 64 + (y - 128)) s)
        → cond p (goes_on n size least (v * 64 + (y - 128)) (s ++ b)) None ≡ cond p (goes_on n size least (v * 64 + (y - 128)) s) None
    go true e w ih = ih w
    go false e w ih = refl

first-whole : (a b : List ℕ) → 0 < length a → whole (character_of a) ≡ true → character_of (a ++ b) ≡ character_of a
first-whole [] b l h = absurd (omega arith)
first-whole (y ∷ s) b l h = go (begins y)
  where
    go : Begins y → character_of (y ∷ (s ++ b)) ≡ character_of (y ∷ s)
    go (alone k e) = e (s ++ b) ∙ sym (e s)
    go (nothing k e) = e (s ++ b) ∙ sym (e s)
    go (longer n least v k m e) = e (s ++ b) ∙ goes-whole n (suc n) least v s b (rw (e s) at h) ∙ sym (e s)

-- the first character is the same; so are the others
append-step : (a b : List ℕ) → 0 < length a → character_of (a ++ b) ≡ character_of a → characters (rest a ++ b) ≡ characters (rest a) ++ characters b → characters (a ++ b) ≡ characters a ++ characters b
append-step a b l e ih =
    let k : 0 < length (a ++ b) = rw length-append (omega arith) in
    characters-step (a ++ b) k ∙ rw (e, drop-append-le (size_of (character_of a)) a b (size-within a l).1, ih, characters-step a l)

-- where the first is UTF-8
pub characters-append : (a b : List ℕ) → utf8 a ≡ true → characters (a ++ b) ≡ characters a ++ characters b
characters-append a b = walk (λ a. utf8 a ≡ true → characters (a ++ b) ≡ characters a ++ characters b) (λ h. rw characters-none) more a
  where
    more : (t : List ℕ) → 0 < length t → (utf8 (rest t) ≡ true → characters (rest t ++ b) ≡ characters (rest t) ++ characters b) → utf8 t ≡ true → characters (t ++ b) ≡ characters t ++ characters b
    more t l ih h =
        let k = sym (utf8-step t l) ∙ h in
        append-step t b l (first-whole t b l (and_left (whole (character_of t)) _ k)) (ih (and_right (whole (character_of t)) _ k))

-- and where the second begins with a byte of ASCII, or is empty
pub characters-plain : (a b : List ℕ) → plain_start b ≡ true → characters (a ++ b) ≡ characters a ++ characters b
characters-plain a b h = walk (λ a. characters (a ++ b) ≡ characters a ++ characters b) (rw characters-none) (λ t l ih. append-step t b l (first_plain t b l h) ih) a

pub utf8_append : (a b : List ℕ) → utf8 a ≡ true → utf8 (a ++ b) ≡ utf8 b
unfolding utf8
utf8_append a b h = rw (characters-append a b h, each_append whole (characters a) (characters b), h)

pub utf8-plain : (a b : List ℕ) → plain_start b ≡ true → utf8 (a ++ b) ≡ (utf8 a && utf8 b)
unfolding utf8
utf8-plain a b h = rw (characters-plain a b h, each_append whole (characters a) (characters b))

-- cut at a byte of ASCII
pub utf8-at : (a : List ℕ) (x : ℕ) (b : List ℕ) → x < 128 → utf8 (a ++ (x ∷ b)) ≡ (utf8 a && utf8 b)
utf8-at a x b h = let e = first-low x b h in utf8-plain a (x ∷ b) (lt-ltb x 128 h) ∙ rw (utf8-step (x ∷ b) (omega arith), e)

-- ---- one turn of the decoder, at the place p of the text, where b stands
module _ (s : List ℕ) (k j : ℕ) (one : k ≡ suc j) (size least v p : ℕ) where
  pub turn-none : length s ≤ p → goes_on k size least v (drop p s) ≡ None
  unfolding goes_on
  turn-none h = rw (one, drop_of_length-le s h)

  module _ (l : p < length s) (b : ℕ) (e : b ≡ get_or s p 0) where
    pub turn_low : b < 128 → goes_on k size least v (drop p s) ≡ None
    unfolding goes_on
    turn_low h = rw (one, drop-cons s p 0 l, ← e, lt-leb 128 b h)

    pub turn-high : 191 < b → goes_on k size least v (drop p s) ≡ None
    unfolding goes_on
    turn-high h = rw (one, drop-cons s p 0 l, ← e, lt-leb b 191 h, and-false (leb 128 b))

    pub turn_more : (q : ℕ) → q ≡ suc p → 128 ≤ b → b ≤ 191 → goes_on k size least v (drop p s) ≡ goes_on j size least (v * 64 + (b - 128)) (drop q s)
    unfolding goes_on
    turn_more q n h m = rw (one, drop-cons s p 0 l, ← e, le-leb 128 b h, le-leb b 191 m, n)

pub turn_end : (k size least v : ℕ) (s : List ℕ) → k ≡ 0 → goes_on k size least v s ≡ cond (proper least v) (point v size) None
unfolding goes_on
turn_end k size least v s e = rw e

-- six bits more have room
pub bits-room : (i v : ℕ) → i < 3 → v < 64 ^ (i + 1) → v < 262144
bits-room i v h l = omega (arith, pow-le-pow_right {n = 64} (omega arith) {i = i + 1} {j = 3} (omega arith))

pub bits-more : (i v d : ℕ) → v < 64 ^ (i + 1) → d < 64 → v * 64 + d < 64 ^ (i + 1 + 1)
bits-more i v d l h = rw (add-one, pow-suc) (omega arith)

-- ---- the first character by its first byte b, at the place p
module _ (s : List ℕ) (p : ℕ) where
  pub first-end : length s ≤ p → character_of (drop p s) ≡ None
  unfolding character_of
  first-end h = rw (drop_of_length-le s h)

  module _ (l : p < length s) (b : ℕ) (e : b ≡ get_or s p 0) where
    first_byte : drop p s ≡ b ∷ drop (p + 1) s
    first_byte = rw (add-one, drop-cons s p 0 l, ← e)

    pub first_one : b < 128 → character_of (drop p s) ≡ point b 1
    first_one h = rw first_byte (first-low b (drop (p + 1) s) h)

    module _ (h : 128 ≤ b) where
      pub first_inner : b < 192 → character_of (drop p s) ≡ None
      unfolding character_of
      first_inner k = rw (first_byte, le-ltb b 128 h, lt-ltb b 192 k)

      pub first_two : 192 ≤ b → b < 224 → character_of (drop p s) ≡ goes_on 1 2 128 (b - 192) (drop (p + 1) s)
      unfolding character_of
      first_two m k = rw (first_byte, le-ltb b 128 h, le-ltb b 192 m, lt-ltb b 224 k)

      module _ (m : 224 ≤ b) where
        pub first_three : b < 240 → character_of (drop p s) ≡ goes_on 2 3 2048 (b - 224) (drop (p + 1) s)
        unfolding character_of
        first_three k = rw (first_byte, le-ltb b 128 h, le-ltb b 192 (omega arith), le-ltb b 224 m, lt-ltb b 240 k)

        pub first-four : 240 ≤ b → b < 248 → character_of (drop p s) ≡ goes_on 3 4 65536 (b - 240) (drop (p + 1) s)
        unfolding character_of
        first-four n k = rw (first_byte, le-ltb b 128 h, le-ltb b 192 (omega arith), le-ltb b 224 m, le-ltb b 240 n, lt-ltb b 248 k)

        pub first_never : 248 ≤ b → character_of (drop p s) ≡ None
        unfolding character_of
        first_never k = rw (first_byte, le-ltb b 128 h, le-ltb b 192 (omega arith), le-ltb b 224 m, le-ltb b 240 (omega arith), le-ltb b 248 k)

-- ---- one turn of a loop over the characters of a text s: at the place i stands c, of n bytes
pub record Turn (s : List ℕ) (i : ℕ) (c : Character) (n : ℕ) : Type 0 where
  pub char : c ≡ character_of (drop i s)
  pub size : n ≡ size_of c
  pub some : 1 ≤ n
  pub inside : i + n ≤ length s

turn-left : {s : List ℕ} {i : ℕ} {c : Character} {n : ℕ} → Turn s i c n → 0 < length (drop i s)
turn-left {s} {i} x = rw (length-drop i s) (omega arith)

pub turn : (s : List ℕ) (i : ℕ) {c : Character} {n : ℕ} → i < length s → c ≡ character_of (drop i s) → n ≡ size_of c → Turn s i c n
turn s i l e f =
    let k = length-drop i s in
    let h = rw (← e) at (size-within (drop i s) (omega arith)) in
    record { char = e; size = f; some = omega arith; inside = omega arith }

turn-rest : {s : List ℕ} {i : ℕ} {c : Character} {n : ℕ} → Turn s i c n → rest (drop i s) ≡ drop (i + n) s
turn-rest {s} {i} {c} {n} x = rw (← x.char, ← x.size) (drop-drop n i s)

pub characters-next : {s : List ℕ} {i : ℕ} {c : Character} {n : ℕ} → Turn s i c n → characters (drop i s) ≡ c ∷ characters (drop (i + n) s)
characters-next {s} {i} x = characters-step (drop i s) (turn-left x) ∙ rw (turn-rest x, ← x.char)

pub utf8-next : {s : List ℕ} {i : ℕ} {c : Character} {n : ℕ} → Turn s i c n → utf8 (drop i s) ≡ (whole c && utf8 (drop (i + n) s))
unfolding utf8 each
utf8-next x = rw (characters-next x)

pub utf8-end : (s : List ℕ) (i : ℕ) → length s ≤ i → utf8 (drop i s) ≡ true
utf8-end s i h = rw (drop_of_length-le s h) utf8-none
