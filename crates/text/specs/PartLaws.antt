-- Laws of `Part`: one turn of each loop.
-- Assumes nothing.
use Rattle.std.specs.Prelude.{◌≡◌, Bool, cond, ◌&&◌, ℕ, zero, suc, ◌+◌, ◌-◌, ◌≤◌, ◌<◌, List, [], ◌∷◌, ◌++◌, length, take, drop, get_or, eqb, ltb}
use Rattle.std.proofs.Math.Path.{refl}
use Rattle.std.proofs.Common.{sym, ap, ◌∙◌, le_refl, arith, length-drop, take-append-drop, take_all, take-take, take-add, drop-drop}
use Rattle.std.proofs.Math.Bool.{true, false, and-true, and-false, and_assoc}
use Rattle.std.proofs.Math.Numerals.{add-one}
use Rattle.std.proofs.Math.ListN.{drop_of_length-le}
use Rattle.std.proofs.Math.Seq.{drop-cons}
use Rattle.std.proofs.lemmas.Bool.{eqb-false}
use Rattle.std.specs.Bool.{MatchBool}
use Rattle.std.specs.List.{AllWithin, HoldsAt}
use Rattle.std.specs.Cmp.Lexicographic.{pointwise}
use Rattle.std.specs.Str.{IsAscii, IsNotAscii}
use borrow.Author.Tests.{eq-eqb, ne_eqb, eqb-true, lt-ltb, ltb-true}
use Rattle.text.specs.Part.{every, ascii, starts_with, same}

-- ---- both tests hold
pub and_left : (a b : Bool) → (a && b) ≡ true → a ≡ true
and_left true b h = refl
and_left false b h = h

pub and_right : (a b : Bool) → (a && b) ≡ true → b ≡ true
and_right true b h = h
and_right false b h = let z : ◌≡◌ {A = ℕ} 0 1 = cc in absurd (omega arith)

-- a test that holds of each byte holds of the one at place i
pub every-at : (f : ℕ → Bool) (s : List ℕ) (i : ℕ) → every f s ≡ true → i < length s → f (get_or s i 0) ≡ true
unfolding every
every-at f [] i h l = absurd (omega arith)
every-at f (b ∷ s) zero h l = and_left (f b) (every f s) h
every-at f (b ∷ s) (suc i) h l = every-at f s i (and_right (f b) (every f s) h) (omega arith)

-- each byte of a text passes a test that holds at each of its places
every-each : (f : ℕ → Bool) (s : List ℕ) → ((i : ℕ) → i < length s → f (get_or s i 0) ≡ true) → every f s ≡ true
unfolding every
every-each f [] h = refl
every-each f (b ∷ s) h = rw (h 0 (omega arith), every-each f s (λ i l. h (suc i) (omega arith)))

-- a test of each byte in turn, as `all` makes it
pub every-match : (f : ℕ → Bool) (r : Bool) (s : List ℕ) → MatchBool r (AllWithin (λ b. f b ≡ true) s 0 (length s)) ((k : ℕ) × (k < length s) × HoldsAt (λ b. f b ≡ false) s k) → r ≡ every f s
every-match f true s h = sym (every-each f s (λ i l. h i 0 (omega arith) l))
every-match f false s h = go (every f s) refl
  where
    go : (v : Bool) → every f s ≡ v → false ≡ v
    go false e = refl
    go true e = sym (h.2 0) ∙ every-at f s h.0 e h.1

-- a byte that is not 0 stands in the text
stands-within : (s : List ℕ) (i : ℕ) → 0 < get_or s i 0 → i < length s
stands-within [] i h = absurd (omega arith)
stands-within (b ∷ s) zero h = omega arith
stands-within (b ∷ s) (suc i) h = omega (arith, stands-within s i h)

-- a text is ASCII or not
pub ascii-match : (r : Bool) (s : List ℕ) → MatchBool r (IsAscii s) (IsNotAscii s) → r ≡ ascii s
unfolding ascii
ascii-match true s h = sym (every-each (λ b. ltb b 128) s (λ i l. lt-ltb (get_or s i 0) 128 (h i)))
ascii-match false s h = go (ascii s) refl
  where
    go : (v : Bool) → every (λ b. ltb b 128) s ≡ v → false ≡ v
    go false e = refl
    go true e = absurd (omega (arith, h.1, ltb-true (get_or s h.0 0) 128 (every-at (λ b. ltb b 128) s h.0 e (stands-within s h.0 (omega (arith, h.1))))))

pub every_append : (f : ℕ → Bool) (a b : List ℕ) → every f (a ++ b) ≡ (every f a && every f b)
unfolding every
every_append f [] b = refl
every_append f (x ∷ a) b = rw (every_append f a b) (sym (and_assoc (f x) (every f a) (every f b)))

-- ---- the part of a text from n to its end, as the code takes it
pub part-rest : (n : ℕ) (s : List ℕ) → take (length s - n) (drop n s) ≡ drop n s
part-rest n s = take_all (length s - n) (drop n s) (rw length-drop (le_refl _))

-- one turn of a loop that tests each byte
module _ (f : ℕ → Bool) (s : List ℕ) (i : ℕ) where
  pub every-none : length s ≤ i → every f (drop i s) ≡ true
  unfolding every
  every-none h = rw (drop_of_length-le s h)

  pub every-stop : i < length s → f (get_or s i 0) ≡ false → every f (drop i s) ≡ false
  unfolding every
  every-stop h e = rw (drop-cons s i 0 h, e)

  pub every_more : i < length s → f (get_or s i 0) ≡ true → every f (drop i s) ≡ every f (drop (i + 1) s)
  unfolding every
  every_more h e = rw (drop-cons s i 0 h, e, add-one)

-- a test of each byte, before place i and from it on
every_split : (f : ℕ → Bool) (s : List ℕ) (i : ℕ) → every f s ≡ (every f (take i s) && every f (drop i s))
every_split f s i = ap (every f) (sym (take-append-drop i s)) ∙ every_append f (take i s) (drop i s)

-- one turn of a loop that tests n bytes at a time, from i on
module _ (f : ℕ → Bool) (s : List ℕ) (i n : ℕ) where
  pub run_more : every f (take i s) ≡ true → every f (take n (drop i s)) ≡ true → every f (take (i + n) s) ≡ true
  run_more h k = rw (take-add i n s, every_append f (take i s) (take n (drop i s)), h, k)

  pub run-stop : every f (take n (drop i s)) ≡ false → every f s ≡ false
  run-stop h =
      let rest : every f (drop i s) ≡ false = every_split f (drop i s) n ∙ rw h in
      every_split f s i ∙ rw rest (and-false (every f (take i s)))

-- the n bytes from i on are the last of the text, and those before j passed
pub run-last : (f : ℕ → Bool) (s : List ℕ) (i n j : ℕ) → i + n ≡ length s → i ≤ j → every f (take j s) ≡ true → every f s ≡ every f (take n (drop i s))
run-last f s i n j e h k =
    let front : every f (take i s) ≡ true = rw (take-take i j s h) at (and_left (every f (take i (take j s))) _ (sym (every_split f (take j s) i) ∙ k)) in
    every_split f s i ∙ rw (front, take_all n (drop i s) (rw length-drop (omega arith)))

-- of n and m more bytes each passes where it does in both parts
pub run-two : (f : ℕ → Bool) (s : List ℕ) (i n m : ℕ) → (every f (take n (drop i s)) && every f (take m (drop (i + n) s))) ≡ every f (take (n + m) (drop i s))
run-two f s i n m = rw (take-add n m (drop i s), every_append f (take n (drop i s)) (take m (drop n (drop i s))), drop-drop)

-- a text of n to 2 n bytes is its first n and its last n
pub run-ends : (f : ℕ → Bool) (s : List ℕ) (n : ℕ) → n ≤ length s → length s ≤ n + n → (every f (take n s) && every f (take n (drop (length s - n) s))) ≡ every f s
run-ends f s n l m = go (every f (take n s)) refl
  where
    go : (v : Bool) → every f (take n s) ≡ v → (v && every f (take n (drop (length s - n) s))) ≡ every f s
    go true e = sym (run-last f s (length s - n) n n (omega arith) (omega arith) e)
    go false e = sym (run-stop f s 0 n e)

-- ---- a text that is shorter than w does not start with w
pub starts-short : (w s : List ℕ) → length s < length w → starts_with w s ≡ false
unfolding starts_with
starts-short [] s h = absurd (omega arith)
starts-short (x ∷ w) [] h = refl
starts-short (x ∷ w) (y ∷ s) h = rw (starts-short w s (omega arith)) (and-false (eqb y x))

-- a text starts with two words joined where it starts with the one, and goes on with the other
pub starts-append : (a b s : List ℕ) → starts_with (a ++ b) s ≡ (starts_with a s && starts_with b (drop (length a) s))
unfolding starts_with
starts-append [] b s = refl
starts-append (x ∷ a) b [] = refl
starts-append (x ∷ a) b (y ∷ s) = rw (starts-append a b s) (sym (and_assoc (eqb y x) (starts_with a s) _))

-- a text starts with one byte
pub starts-byte : (x : ℕ) (s : List ℕ) → 0 < length s → starts_with (x ∷ []) s ≡ eqb (get_or s 0 0) x
unfolding starts_with
starts-byte x [] h = absurd (omega arith)
starts-byte x (y ∷ s) h = and-true (eqb y x)

eqb_flip : (x y : ℕ) → eqb x y ≡ eqb y x
eqb_flip x y = go (eqb y x) refl
  where
    go : (v : Bool) → eqb y x ≡ v → eqb x y ≡ v
    go true e = eq-eqb x y (sym (eqb-true y x e))
    go false e = ne_eqb x y (λ z. eqb-false y x e (sym z))

-- it does where it starts with so many bytes, the same one by one
pub starts-pointwise : (w s : List ℕ) → pointwise eqb w (take (length w) s) ≡ starts_with w s
unfolding starts_with
starts-pointwise [] s = refl
starts-pointwise (x ∷ w) [] = refl
starts-pointwise (x ∷ w) (y ∷ s) = rw (eqb_flip x y, starts-pointwise w s)

-- ---- two texts of one length from i on, where d is 0 unless they differed before
module _ (a b : List ℕ) (i d : ℕ) where
  pub same_none : length a ≤ i → length b ≤ i → (eqb d 0 && same (drop i a) (drop i b)) ≡ eqb d 0
  unfolding same
  same_none h k = rw (drop_of_length-le a h, drop_of_length-le b k) (and-true (eqb d 0))

  pub same_more : i < length a → i < length b → (eqb d 0 && same (drop i a) (drop i b)) ≡ (eqb (cond (eqb (get_or a i 0) (get_or b i 0)) d 1) 0 && same (drop (i + 1) a) (drop (i + 1) b))
  unfolding same
  same_more h k = rw (drop-cons a i 0 h, drop-cons b i 0 k, add-one) (go (eqb (get_or a i 0) (get_or b i 0)) (same (drop (suc i) a) (drop (suc i) b)))
    where
      go : (v w : Bool) → (eqb d 0 && (v && w)) ≡ (eqb (cond v d 1) 0 && w)
      go true w = refl
      go false w = and-false (eqb d 0)

pub same-is : (a b : List ℕ) → same a b ≡ true → a ≡ b
unfolding same
same-is [] [] h = refl
same-is [] (y ∷ b) h = let z : ◌≡◌ {A = ℕ} 0 1 = cc in absurd (omega arith)
same-is (x ∷ a) [] h = let z : ◌≡◌ {A = ℕ} 0 1 = cc in absurd (omega arith)
same-is (x ∷ a) (y ∷ b) h = go (eqb x y) refl (same a b) refl h (same-is a b)
  where
    go : (v : Bool) → eqb x y ≡ v → (w : Bool) → same a b ≡ w → (v && w) ≡ true → (same a b ≡ true → a ≡ b) → x ∷ a ≡ y ∷ b
    go true e true f g ih = rw (eqb-true x y e, ih f)
    go true e false f g ih = let z : ◌≡◌ {A = ℕ} 0 1 = cc in absurd (omega arith)
    go false e w f g ih = let z : ◌≡◌ {A = ℕ} 0 1 = cc in absurd (omega arith)

pub same_refl : (a : List ℕ) → same a a ≡ true
unfolding same
same_refl [] = refl
same_refl (x ∷ a) = rw (eq-eqb x x refl) (same_refl a)

pub same_not : (a b : List ℕ) → (a ≡ b → ⊥) → same a b ≡ false
same_not a b h = go (same a b) refl
  where
    go : (v : Bool) → same a b ≡ v → v ≡ false
    go true e = absurd (h (same-is a b e))
    go false e = refl
