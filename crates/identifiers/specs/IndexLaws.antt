-- A text that is a name and an index has only identifier bytes.
-- Assumes nothing.
use Rattle.std.specs.Prelude.{ℕ, ◌+◌, ◌^◌, Bool, cond, not, ◌&&◌, ◌||◌, ltb, leb, length, drop, Ok, Err}
use Rattle.std.proofs.Math.Path.{◌≡◌, refl}
use Rattle.std.proofs.Math.Bool.{true, false}
use mathlib.Core.List.{List, [], ◌∷◌, ◌++◌}
use Rattle.std.proofs.Common.{arith, length-append, eqb-true}
use Rattle.std.proofs.Math.Dec.{eqb}
use Rattle.text.specs.Bytes.{bytes}
use Rattle.text.specs.Fault.{numeral_fault}
use Rattle.text.specs.Number.{Numeral, is_digit, with_digit, digits_from, digits_at, numeral_of}
use Rattle.text.specs.Part.{every, starts_with}
use Rattle.text.specs.PartLaws.{and_left, and_right, every_append}
use Rattle.text.specs.declared.NumberFault.TheVariants.{NoDigits, NotADigit, TooLarge}
use Rattle.identifiers.specs.Check.{unless, among, identifier_byte, is_value, within, index_of, named_of, indexed, check_of}
use Rattle.identifiers.specs.CheckLaws.{first-zero, first-last, unless-zero, bytes_chars}

-- ---- what holds of `+` and of each digit holds of each byte of a number text
module _ (f : ℕ → Bool) (digit : (b : ℕ) → is_digit b ≡ true → f b ≡ true) (plus : f 43 ≡ true) where
  digits-all : (v i : ℕ) (s : List ℕ) → is_value (digits_from v i s) ≡ true → every f s ≡ true
  unfolding digits_from every
  digits-all v i [] h = refl
  digits-all v i (b ∷ s) h = go (is_digit b) refl (ltb (with_digit v b) (2 ^ 64)) h (digits-all (with_digit v b) (i + 1) s)
    where
      go : (d : Bool) → is_digit b ≡ d → (l : Bool) → is_value (cond d (cond l (digits_from (with_digit v b) (i + 1) s) (Err (TooLarge i))) (Err (NotADigit i))) ≡ true
          → (is_value (digits_from (with_digit v b) (i + 1) s) ≡ true → every f s ≡ true) → (f b && every f s) ≡ true
      go true e true k ih = rw (digit b e) (ih k)
      go true e false k ih = let z : ◌≡◌ {A = ℕ} 0 1 = cc in absurd (omega arith)
      go false e l k ih = let z : ◌≡◌ {A = ℕ} 0 1 = cc in absurd (omega arith)

  some-all : (i : ℕ) (s : List ℕ) → is_value (digits_at i s) ≡ true → every f s ≡ true
  unfolding digits_at every
  some-all i [] h = refl
  some-all i (b ∷ s) h = digits-all 0 i (b ∷ s) h

  number-all : (c : List ℕ) → is_value (numeral_of c) ≡ true → every f c ≡ true
  unfolding numeral_of every
  number-all [] h = refl
  number-all (b ∷ s) h = go (eqb b 43) refl h
    where
      go : (v : Bool) → eqb b 43 ≡ v → is_value (cond v (digits_at 1 s) (digits_at 0 (b ∷ s))) ≡ true → (f b && every f s) ≡ true
      go true e k = rw (eqb-true b 43 e, plus) (some-all 1 s k)
      go false e k = some-all 0 (b ∷ s) k

starts-all : (f : ℕ → Bool) (w s : List ℕ) → starts_with w s ≡ true → every f w ≡ true → every f (drop (length w) s) ≡ true → every f s ≡ true
unfolding starts_with every
starts-all f [] s h a r = r
starts-all f (x ∷ w) [] h a r = refl
starts-all f (x ∷ w) (y ∷ s) h a r =
    rw (eqb-true y x (and_left _ _ h), and_left (f x) _ a) (starts-all f w s (and_right (eqb y x) _ h) (and_right (f x) _ a) r)

or_right : (a : Bool) → (a || true) ≡ true
or_right true = refl
or_right false = refl

digit-byte : (b : ℕ) → is_digit b ≡ true → identifier_byte b ≡ true
unfolding identifier_byte
digit-byte b h = rw h (go (leb 65 b && leb b 90) (leb 97 b && leb b 122))
  where
    go : (p q : Bool) → (p || (q || true)) ≡ true
    go true q = refl
    go false q = or_right q

plus-byte : identifier_byte 43 ≡ true
unfolding identifier_byte among
plus-byte = refl

dash-byte : every identifier_byte (bytes "-") ≡ true
unfolding identifier_byte among every
dash-byte = refl

value-is : (x : Numeral) → numeral_fault x ≡ 0 → is_value x ≡ true
value-is (Ok n) h = refl
value-is (Err (NoDigits i)) h = absurd (omega arith)
value-is (Err (NotADigit i)) h = absurd (omega arith)
value-is (Err (TooLarge i)) h = absurd (omega arith)

index-value : (t : List ℕ) → index_of t ≡ 0 → is_value (numeral_of t) ≡ true
unfolding index_of
index-value t h = value-is (numeral_of t) (first-zero (unless 7 (not (starts_with (bytes "0") t && ltb 1 (length t)))) _ h).1

module _ (name s : List ℕ) (ok : every identifier_byte name ≡ true) (is : named_of name s ≡ 0) where
  tests : (unless 7 (starts_with (name ++ bytes "-") s) ≡ 0) × (index_of (drop (length name + 1) s) ≡ 0)
  unfolding named_of
  tests = first-zero _ _ is

  index : every identifier_byte (drop (length name + 1) s) ≡ true
  index = number-all identifier_byte digit-byte plus-byte (drop (length name + 1) s) (index-value (drop (length name + 1) s) tests.1)

  named-bytes : every identifier_byte s ≡ true
  named-bytes =
      starts-all identifier_byte (name ++ bytes "-") s (unless-zero 7 _ (omega arith) tests.0) (rw (every_append identifier_byte name (bytes "-"), ok) dash-byte) (rw length-append index)

  -- only the length is left
  pub named-check : (least most : ℕ) → check_of (record { least = least; most = most; form = indexed name }) s ≡ within least most (length s)
  unfolding check_of
  named-check least most = rw (bytes_chars s named-bytes, is) (first-last (within least most (length s)))

-- the names of the two identifiers
pub connection-name : every identifier_byte (bytes "connection") ≡ true
unfolding identifier_byte among every
connection-name = refl

pub channel-name : every identifier_byte (bytes "channel") ≡ true
unfolding identifier_byte among every
channel-name = refl
