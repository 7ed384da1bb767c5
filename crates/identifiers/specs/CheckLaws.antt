-- Laws of `Check`: what an accepted identifier has, the checks as the Rust composes them, and the steps of the code.
-- Assumes nothing.
use Rattle.std.proofs.Math.Path.{◌≡◌, refl}
use Rattle.std.proofs.Common.{sym, ◌∙◌, add-zero, add-one, length-drop, take-suc, get_or-drop}
use Rattle.std.specs.Prelude.{Bool, cond, ◌&&◌, ◌||◌, List, [], ◌∷◌, ◌++◌, eqb, ltb, leb, take, drop, get_or}
use Rattle.std.proofs.Math.Bool.{true, false, and-false}
use Prim.Native.Nat.{ℕ, max, ◌+◌, ◌≤◌, ◌<◌}
use native.Mathlib.Omega.{arith}
use Rattle.std.proofs.Math.ListN.{length, drop_of_length-le}
use borrow.Author.Tests.{lt-ltb, le-ltb, le-leb, lt-leb, eq-eqb, ne_eqb, eqb-true, eqb-false, ltb-true, leb-true}
use Rattle.text.specs.Bytes.{bytes}
use Rattle.text.specs.Fault.{numeral_fault}
use Rattle.text.specs.Number.{numeral_of}
use Rattle.text.specs.Part.{every, ascii, starts_with}
use Rattle.text.specs.PartLaws.{and_left, and_right, every-at, every_append, starts-append, starts-byte}
use Rattle.identifiers.specs.Check.{first, unless, among, identifier_byte, chars_of, within, index_of, named_of, length_of, prefix_length_of, named_index_of, Form, plain, indexed, Rule, client, client_type, form_of, check_of, general_form, general_of}

-- ---- of two checks, and of a test
pub first-zero : (a b : ℕ) → first a b ≡ 0 → (a ≡ 0) × (b ≡ 0)
first-zero a b h = go (eqb a 0) refl h
  where
    go : (t : Bool) → eqb a 0 ≡ t → cond t b a ≡ 0 → (a ≡ 0) × (b ≡ 0)
    go true e k = (eqb-true a 0 e, k)
    go false e k = absurd (eqb-false a 0 e k)

-- the first refuses, and the first accepts
pub first_some : (a b : ℕ) → (a ≡ 0 → ⊥) → first a b ≡ a
first_some a b h = rw (ne_eqb a 0 h)

pub first-none : (a b : ℕ) → a ≡ 0 → first a b ≡ b
first-none a b h = rw (eq-eqb a 0 h)

pub unless-zero : (n : ℕ) (t : Bool) → 0 < n → unless n t ≡ 0 → t ≡ true
unless-zero n true p h = refl
unless-zero n false p h = absurd (omega arith)

-- ---- a byte
either : (a b : Bool) {P : Type 0} → (a || b) ≡ true → (a ≡ true → P) → (b ≡ true → P) → P
either true b h f g = f refl
either false b h f g = g h

among-every : (f : ℕ → Bool) (b : ℕ) (xs : List ℕ) → every f xs ≡ true → among b xs ≡ true → f b ≡ true
unfolding every among
among-every f b [] h k = let z : ◌≡◌ {A = ℕ} 0 1 = cc in absurd (omega arith)
among-every f b (x ∷ xs) h k =
    either (eqb b x) (among b xs) k
    (λ e. rw (eqb-true b x e) (and_left (f x) (every f xs) h))
    (λ e. among-every f b xs (and_right (f x) (every f xs) h) e)

-- an identifier byte is ASCII
identifier-low : (b : ℕ) → identifier_byte b ≡ true → b < 128
unfolding identifier_byte every
identifier-low b h =
    either _ _ h
    (λ e. omega (arith, leb-true b 90 (and_right (leb 65 b) _ e)))
    (λ h'. either _ _ h'
    (λ e. omega (arith, leb-true b 122 (and_right (leb 97 b) _ e)))
    (λ h''. either _ _ h''
    (λ e. omega (arith, leb-true b 57 (and_right (leb 48 b) _ e)))
    (λ e. ltb-true b 128 (among-every (λ x. ltb x 128) b (bytes "._+-#[]<>") refl e))))

low-bytes : (s : List ℕ) → every identifier_byte s ≡ true → ascii s ≡ true
unfolding ascii every
low-bytes [] h = refl
low-bytes (b ∷ s) h = rw (lt-ltb b 128 (identifier-low b (and_left (identifier_byte b) _ h))) (low-bytes s (and_right (identifier_byte b) _ h))

-- the first i bytes pass, and so does the one behind them
pub run-one : (f : ℕ → Bool) (s : List ℕ) (i : ℕ) → i < length s → every f (take i s) ≡ true → f (get_or s i 0) ≡ true → every f (take (i + 1) s) ≡ true
unfolding every
run-one f s i h k e = rw (add-one, take-suc s i 0 h, every_append f (take i s) (get_or s i 0 ∷ []), k, e)

-- ---- the bytes of a text
module _ (s : List ℕ) where
  pub bytes_chars : every identifier_byte s ≡ true → chars_of s ≡ 0
  unfolding chars_of
  bytes_chars h = rw (low-bytes s h, h)

  pub chars-other : every identifier_byte s ≡ false → ascii s ≡ true → chars_of s ≡ 5
  unfolding chars_of
  chars-other h low = rw (low, h)

  pub chars-high : ascii s ≡ false → chars_of s ≡ 2
  unfolding chars_of
  chars-high high = rw high

  -- what a text has that passes it
  module _ (ok : chars_of s ≡ 0) where
    tests : (unless 2 (ascii s) ≡ 0) × (unless 5 (every identifier_byte s) ≡ 0)
    unfolding chars_of
    tests = first-zero _ _ ok

    pub chars_ascii : ascii s ≡ true
    chars_ascii = unless-zero 2 _ (omega arith) tests.0

    pub chars-bytes : every identifier_byte s ≡ true
    chars-bytes = unless-zero 5 _ (omega arith) tests.1

-- ---- a number of bytes against two limits
module _ (least most n : ℕ) where
  pub within-less : n < least → within least most n ≡ 6
  unfolding within
  within-less h = rw (lt-leb least n h)

  pub within_more : least ≤ n → most < n → within least most n ≡ 6
  unfolding within
  within_more h k = rw (le-leb least n h, lt-leb n most k)

  pub within_both : least ≤ n → n ≤ most → within least most n ≡ 0
  unfolding within
  within_both h k = rw (le-leb least n h, le-leb n most k)

-- ---- an index
module _ (s : List ℕ) where
  -- a leading zero
  pub index-zero : 1 < length s → get_or s 0 0 ≡ 48 → index_of s ≡ 7
  unfolding index_of
  index-zero h e = let p : 0 < length s = omega arith in rw (starts-byte 48 s p, eq-eqb (get_or s 0 0) 48 e, lt-ltb 1 (length s) h)

  -- else the number decides
  index_number : (starts_with (bytes "0") s && ltb 1 (length s)) ≡ false → index_of s ≡ numeral_fault (numeral_of s)
  unfolding index_of
  index_number h = rw h

  pub index_short : length s ≤ 1 → index_of s ≡ numeral_fault (numeral_of s)
  index_short h = index_number (rw (le-ltb 1 (length s) h) (and-false (starts_with (bytes "0") s)))

  pub index-other : 0 < length s → (get_or s 0 0 ≡ 48 → ⊥) → index_of s ≡ numeral_fault (numeral_of s)
  index-other h e = index_number (rw (starts-byte 48 s h, ne_eqb (get_or s 0 0) 48 e))

-- ---- a name and an index
module _ (name s : List ℕ) where
  -- the text does not start with the name
  pub named_other : starts_with name s ≡ false → named_of name s ≡ 7
  unfolding named_of
  named_other h = rw (starts-append name (bytes "-") s, h)

  module _ (h : starts_with name s ≡ true) where
    -- it is the name
    pub named-ends : length s ≤ length name → named_of name s ≡ 7
    unfolding named_of starts_with
    named-ends k = rw (starts-append name (bytes "-") s, h, drop_of_length-le s k)

    module _ (l : length name < length s) where
      after : starts_with (name ++ bytes "-") s ≡ eqb (get_or s (length name) 0) 45
      after = rw (starts-append name (bytes "-") s, h, starts-byte 45 (drop (length name) s) (rw length-drop (omega arith)), get_or-drop, add-zero)

      -- it goes on with another byte
      pub named-joined : (get_or s (length name) 0 ≡ 45 → ⊥) → named_of name s ≡ 7
      unfolding named_of
      named-joined e = rw (after, ne_eqb (get_or s (length name) 0) 45 e)

      pub named-index : get_or s (length name) 0 ≡ 45 → named_of name s ≡ index_of (drop (length name + 1) s)
      unfolding named_of
      named-index e = rw (after, eq-eqb (get_or s (length name) 0) 45 e)

-- ---- the check of a form stands last
pub first-last : (a : ℕ) → first a 0 ≡ a
first-last a = go (eqb a 0) refl
  where
    go : (t : Bool) → eqb a 0 ≡ t → cond t 0 a ≡ a
    go true e = sym (eqb-true a 0 e)
    go false e = refl

pub first-first : (a b d : ℕ) → first a (first b d) ≡ first (first a b) d
first-first a b d = go (eqb a 0) refl
  where
    go : (t : Bool) → eqb a 0 ≡ t → cond t (first b d) a ≡ first (cond t b a) d
    go true e = refl
    go false e = rw e

module _ (least most : ℕ) (s : List ℕ) where
  pub check-plain : check_of (record { least = least; most = most; form = plain }) s ≡ first (chars_of s) (within least most (length s))
  unfolding check_of
  check-plain = rw (first-last (within least most (length s)))

  pub check-form : (f : Form) → check_of (record { least = least; most = most; form = f }) s ≡ first (check_of (record { least = least; most = most; form = plain }) s) (form_of f s)
  unfolding check_of
  check-form f = rw (first-last (within least most (length s))) (first-first (chars_of s) (within least most (length s)) (form_of f s))

-- ---- what an accepted identifier has
module _ (r : Rule) (s : List ℕ) (ok : check_of r s ≡ 0) where
  parts : (chars_of s ≡ 0) × (first (within r.least r.most (length s)) (form_of r.form s) ≡ 0)
  unfolding check_of
  parts = first-zero (chars_of s) _ ok

  pub accepted-ascii : ascii s ≡ true
  accepted-ascii = chars_ascii s parts.0

  pub accepted-bytes : every identifier_byte s ≡ true
  accepted-bytes = chars-bytes s parts.0

  -- a `/` is none of these bytes
  pub accepted-no_slash : (i : ℕ) → i < length s → get_or s i 0 ≡ 47 → ⊥
  unfolding identifier_byte among
  accepted-no_slash i h e = let k : false ≡ true = rw e at (every-at identifier_byte s i accepted-bytes h) in let z : ◌≡◌ {A = ℕ} 0 1 = cc in omega arith

  pub accepted-length : (r.least ≤ length s) × (length s ≤ r.most)
  unfolding within
  accepted-length =
      let k = unless-zero 6 _ (omega arith) (first-zero _ _ parts.1).0 in
      (leb-true _ _ (and_left _ _ k), leb-true _ _ (and_right (leb r.least (length s)) _ k))

  pub accepted-form : form_of r.form s ≡ 0
  accepted-form = (first-zero (within r.least r.most (length s)) _ parts.1).1

-- and a text that has all of this is accepted
pub accepted-by : (r : Rule) (s : List ℕ) → every identifier_byte s ≡ true → r.least ≤ length s → length s ≤ r.most → form_of r.form s ≡ 0 → check_of r s ≡ 0
unfolding check_of
accepted-by r s b l m f = rw (bytes_chars s b, within_both r.least r.most (length s) l m) f

-- ---- the checks as the Rust composes them
-- what that takes of a rule: no identifier is empty, and its name is ASCII
abbrev pub Named : Form → Type 0
Named plain = Unit {0}
Named (indexed name) = ascii name ≡ true

module _ (s : List ℕ) (low : ascii s ≡ true) where
  length_general : (least most : ℕ) → 1 ≤ least → length_of s least most ≡ within least most (length s)
  unfolding length_of
  length_general least most h = let e : max least 1 ≡ least = omega arith in rw (low, e)

  form_general : (f : Form) → Named f → general_form f s ≡ form_of f s
  unfolding named_index_of
  form_general plain h = refl
  form_general (indexed name) h = rw (low, h)

pub check_general : (r : Rule) (s : List ℕ) → 1 ≤ r.least → Named r.form → check_of r s ≡ general_of r s
unfolding check_of
check_general r s h k = go (eqb (chars_of s) 0) refl
  where
    go : (t : Bool) → eqb (chars_of s) 0 ≡ t → cond t (first (within r.least r.most (length s)) (form_of r.form s)) (chars_of s) ≡ cond t (first (length_of s r.least r.most) (general_form r.form s)) (chars_of s)
    go true e =
        let low = chars_ascii s (eqb-true _ _ e) in
        rw (length_general s low r.least r.most h, form_general s low r.form k)
    go false e = refl

-- the Rust asks of a client type what it asks of the prefix of a client identifier
pub client_type_general : (s : List ℕ) → check_of client_type s ≡ first (chars_of s) (prefix_length_of s client.least client.most)
unfolding prefix_length_of
client_type_general s = check_general client_type s (omega arith) tt ∙ rw (first-last (length_of s 7 43))
