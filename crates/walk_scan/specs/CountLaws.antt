-- The digits loop, and the answers of the number reader.
-- Assumes nothing.
use Prim.Native.Nat.{ℕ, zero, suc, ◌+◌, ◌-◌, ◌/◌, ◌^◌, ◌≤◌, ◌<◌}
use Rattle.std.specs.Prelude.{◌≡◌, ◌⊎◌, Bool, not, ltb, leb, drop, get_or, Option, Some, None, Ok, Err}
use Rattle.std.proofs.Math.Path.{refl, sym, ap}
use Rattle.std.proofs.Common.{◌∙◌, inl, inr, arith, add-zero, add-one, length-take, length-drop, drop_of_length-le, get_or-drop, drop-cons}
use mathlib.Core.List.{List, [], ◌∷◌}
use Rattle.std.proofs.Math.Bool.{true, false, cond, and-true}
use Rattle.std.proofs.Math.Dec.{eqb}
use Rattle.std.proofs.Math.ListN.{length, take}
use borrow.Author.Tests.{lt-ltb, le-ltb, ne_eqb, eq-eqb, eqb-true, eqb-false, leb-true}
use Rattle.text.specs.Number.{Numeral, is_digit, with_digit, digits_from, digits_at, numeral_of, width, decimal}
use Rattle.text.specs.NumberLaws.{decimal-no-longer, decimal-each, decimal-first, decimal_small, length-decimal, length-decimal-some, width_small, width-more}
use Rattle.text.specs.Part.{starts_with}
use Rattle.text.specs.PartLaws.{and_left, and_right, starts-byte}
use Rattle.text.specs.declared.NumberFault.TheVariants.{NotADigit, TooLarge}
use Rattle.identifiers.specs.Check.{is_value}
use Rattle.path.specs.Kinds.{count}
use Rattle.path.specs.Read.{value_of, is_number, number_in}
use Rattle.path.specs.Spelled.{spelled}
use Rattle.walk_scan.specs.declared.number.Figures.{Figures}
use Rattle.walk_scan.specs.declared.number.Counted.{Counted}
use Rattle.walk_scan.specs.Run.{run}
use Rattle.walk_scan.specs.RunLaws.{run-within}
use Rattle.walk_scan.specs.Number.{figures, sign, num_len, num_text, counted_of, plain_of}
use Rattle.walk_scan.specs.WordLaws.{starts_split}
use Rattle.walk_scan.specs.NumberLaws.{value-cond, no_value, num-within}

-- ---- one turn of the loop
module _ (s : List ℕ) (v i : ℕ) where
  pub figures-end : length s ≡ i → figures v i (drop i s) ≡ Some (record { value = v; end = length s })
  unfolding figures
  figures-end h = let l : length s ≤ i = omega arith in rw (drop_of_length-le s l, h)

  pub figures-stop : i < length s → is_digit (get_or s i 0) ≡ false → figures v i (drop i s) ≡ Some (record { value = v; end = i })
  unfolding figures
  figures-stop h e = rw (drop-cons s i 0 h, e)

  module _ (h : i < length s) (e : is_digit (get_or s i 0) ≡ true) where
    pub figures-over : 2 ^ 64 ≤ with_digit v (get_or s i 0) → figures v i (drop i s) ≡ None
    unfolding figures
    figures-over l = rw (drop-cons s i 0 h, e, le-ltb (with_digit v (get_or s i 0)) (2 ^ 64) l)

    pub figures-more : with_digit v (get_or s i 0) < 2 ^ 64 → figures v i (drop i s) ≡ figures (with_digit v (get_or s i 0)) (i + 1) (drop (i + 1) s)
    unfolding figures
    figures-more l = rw (drop-cons s i 0 h, e, lt-ltb (with_digit v (get_or s i 0)) (2 ^ 64) l, add-one)

pub digit-is : (b : ℕ) → is_digit b ≡ true → (48 ≤ b) × (b ≤ 57)
digit-is b h = (leb-true 48 b (and_left (leb 48 b) (leb b 57) h), leb-true b 57 (and_right (leb 48 b) (leb b 57) h))

-- ---- the digits that the loop takes are those that a number text has
some-one : {A : Type 0} (a b : A) → Some a ≡ Some b → a ≡ b
some-one a b h = cc

some-none : {A P : Type 0} (a : A) → Some a ≡ None → P
some-none a h = absurd cc

figures_yes : (v i j : ℕ) (s : List ℕ) (f : Figures) → figures v i s ≡ Some f → (f.end ≡ i + run is_digit s) × (digits_from v j (take (run is_digit s) s) ≡ Ok f.value)
unfolding figures run digits_from
figures_yes v i j [] f h = let e = some-one _ f h in (sym (ap (λ (g : Figures). g.end) e) ∙ sym (add-zero i), ap (λ (g : Figures). Ok g.value) e)
figures_yes v i j (b ∷ s) f h = go (is_digit b) refl (ltb (with_digit v b) (2 ^ 64)) refl h (λ k. figures_yes (with_digit v b) (i + 1) (j + 1) s f k)
  where
    go : (d : Bool) → is_digit b ≡ d → (l : Bool) → ltb (with_digit v b) (2 ^ 64) ≡ l → cond d (cond l (figures (with_digit v b) (i + 1) s) None) (Some (record { value = v; end = i })) ≡ Some f
        → (figures (with_digit v b) (i + 1) s ≡ Some f → (f.end ≡ i + 1 + run is_digit s) × (digits_from (with_digit v b) (j + 1) (take (run is_digit s) s) ≡ Ok f.value))
        → (f.end ≡ i + cond d (suc (run is_digit s)) 0) × (digits_from v j (take (cond d (suc (run is_digit s)) 0) (b ∷ s)) ≡ Ok f.value)
    go true d true l k ih = let r = ih k in (omega (arith, r.0), rw (d, l) r.1)
    go true d false l k ih = some-none f (sym k)
    go false d l m k ih = let e = some-one _ f k in (sym (ap (λ (g : Figures). g.end) e) ∙ sym (add-zero i), ap (λ (g : Figures). Ok g.value) e)

figures-no : (v i j : ℕ) (s : List ℕ) → figures v i s ≡ None → is_value (digits_from v j (take (run is_digit s) s)) ≡ false
unfolding figures run digits_from
figures-no v i j [] h = some-none _ h
figures-no v i j (b ∷ s) h = go (is_digit b) refl (ltb (with_digit v b) (2 ^ 64)) refl h (λ k. figures-no (with_digit v b) (i + 1) (j + 1) s k)
  where
    go : (d : Bool) → is_digit b ≡ d → (l : Bool) → ltb (with_digit v b) (2 ^ 64) ≡ l → cond d (cond l (figures (with_digit v b) (i + 1) s) None) (Some (record { value = v; end = i })) ≡ None
        → (figures (with_digit v b) (i + 1) s ≡ None → is_value (digits_from (with_digit v b) (j + 1) (take (run is_digit s) s)) ≡ false)
        → is_value (digits_from v j (take (cond d (suc (run is_digit s)) 0) (b ∷ s))) ≡ false
    go true d true l k ih = rw (d, l) (ih k)
    go true d false l k ih = rw (d, l)
    go false d l m k ih = some-none _ k

-- ---- a number without a sign is spelled as it is rendered where it has one digit, or no leading zero
-- each digit after a value makes it one digit wider
wider : (s : List ℕ) (v i n : ℕ) → 0 < v → digits_from v i s ≡ Ok n → width v + length s ≡ width n
unfolding digits_from
wider [] v i n h e = let z : v ≡ n = cc in rw z (omega arith)
wider (b ∷ s) v i n h e =
    let d = value-cond (is_digit b) _ (Err (NotADigit i)) (λ x. no_value x) (ap is_value e) in
    let l = value-cond (ltb (with_digit v b) (2 ^ 64)) _ (Err (TooLarge i)) (λ x. no_value x) d.1 in
    let k = digit-is b d.0 in
    let tens : with_digit v b / 10 ≡ v = omega (arith, k.0, k.1) in
    let more = rw tens at (width-more (with_digit v b) (omega arith)) in
    let rest : digits_from (with_digit v b) (i + 1) s ≡ Ok n = rw (d.0, l.0) at e in
    omega (arith, more, wider s (with_digit v b) (i + 1) n (omega arith) rest)

abbrev loose : List ℕ → ℕ → Type 0
loose c n = length (decimal n) ≡ length c → ⊥

module _ (b : ℕ) (s : List ℕ) (n : ℕ) (is : numeral_of (b ∷ s) ≡ Ok n) where
  as_long : length (decimal n) ≡ length (b ∷ s) → decimal n ≡ b ∷ s
  as_long e = (decimal-no-longer (b ∷ s) n is).1 e

  plus-loose : b ≡ 43 → loose (b ∷ s) n
  plus-loose h e =
      let d = decimal-each n 0 (omega (arith, length-decimal-some n)) in
      let f : get_or (decimal n) 0 0 ≡ b = ap (λ (l : List ℕ). get_or l 0 0) (as_long e) in
      omega (arith, d.0)

  zero-loose : b ≡ 48 → 0 < length s → loose (b ∷ s) n
  zero-loose h l e =
      let f : get_or (decimal n) 0 0 ≡ b = ap (λ (x : List ℕ). get_or x 0 0) (as_long e) in
      let z : n ≡ 0 = zero_is (λ k. omega (arith, decimal-first n k)) in
      let small = ap length (decimal_small n (omega arith)) in
      omega (arith, small)
    where
      zero_is : (0 < n → ⊥) → n ≡ 0
      zero_is k = omega (arith, k)

  plain-long : (b ≡ 43 → ⊥) → (length s ≡ 0) ⊎ (b ≡ 48 → ⊥) → length (decimal n) ≡ suc (length s)
  unfolding numeral_of digits_at digits_from
  plain-long h z =
      let e : digits_from 0 0 (b ∷ s) ≡ Ok n = rw (ne_eqb b 43 h) at is in
      let d = value-cond (is_digit b) _ (Err (NotADigit 0)) (λ x. no_value x) (ap is_value e) in
      let l = value-cond (ltb (with_digit 0 b) (2 ^ 64)) _ (Err (TooLarge 0)) (λ x. no_value x) d.1 in
      let k = digit-is b d.0 in
      let rest : digits_from (with_digit 0 b) (0 + 1) s ≡ Ok n = rw (d.0, l.0) at e in
      go z rest k
    where
      go : (length s ≡ 0) ⊎ (b ≡ 48 → ⊥) → digits_from (with_digit 0 b) (0 + 1) s ≡ Ok n → (48 ≤ b) × (b ≤ 57) → length (decimal n) ≡ suc (length s)
      go (inl a) r k = omega (arith, (decimal-no-longer (b ∷ s) n is).0, length-decimal-some n)
      go (inr a) r k = let w = wider s (with_digit 0 b) (0 + 1) n (omega (arith, k.0, a)) r in omega (arith, w, width_small (with_digit 0 b) (omega (arith, k.1)), length-decimal n)

  pub spelled-plain : (b ≡ 43 → ⊥) → eqb (length (decimal n)) (suc (length s)) ≡ plain_of (suc (length s)) b
  unfolding plain_of
  spelled-plain h = go (eqb (suc (length s)) 1) refl (eqb b 48) refl
    where
      go : (x : Bool) → eqb (suc (length s)) 1 ≡ x → (y : Bool) → eqb b 48 ≡ y → eqb (length (decimal n)) (suc (length s)) ≡ cond x true (not y)
      go true e y f = eq-eqb _ _ (plain-long h (inl (omega (arith, eqb-true (suc (length s)) 1 e))))
      go false e true f = ne_eqb _ _ (zero-loose (eqb-true b 48 f) (omega (arith, eqb-false (suc (length s)) 1 e)))
      go false e false f = eq-eqb _ _ (plain-long h (inr (eqb-false b 48 f)))

-- ---- the answers of the code
value_of_lem : (x : Numeral) (n : ℕ) → x ≡ Ok n → (is_value x ≡ true) × (value_of x ≡ n)
value_of_lem x n e = rw e (refl, refl)

-- a number text of c, whose length the walk knows
counted-some : (at : ℕ) (x c : List ℕ) (n m : ℕ) → num_len x ≡ m → take m x ≡ c → length c ≡ m → numeral_of c ≡ Ok n
    → counted_of at x ≡ Some (record { value = n; end = at + m; plain = eqb (length (decimal n)) (length c) })
unfolding counted_of
counted-some at x c n m e t l v = let k = value_of_lem (numeral_of c) n v in rw (e, t, k.0, k.1)

counted_none : (at : ℕ) (x c : List ℕ) (m : ℕ) → num_len x ≡ m → take m x ≡ c → is_value (numeral_of c) ≡ false → counted_of at x ≡ None
unfolding counted_of
counted_none at x c m e t v = rw (e, t, v)

-- without a sign
module _ (at : ℕ) (x : List ℕ) (free : starts_with (43 ∷ []) x ≡ false) where
  free-length : num_len x ≡ run is_digit x
  unfolding num_len sign
  free-length = rw free (omega arith)

  free_numeral : (m : ℕ) → 0 < length (take m x) → numeral_of (take m x) ≡ digits_from 0 0 (take m x)
  unfolding numeral_of digits_at starts_with
  free_numeral m l = go m x free l
    where
      go : (k : ℕ) (y : List ℕ) → starts_with (43 ∷ []) y ≡ false → 0 < length (take k y) → numeral_of (take k y) ≡ digits_from 0 0 (take k y)
      go zero y f h = absurd (omega arith)
      go (suc k) [] f h = absurd (omega arith)
      go (suc k) (b ∷ y) f h = let e : eqb b 43 ≡ false = sym (and-true (eqb b 43)) ∙ f in rw e

  run_long : length (take (run is_digit x) x) ≡ run is_digit x
  run_long = simp length-take (omega (arith, run-within is_digit x))

  pub free-none : None ≡ figures 0 at x → None ≡ counted_of at x
  unfolding numeral_of
  free-none h = sym (counted_none at x (take (run is_digit x) x) (run is_digit x) free-length refl (go (run is_digit x) refl))
    where
      no : is_value (digits_from 0 0 (take (run is_digit x) x)) ≡ false
      no = figures-no 0 at 0 x (sym h)

      go : (m : ℕ) → run is_digit x ≡ m → is_value (numeral_of (take (run is_digit x) x)) ≡ false
      go zero e = rw e
      go (suc m) e = rw (free_numeral (run is_digit x) (omega (arith, run_long, e))) no

  module _ (f : Figures) (is : Some f ≡ figures 0 at x) where
    pub free-empty : f.end ≤ at → None ≡ counted_of at x
    unfolding numeral_of
    free-empty e =
        let y = figures_yes 0 at 0 x f (sym is) in
        let z : run is_digit x ≡ 0 = omega (arith, y.0) in
        sym (counted_none at x [] 0 (free-length ∙ z) refl refl)

    pub free-some : (f.end ≤ at → ⊥) → (b : ℕ) → get_or x 0 0 ≡ b → (p : Bool) → p ≡ plain_of (f.end - at) b → Some (record { value = f.value; end = f.end; plain = p }) ≡ counted_of at x
    unfolding starts_with
    free-some e b i p j =
        let y = figures_yes 0 at 0 x f (sym is) in
        let end : f.end ≡ at + run is_digit x = y.0 in
        let some : 0 < run is_digit x = positive end in
        let v : numeral_of (take (run is_digit x) x) ≡ Ok f.value = free_numeral (run is_digit x) (omega (arith, run_long)) ∙ y.1 in
        let n : f.end - at ≡ run is_digit x = omega (arith, end) in
        sym (counted-some at x (take (run is_digit x) x) f.value (run is_digit x) free-length refl run_long v ∙ rw (j, ← i, n, end, run_long, go (run is_digit x) x free run_long some f.value v))
      where
        positive : f.end ≡ at + run is_digit x → 0 < run is_digit x
        positive q = omega (arith, q, e)

        go : (m : ℕ) (z : List ℕ) → starts_with (43 ∷ []) z ≡ false → length (take m z) ≡ m → 0 < m → (k : ℕ) → numeral_of (take m z) ≡ Ok k → eqb (length (decimal k)) m ≡ plain_of m (get_or z 0 0)
        go zero z u l p k v = absurd (omega arith)
        go (suc m) [] u l p k v = absurd (omega arith)
        go (suc m) (b ∷ z) u l p k v =
            let q : length (take m z) ≡ m = omega (arith, l) in
            let r = spelled-plain b (take m z) k v (eqb-false b 43 (sym (and-true (eqb b 43)) ∙ u)) in rw q at r

-- with a sign
module _ (at : ℕ) (x : List ℕ) (signed : starts_with (43 ∷ []) x ≡ true) where
  text-is : x ≡ 43 ∷ drop 1 x
  text-is = starts_split (43 ∷ []) x signed

  sign-length : num_len x ≡ suc (run is_digit (drop 1 x))
  unfolding num_len sign
  sign-length = rw signed (omega arith)

  sign_text : take (suc (run is_digit (drop 1 x))) x ≡ 43 ∷ take (run is_digit (drop 1 x)) (drop 1 x)
  sign_text = ap (λ (l : List ℕ). take (suc (run is_digit (drop 1 x))) l) text-is

  sign-long : length (take (run is_digit (drop 1 x)) (drop 1 x)) ≡ run is_digit (drop 1 x)
  sign-long = simp length-take (omega (arith, run-within is_digit (drop 1 x)))

  sign_numeral : (c : List ℕ) → 0 < length c → numeral_of (43 ∷ c) ≡ digits_from 0 1 c
  unfolding numeral_of digits_at
  sign_numeral [] h = absurd (omega arith)
  sign_numeral (b ∷ c) h = refl

  pub sign-none : None ≡ figures 0 (at + 1) (drop 1 x) → None ≡ counted_of at x
  unfolding numeral_of digits_at
  sign-none h = sym (counted_none at x (43 ∷ take (run is_digit (drop 1 x)) (drop 1 x)) (suc (run is_digit (drop 1 x))) sign-length sign_text (go (run is_digit (drop 1 x)) refl))
    where
      no : is_value (digits_from 0 1 (take (run is_digit (drop 1 x)) (drop 1 x))) ≡ false
      no = figures-no 0 (at + 1) 1 (drop 1 x) (sym h)

      go : (k : ℕ) → run is_digit (drop 1 x) ≡ k → is_value (numeral_of (43 ∷ take (run is_digit (drop 1 x)) (drop 1 x))) ≡ false
      go zero e = rw e
      go (suc k) e = rw (sign_numeral (take (run is_digit (drop 1 x)) (drop 1 x)) (omega (arith, sign-long, e))) no

  module _ (f : Figures) (is : Some f ≡ figures 0 (at + 1) (drop 1 x)) where
    pub sign-empty : f.end ≡ at + 1 → None ≡ counted_of at x
    unfolding numeral_of digits_at
    sign-empty e =
        let y = figures_yes 0 (at + 1) 1 (drop 1 x) f (sym is) in
        let z : run is_digit (drop 1 x) ≡ 0 = omega (arith, y.0) in
        sym (counted_none at x (43 ∷ []) 1 (sign-length ∙ rw z) (rw z at sign_text) refl)

    pub sign-some : (f.end ≡ at + 1 → ⊥) → Some (record { value = f.value; end = f.end; plain = false }) ≡ counted_of at x
    sign-some e =
        let y = figures_yes 0 (at + 1) 1 (drop 1 x) f (sym is) in
        let end : f.end ≡ at + 1 + run is_digit (drop 1 x) = y.0 in
        let some : 0 < run is_digit (drop 1 x) = omega (arith, end, e) in
        let v : numeral_of (43 ∷ take (run is_digit (drop 1 x)) (drop 1 x)) ≡ Ok f.value = sign_numeral _ (omega (arith, sign-long)) ∙ y.1 in
        let n : at + suc (run is_digit (drop 1 x)) ≡ f.end = omega (arith, end) in
        let loose : eqb (length (decimal f.value)) (suc (length (take (run is_digit (drop 1 x)) (drop 1 x)))) ≡ false = ne_eqb _ _ (plus-loose 43 _ f.value v refl) in
        sym (counted-some at x (43 ∷ take (run is_digit (drop 1 x)) (drop 1 x)) f.value (suc (run is_digit (drop 1 x))) sign-length sign_text (omega (arith, sign-long)) v ∙ rw (n, loose))

pub first-at : (s : List ℕ) (at : ℕ) → get_or (drop at s) 0 0 ≡ get_or s at 0
first-at s at = rw (get_or-drop, add-zero)

-- at the text's end there is none, and a byte tells whether there is a sign
pub count-end : (s : List ℕ) (at : ℕ) → at ≡ length s → None ≡ counted_of at (drop at s)
unfolding counted_of num_len sign run numeral_of starts_with
count-end s at h = let l : length s ≤ at = omega arith in rw (drop_of_length-le s l)

pub count-byte : (s : List ℕ) (at : ℕ) → at < length s → starts_with (43 ∷ []) (drop at s) ≡ eqb (get_or s at 0) 43
count-byte s at h = starts-byte 43 (drop at s) (rw length-drop (omega arith)) ∙ rw (first-at s at)

-- ---- what an answer tells
pub count-no : (at : ℕ) (s : List ℕ) → None ≡ counted_of at s → is_number (num_text s) ≡ false
unfolding counted_of
count-no at s = go (is_number (num_text s))
  where
    go : (v : Bool) → ◌≡◌ {A = Option Counted} None (cond v (Some (record { value = number_in (num_text s); end = at + num_len s; plain = spelled count (num_text s) })) None) → v ≡ false
    go true h = some-none _ (sym h)
    go false h = refl

pub count-yes : (at : ℕ) (s : List ℕ) (r : Counted) → Some r ≡ counted_of at s → is_number (num_text s) ≡ true
unfolding counted_of
count-yes at s r = go (is_number (num_text s))
  where
    go : (v : Bool) → Some r ≡ cond v (Some (record { value = number_in (num_text s); end = at + num_len s; plain = spelled count (num_text s) })) None → v ≡ true
    go true h = refl
    go false h = some-none r h

pub count-is : (at : ℕ) (s : List ℕ) (r : Counted) → Some r ≡ counted_of at s → (r.value ≡ number_in (num_text s)) × (r.end ≡ at + num_len s) × (r.plain ≡ spelled count (num_text s))
unfolding counted_of
count-is at s r e =
    let k = count-yes at s r e in
    let f : r ≡ record { value = number_in (num_text s); end = at + num_len s; plain = spelled count (num_text s) } = some-one r _ (e ∙ rw k) in
    (ap (λ (x : Counted). x.value) f, ap (λ (x : Counted). x.end) f, ap (λ (x : Counted). x.plain) f)

pub count-within : (t : List ℕ) (at : ℕ) (r : Counted) → Some r ≡ counted_of at (drop at t) → at ≤ length t → (at ≤ r.end) × (r.end ≤ length t)
count-within t at r e l = let k = (count-is at (drop at t) r e).1 in (omega (arith, k), omega (arith, k, num-within (drop at t), length-drop at t))
