-- The scanners of S or n, of R-h and of U.
-- Assumes nothing.
use Rattle.std.specs.Prelude.{ℕ, suc, ◌+◌, ◌^◌, ◌≤◌, ◌<◌, ◌≡◌, List, [], ◌∷◌, ◌++◌, Bool, true, false, cond, ◌&&◌, eqb, ltb, length, take, drop, Err}
use Rattle.std.proofs.Math.Path.{refl}
use Rattle.std.proofs.Common.{sym, ap, ◌∙◌, append_assoc, arith, length-append, length-take, length-drop, drop-drop, drop_at, take_at, take-add, eqb-true}
use Rattle.std.proofs.Math.Bool.{not}
use Rattle.text.specs.Number.{Numeral, is_digit, with_digit, digits_from, digits_at, numeral_of}
use Rattle.text.specs.Part.{every, ascii, starts_with}
use Rattle.text.specs.PartLaws.{and_left, and_right, every_append}
use Rattle.text.specs.declared.NumberFault.TheVariants.{NotADigit, TooLarge}
use Rattle.identifiers.specs.Check.{is_value}
use Rattle.path.specs.Kinds.{name, count, pair}
use Rattle.path.specs.Text.{cut_at, join_by}
use Rattle.path.specs.TextLaws.{without, join-cut, cut-join}
use Rattle.path.specs.declared.name.Name.TheVariants.{Upgrade}
use Rattle.path.specs.Read.{fits, name_fault, is_number, are_pair}
use Rattle.walk_scan.specs.Run.{run}
use Rattle.walk_scan.specs.RunLaws.{run-within, run-every, run-to}
use Rattle.walk_scan.specs.Number.{sign, num_len, num_text, pair_ok, pair_len, no_slash, upgrade_ok}
use Rattle.walk_scan.specs.Tail.{Stops}
use Rattle.walk_scan.specs.Tail as tail
use Rattle.walk_scan.specs.WordLaws.{starts_split, starts-room}
use Rattle.walk_scan.specs.TailLaws.{Scans}

-- ---- what no digit follows
pub data Halts : List ℕ → Type 0 where
  at_end : Halts []
  at_other : (b : ℕ) (r : List ℕ) → is_digit b ≡ false → Halts (b ∷ r)

stops_halts : (r : List ℕ) → Stops r → Halts r
stops_halts _ tail.at_end = at_end
stops_halts _ (tail.at_slash r) = at_other 47 r refl

run_halts : (c r : List ℕ) → Halts r → every is_digit c ≡ true → run is_digit (c ++ r) ≡ length c
unfolding run every
run_halts [] _ at_end h = refl
run_halts [] _ (at_other b r n) h = rw n
run_halts (b ∷ c) r k h = rw (and_left (is_digit b) (every is_digit c) h, run_halts c r k (and_right (is_digit b) (every is_digit c) h))

-- ---- a number text is a sign or none, and digits
pub value-cond : (v : Bool) (a b : Numeral) → (is_value b ≡ true → ⊥) → is_value (cond v a b) ≡ true → (v ≡ true) × (is_value a ≡ true)
value-cond true a b n h = (refl, h)
value-cond false a b n h = absurd (n h)

pub no_value : {P : Type 0} → false ≡ true → P
no_value h = let z : ◌≡◌ {A = ℕ} 0 1 = cc in absurd (omega arith)

digits-every : (v i : ℕ) (s : List ℕ) → is_value (digits_from v i s) ≡ true → every is_digit s ≡ true
unfolding digits_from every
digits-every v i [] h = refl
digits-every v i (b ∷ s) h =
    let d = value-cond (is_digit b) _ (Err (NotADigit i)) (λ x. no_value x) h in
    let k = value-cond (ltb (with_digit v b) (2 ^ 64)) _ (Err (TooLarge i)) (λ x. no_value x) d.1 in
    rw d.0 (digits-every (with_digit v b) (i + 1) s k.1)

some-every : (i : ℕ) (s : List ℕ) → is_value (digits_at i s) ≡ true → (every is_digit s ≡ true) × (0 < length s)
unfolding digits_at
some-every i [] h = no_value h
some-every i (b ∷ s) h = (digits-every 0 i (b ∷ s) h, omega arith)

-- a test of digits and of the sign is a test of number texts
pub number-every : (f : ℕ → Bool) → ((b : ℕ) → is_digit b ≡ true → f b ≡ true) → f 43 ≡ true → (c : List ℕ) → is_number c ≡ true → every f c ≡ true
unfolding numeral_of every
number-every f d p [] h = refl
number-every f d p (b ∷ c) h = go (eqb b 43) refl h
  where
    each : (s : List ℕ) → every is_digit s ≡ true → every f s ≡ true
    each [] k = refl
    each (x ∷ s) k = rw (d x (and_left (is_digit x) (every is_digit s) k)) (each s (and_right (is_digit x) (every is_digit s) k))

    go : (v : Bool) → eqb b 43 ≡ v → is_value (cond v (digits_at 1 c) (digits_at 0 (b ∷ c))) ≡ true → (f b && every f c) ≡ true
    go true e k = rw (eqb-true b 43 e, p) (each c (some-every 1 c k).0)
    go false e k = each (b ∷ c) (some-every 0 (b ∷ c) k).0

digit_not : (x : ℕ) → is_digit x ≡ false → (b : ℕ) → is_digit b ≡ true → not (eqb b x) ≡ true
digit_not x n b h = go (eqb b x) refl
  where
    go : (v : Bool) → eqb b x ≡ v → not v ≡ true
    go true e = let y : is_digit x ≡ true = rw (eqb-true b x e) at h in no_value (sym n ∙ y)
    go false e = refl

number-without : (x : ℕ) → is_digit x ≡ false → not (eqb 43 x) ≡ true → (c : List ℕ) → is_number c ≡ true → without x c ≡ true
number-without x n p c h = number-every (λ b. not (eqb b x)) (digit_not x n) p c h

-- it is found whole, whatever no digit follows it
pub num-is : (c r : List ℕ) → Halts r → is_number c ≡ true → num_len (c ++ r) ≡ length c
unfolding num_len sign numeral_of starts_with
num-is [] r k h = no_value h
num-is (b ∷ c) r k h = go (eqb b 43) refl h
  where
    go : (v : Bool) → eqb b 43 ≡ v → is_value (cond v (digits_at 1 c) (digits_at 0 (b ∷ c))) ≡ true
        → cond (v && true) 1 0 + run is_digit (drop (cond (v && true) 1 0) (b ∷ (c ++ r))) ≡ suc (length c)
    go true e k' = omega (arith, run_halts c r k (some-every 1 c k').0)
    go false e k' = omega (arith, run_halts (b ∷ c) r k (some-every 0 (b ∷ c) k').0)

pub num-within : (s : List ℕ) → num_len s ≤ length s
unfolding num_len sign starts_with
num-within [] = omega (arith, run-within is_digit (drop 0 []))
num-within (b ∷ s) = go (eqb b 43)
  where
    go : (v : Bool) → cond (v && true) 1 0 + run is_digit (drop (cond (v && true) 1 0) (b ∷ s)) ≤ suc (length s)
    go true = omega (arith, run-within is_digit s)
    go false = omega (arith, run-within is_digit (b ∷ s))

pub num-length : (s : List ℕ) → length (num_text s) ≡ num_len s
num-length s = simp length-take (omega (arith, num-within s))

-- ---- the scanner of S or n
pub scans-count : Scans count (λ s. is_number (num_text s)) num_len
unfolding fits
scans-count = record { sound = λ s h. (num-within s, number-without 47 refl refl (num_text s) h, h); whole = whole }
  where
    whole : (c r : List ℕ) → Stops r → without 47 c ≡ true → is_number c ≡ true → (is_number (num_text (c ++ r)) ≡ true) × (num_len (c ++ r) ≡ length c)
    whole c r k h f = let n = num-is c r (stops_halts r k) f in (rw (n, take_at c r (length c) refl) f, n)

-- ---- the scanner of R-h
module _ (a b : List ℕ) (p : is_number a ≡ true) (q : is_number b ≡ true) where
  pub cut-pair : cut_at 45 (a ++ (45 ∷ b)) ≡ a ∷ (b ∷ [])
  unfolding join_by
  cut-pair = cut-join 45 a (b ∷ []) (rw (number-without 45 refl refl a p, number-without 45 refl refl b q))

  pair-clear : without 47 (a ++ (45 ∷ b)) ≡ true
  unfolding every
  pair-clear = every_append (λ x. not (eqb x 47)) a (45 ∷ b) ∙ rw (number-without 47 refl refl a p, number-without 47 refl refl b q)

pair-cut : (cs : List (List ℕ)) → are_pair cs ≡ true → (a : List ℕ) × (b : List ℕ) × (cs ≡ a ∷ (b ∷ [])) × (is_number a ≡ true) × (is_number b ≡ true)
pair-cut [] h = no_value h
pair-cut (a ∷ []) h = no_value h
pair-cut (a ∷ (b ∷ [])) h = (a, b, refl, and_left (is_number a) (is_number b) h, and_right (is_number a) (is_number b) h)
pair-cut (a ∷ (b ∷ (x ∷ xs))) h = no_value h

-- what it finds is R, a dash and h
pub pair-text : (s : List ℕ) → starts_with (45 ∷ []) (drop (num_len s) s) ≡ true → take (pair_len s) s ≡ num_text s ++ (45 ∷ num_text (drop (num_len s + 1) s))
unfolding pair_len
pair-text s h =
    let d : drop (num_len s) s ≡ 45 ∷ drop (num_len s + 1) s = starts_split (45 ∷ []) (drop (num_len s) s) h ∙ rw (drop-drop 1 (num_len s) s) in
    let n : num_len s + 1 + num_len (drop (num_len s + 1) s) ≡ num_len s + suc (num_len (drop (num_len s + 1) s)) = omega arith in
    rw (n, take-add (num_len s) (suc (num_len (drop (num_len s + 1) s))) s)
    (ap (λ (l : List ℕ). num_text s ++ take (suc (num_len (drop (num_len s + 1) s))) l) d)

pair-within : (s : List ℕ) → starts_with (45 ∷ []) (drop (num_len s) s) ≡ true → pair_len s ≤ length s
unfolding pair_len
pair-within s h =
    omega (arith, starts-room (45 ∷ []) (drop (num_len s) s) h, length-drop (num_len s) s, num-within s, num-within (drop (num_len s + 1) s), length-drop (num_len s + 1) s)

-- and R-h up to the end of its component is found
pair_found : (a b r : List ℕ) → Stops r → is_number a ≡ true → is_number b ≡ true
    → ((is_number (num_text ((a ++ (45 ∷ b)) ++ r)) && (starts_with (45 ∷ []) (drop (num_len ((a ++ (45 ∷ b)) ++ r)) ((a ++ (45 ∷ b)) ++ r)) && is_number (num_text (drop (num_len ((a ++ (45 ∷ b)) ++ r) + 1) ((a ++ (45 ∷ b)) ++ r))))) ≡ true)
    × (pair_len ((a ++ (45 ∷ b)) ++ r) ≡ length (a ++ (45 ∷ b)))
unfolding pair_len starts_with
pair_found a b r k p q =
    let s : (a ++ (45 ∷ b)) ++ r ≡ a ++ (45 ∷ (b ++ r)) = append_assoc a (45 ∷ b) r in
    let n : num_len (a ++ (45 ∷ (b ++ r))) ≡ length a = num-is a (45 ∷ (b ++ r)) (at_other 45 (b ++ r) refl) p in
    let d : drop (length a) (a ++ (45 ∷ (b ++ r))) ≡ 45 ∷ (b ++ r) = drop_at a (45 ∷ (b ++ r)) (length a) refl in
    let e : drop (length a + 1) (a ++ (45 ∷ (b ++ r))) ≡ b ++ r = sym (drop-drop 1 (length a) (a ++ (45 ∷ (b ++ r)))) ∙ rw d in
    let m : num_len (b ++ r) ≡ length b = num-is b r (stops_halts r k) q in
    rw (s, n, d, e, m, take_at a (45 ∷ (b ++ r)) (length a) refl, take_at b r (length b) refl, p, q, length-append a (45 ∷ b)) (refl, omega arith)

pub scans-pair : Scans pair pair_ok pair_len
unfolding fits pair_ok join_by
scans-pair = record { sound = sound; whole = whole }
  where
    sound : (s : List ℕ) → (is_number (num_text s) && (starts_with (45 ∷ []) (drop (num_len s) s) && is_number (num_text (drop (num_len s + 1) s)))) ≡ true
        → (pair_len s ≤ length s) × (without 47 (take (pair_len s) s) ≡ true) × (are_pair (cut_at 45 (take (pair_len s) s)) ≡ true)
    sound s h =
        let a = and_left (is_number (num_text s)) _ h in
        let r = and_right (is_number (num_text s)) _ h in
        let d = and_left (starts_with (45 ∷ []) (drop (num_len s) s)) _ r in
        let b = and_right (starts_with (45 ∷ []) (drop (num_len s) s)) _ r in
        let t = pair-text s d in
        (pair-within s d, rw t (pair-clear (num_text s) _ a b), rw (t, cut-pair (num_text s) _ a b, a, b))

    whole : (c r : List ℕ) → Stops r → without 47 c ≡ true → are_pair (cut_at 45 c) ≡ true
        → ((is_number (num_text (c ++ r)) && (starts_with (45 ∷ []) (drop (num_len (c ++ r)) (c ++ r)) && is_number (num_text (drop (num_len (c ++ r) + 1) (c ++ r))))) ≡ true) × (pair_len (c ++ r) ≡ length c)
    whole c r k h f =
        let z = pair-cut (cut_at 45 c) f in
        let a = z.0 in
        let b = z.1 in
        let t : c ≡ a ++ (45 ∷ b) = sym (join-cut 45 c) ∙ ap (join_by 45) z.2 in
        rw t (pair_found a b r k z.3 z.4)

-- ---- the scanner of U
pub scans-upgrade : Scans (name Upgrade) upgrade_ok (run no_slash)
unfolding fits name_fault
scans-upgrade = record { sound = sound; whole = whole }
  where
    sound : (s : List ℕ) → upgrade_ok s ≡ true → (run no_slash s ≤ length s) × (without 47 (take (run no_slash s) s) ≡ true) × (eqb (name_fault Upgrade (take (run no_slash s) s)) 0 ≡ true)
    sound s h = let e = run-every no_slash s in (run-within no_slash s, e, rw (h, e))

    whole : (c r : List ℕ) → Stops r → without 47 c ≡ true → eqb (name_fault Upgrade c) 0 ≡ true → (upgrade_ok (c ++ r) ≡ true) × (run no_slash (c ++ r) ≡ length c)
    whole c r k h f =
        let n = run-to no_slash c r k refl h in
        (rw (n, take_at c r (length c) refl) (low (ascii c) refl), n)
      where
        low : (v : Bool) → ascii c ≡ v → v ≡ true
        low true e = refl
        low false e = no_value (rw e at f)
