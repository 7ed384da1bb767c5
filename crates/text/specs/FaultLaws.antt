-- Laws of `Fault`: the fault of a number text stands in it or at its end, and says what to mend.
-- Assumes nothing.
use Rattle.std.specs.Prelude.{ℕ, zero, suc, ◌+◌, ◌^◌, ◌≤◌, ◌<◌, ◌≡◌, refl, Bool, true, false, cond, List, [], ◌∷◌, ◌++◌, eqb, ltb, length, take, Ok, Err}
use Rattle.std.proofs.Common.{sym, ap, ◌∙◌, append-nil, arith, eqb-true}
use Rattle.text.specs.Number.{Numeral, is_digit, with_digit, digits_from, digits_at, numeral_of}
use Rattle.text.specs.declared.NumberFault.TheVariants.{NoDigits, NotADigit, TooLarge}
use Rattle.text.specs.Refusal.{no_digits}
use Rattle.text.specs.Fault.{fault, has_place, numeral_fault, numeral_place, Mends}

-- a numeral is a fault
abbrev Faulty : Numeral → Type 0
Faulty x = numeral_fault x ≡ 0 → ⊥

fault-value : (x : Numeral) (v : ℕ) → Faulty x → x ≡ Ok v → ⊥
fault-value x v f e = f (ap numeral_fault e)

-- ---- digits after the value v, the first at i: the bytes before the fault are digits, and the byte at it decides
record Stops (v i : ℕ) (s : List ℕ) : Type 0 where
  n : ℕ
  inside : n < length s
  place : numeral_place (digits_from v i s) ≡ i + n
  before : (w : ℕ) × (digits_from v i (take n s) ≡ Ok w)
  after : (r : List ℕ) → digits_from v i (take (suc n) s ++ r) ≡ digits_from v i s
  other : numeral_fault (digits_from v i s) ≡ no_digits → ⊥

digits-stop : (v i : ℕ) (s : List ℕ) → Faulty (digits_from v i s) → Stops v i s
unfolding digits_from
digits-stop v i [] f = absurd (f refl)
digits-stop v i (b ∷ s) f = go (is_digit b) refl (ltb (with_digit v b) (2 ^ 64)) refl f (λ g. digits-stop (with_digit v b) (i + 1) s g)
  where
    go : (d : Bool) → is_digit b ≡ d → (l : Bool) → ltb (with_digit v b) (2 ^ 64) ≡ l → Faulty (cond d (cond l (digits_from (with_digit v b) (i + 1) s) (Err (TooLarge i))) (Err (NotADigit i)))
        → (Faulty (digits_from (with_digit v b) (i + 1) s) → Stops (with_digit v b) (i + 1) s) → Stops v i (b ∷ s)
    go true e true l g ih =
        let x = ih g in
        record {
          n = suc x.n;
          inside = let h = x.inside in omega arith;
          place = rw (e, l) (omega (arith, x.place));
          before = (x.before.0, rw (e, l) x.before.1);
          after = λ r. rw (e, l) (x.after r);
          other = λ h. x.other (rw (e, l) at h);
        }
    go true e false l g ih =
        record { n = 0; inside = omega arith; place = rw (e, l) (omega arith); before = (v, refl); after = λ r. rw (e, l); other = λ h. let k : ◌≡◌ {A = ℕ} 19 17 = rw (e, l) at h in omega arith }
    go false e l m g ih =
        record { n = 0; inside = omega arith; place = rw e (omega arith); before = (v, refl); after = λ r. rw e; other = λ h. let k : ◌≡◌ {A = ℕ} 18 17 = rw e at h in omega arith }

-- ---- one digit or more, the first at i
record Ends (i : ℕ) (s : List ℕ) : Type 0 where
  n : ℕ
  inside : n ≤ length s
  place : numeral_place (digits_at i s) ≡ i + n
  begun : (r : List ℕ) × (w : ℕ) × (digits_at i (take n s ++ r) ≡ Ok w)
  ended : numeral_fault (digits_at i s) ≡ no_digits → n ≡ length s
  stuck : (numeral_fault (digits_at i s) ≡ no_digits → ⊥) → (n < length s) × ((r : List ℕ) → digits_at i (take (suc n) s ++ r) ≡ digits_at i s)

zero_digit : (i : ℕ) → digits_at i (48 ∷ []) ≡ Ok 0
unfolding digits_at digits_from
zero_digit i = refl

at-ends : (i : ℕ) (s : List ℕ) → Faulty (digits_at i s) → Ends i s
unfolding digits_at
at-ends i [] f = record { n = 0; inside = omega arith; place = omega arith; begun = (48 ∷ [], 0, zero_digit i); ended = λ h. refl; stuck = λ h. absurd (h refl) }
at-ends i (b ∷ s) f = go (digits-stop 0 i (b ∷ s) f)
  where
    start : (n w : ℕ) → digits_from 0 i (take n (b ∷ s)) ≡ Ok w → (r : List ℕ) × (w : ℕ) × (digits_at i (take n (b ∷ s) ++ r) ≡ Ok w)
    start zero w h = (48 ∷ [], 0, zero_digit i)
    start (suc n) w h = ([], w, ap (digits_at i) (append-nil (take (suc n) (b ∷ s))) ∙ h)

    go : Stops 0 i (b ∷ s) → Ends i (b ∷ s)
    go x =
        record {
          n = x.n;
          inside = let h = x.inside in omega arith;
          place = x.place;
          begun = start x.n x.before.0 x.before.1;
          ended = λ h. absurd (x.other h);
          stuck = λ h. (x.inside, x.after);
        }

-- ---- the sign
-- digits that are a number begin with no sign
plain-number : (u : List ℕ) (w : ℕ) → digits_at 0 u ≡ Ok w → numeral_of u ≡ Ok w
unfolding numeral_of digits_at digits_from
plain-number [] w h = let z : ◌≡◌ {A = ℕ} 0 1 = cc in absurd (omega arith)
plain-number (c ∷ u) w h = go (eqb c 43) refl
  where
    go : (v : Bool) → eqb c 43 ≡ v → cond v (digits_at 1 u) (digits_at 0 (c ∷ u)) ≡ Ok w
    go true e =
        let k : Err (NotADigit 0) ≡ Ok w = rw (eqb-true c 43 e) at h in
        let z : ◌≡◌ {A = ℕ} 0 1 = cc in absurd (omega arith)
    go false e = h

pub number-mends : (c : List ℕ) → (numeral_fault (numeral_of c) ≡ 0 → ⊥) → Mends c (numeral_fault (numeral_of c)) (numeral_place (numeral_of c))
unfolding numeral_of
number-mends [] f = record { inside = omega arith; begun = (48 ∷ [], (0, plain-number (48 ∷ []) 0 (zero_digit 0))); ended = λ h. refl; stuck = λ h. absurd (h refl) }
number-mends (b ∷ s) f = go (eqb b 43) refl f
  where
    go : (v : Bool) → eqb b 43 ≡ v → (numeral_fault (cond v (digits_at 1 s) (digits_at 0 (b ∷ s))) ≡ 0 → ⊥)
        → Mends (b ∷ s) (numeral_fault (cond v (digits_at 1 s) (digits_at 0 (b ∷ s)))) (numeral_place (cond v (digits_at 1 s) (digits_at 0 (b ∷ s))))
    go true e g =
        let x = at-ends 1 s g in
        let p : numeral_place (digits_at 1 s) ≡ suc x.n = omega (arith, x.place) in
        record {
          inside = let h = x.inside in omega arith;
          begun = (x.begun.0, (x.begun.1, rw (p, e) x.begun.2));
          ended = λ h. let k = x.ended h in omega arith;
          stuck = λ h. (let k = (x.stuck h).0 in omega arith, λ r y. let k : digits_at 1 (take (suc x.n) s ++ r) ≡ Ok y.0 = rw (p, e) at y.1 in fault-value (digits_at 1 s) y.0 g (sym ((x.stuck h).1 r) ∙ k));
        }
    go false e g =
        let x = at-ends 0 (b ∷ s) g in
        let p : numeral_place (digits_at 0 (b ∷ s)) ≡ x.n = omega (arith, x.place) in
        record {
          inside = let h = x.inside in omega arith;
          begun = (x.begun.0, (x.begun.1, rw p (plain-number (take x.n (b ∷ s) ++ x.begun.0) x.begun.1 x.begun.2)));
          ended = λ h. let k = x.ended h in omega arith;
          stuck = λ h. (let k = (x.stuck h).0 in omega arith, λ r y. let k : digits_at 0 (b ∷ (take x.n s ++ r)) ≡ Ok y.0 = rw (p, e) at y.1 in fault-value (digits_at 0 (b ∷ s)) y.0 g (sym ((x.stuck h).1 r) ∙ k));
        }

-- the place of a number text, also of one without fault, is in the text or at its end
pub number-place : (c : List ℕ) → numeral_place (numeral_of c) ≤ length c
number-place c = go (numeral_of c) refl
  where
    go : (x : Numeral) → numeral_of c ≡ x → numeral_place x ≤ length c
    go (Ok v) e = omega arith
    go (Err (NoDigits i)) e = let k : i ≤ length c = rw e at (number-mends c (rw e (λ h. omega arith))).inside in k
    go (Err (NotADigit i)) e = let k : i ≤ length c = rw e at (number-mends c (rw e (λ h. omega arith))).inside in k
    go (Err (TooLarge i)) e = let k : i ≤ length c = rw e at (number-mends c (rw e (λ h. omega arith))).inside in k

-- ---- a refusal without a place
pub refuses : (n m p : ℕ) → m ≡ n → has_place n ≡ false → record { refusal = n; place = 0 } ≡ fault m p
refuses n m p e h = rw (e, h)
