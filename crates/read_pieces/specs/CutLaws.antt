-- The cut by one pass over the text is the cut by the places of the components.
-- Assumes nothing.
use Rattle.std.specs.Prelude.{ℕ, zero, suc, min, ◌+◌, ◌-◌, ◌≤◌, ◌<◌, ◌≡◌, refl, List, [], ◌∷◌, ◌++◌, map, Bool, true, false, cond, ◌&&◌, eqb, ltb, length, take, drop, set, replicate}
use Rattle.std.proofs.Common.{sym, ◌∙◌, append_assoc, append-nil, arith, add-one, drop-cons, length-append, drop_of_length-le, length-take, ltb-true, ltb-false, eq-eqb, ne_eqb, lt-ltb, le-ltb}
use Rattle.std.proofs.Math.Path.{ap}
use Rattle.std.proofs.Math.Bool.{and-false}
use Rattle.std.proofs.Math.Nat.{add-sub_cancel_left}
use Rattle.std.proofs.Math.ListN.{get_or, get_or-map}
use Rattle.std.proofs.lemmas.List.{length-map}
use Rattle.path.specs.declared.Place.{Place}
use Rattle.path.specs.declared.Cut.{Cut}
use Rattle.path.specs.Text.{places, places_from, place_step, place_at, nowhere, longer, component, components}
use Rattle.path.specs.TextLaws.{place-next, place-last, place-within, part-component, count-components}
use Rattle.path.specs.Cut.{start_of, pad, cut_of}

pub pad-set : (n : ℕ) (l : List ℕ) (x : ℕ) → length l < n → set (pad n l) (length l) x ≡ pad n (l ++ x ∷ [])
pad-set zero l x h = absurd (omega arith)
pad-set (suc n) [] x h = refl
pad-set (suc n) (y ∷ l) x h = ap (λ (r : List ℕ). y ∷ r) (pad-set n l x (omega arith))

pub pad-full : (n : ℕ) (l m : List ℕ) → n ≤ length l → pad n (l ++ m) ≡ pad n l
pad-full zero l m h = refl
pad-full (suc n) [] m h = absurd (omega arith)
pad-full (suc n) (y ∷ l) m h = ap (λ (r : List ℕ). y ∷ r) (pad-full n l m (omega arith))

pub pad-length : (n : ℕ) (l : List ℕ) → length (pad n l) ≡ n
pad-length zero l = refl
pad-length (suc n) [] = ap suc (pad-length n [])
pad-length (suc n) (x ∷ l) = ap suc (pad-length n l)

pub pad-at : (n : ℕ) (l : List ℕ) (i : ℕ) → i < n → get_or (pad n l) i 0 ≡ get_or l i 0
pad-at zero l i h = absurd (omega arith)
pad-at (suc n) [] zero h = refl
pad-at (suc n) [] (suc i) h = pad-at n [] i (omega arith)
pad-at (suc n) (x ∷ l) zero h = refl
pad-at (suc n) (x ∷ l) (suc i) h = pad-at n l i (omega arith)

-- the starts after the first, of a text that stands at i
abbrev pub after : ℕ → List ℕ → List ℕ
after i [] = []
after i (b ∷ t) = cond (eqb b 47) ((i + 1) ∷ after (i + 1) t) (after (i + 1) t)

starts-longer : (i j : ℕ) (ps : List Place) (l : List ℕ) → map start_of ps ≡ j ∷ l → map start_of (longer i ps) ≡ i ∷ l
starts-longer i j [] l e = let z : ◌≡◌ {A = ℕ} 0 1 = cc in absurd (omega arith)
starts-longer i j (p ∷ ps) l e = let z : map start_of ps ≡ l = cc in ap (λ (r : List ℕ). i ∷ r) z

pub starts-after : (i : ℕ) (t : List ℕ) → map start_of (places_from i t) ≡ i ∷ after i t
unfolding places_from
starts-after i [] = refl
starts-after i (b ∷ t) = go (starts-after (i + 1) t) (eqb b 47)
  where
    go : map start_of (places_from (i + 1) t) ≡ (i + 1) ∷ after (i + 1) t → (v : Bool) → map start_of (place_step v i (places_from (i + 1) t)) ≡ i ∷ cond v ((i + 1) ∷ after (i + 1) t) (after (i + 1) t)
    go h true = ap (λ (r : List ℕ). i ∷ r) h
    go h false = starts-longer i (i + 1) (places_from (i + 1) t) (after (i + 1) t) h

-- the cut by one pass: t stands at i, and s and n are the starts and the count so far
unfoldable pub fill_from : ℕ → List ℕ → List ℕ → ℕ → Cut
fill_from i [] s n = record { starts = s; count = n }
fill_from i (b ∷ t) s n =
    cond (eqb b 47 && ltb n 8)
    (fill_from (i + 1) t (set s n (i + 1)) (n + 1))
    (fill_from (i + 1) t s n)

-- one turn of the pass
pub fill_step : (i : ℕ) (t s : List ℕ) (n : ℕ) → i < length t
    → fill_from i (drop i t) s n ≡ cond (eqb (get_or t i 0) 47 && ltb n 8) (fill_from (i + 1) (drop (i + 1) t) (set s n (i + 1)) (n + 1)) (fill_from (i + 1) (drop (i + 1) t) s n)
unfolding fill_from
fill_step i t s n h = rw (drop-cons t i 0 h, add-one)

-- after the last byte
pub fill_end : (i : ℕ) (t s : List ℕ) (n : ℕ) → length t ≤ i → record { starts = s; count = n } ≡ fill_from i (drop i t) s n
unfolding fill_from
fill_end i t s n h = rw (drop_of_length-le t h)

-- the three ways through a turn: a slash with room, a slash without, another byte
module _ (i : ℕ) (t s : List ℕ) (n : ℕ) (r : Cut) (h : i < length t) (e : fill_from i (drop i t) s n ≡ r) where
  pub fill-slash : get_or t i 0 ≡ 47 → n < 8 → fill_from (i + 1) (drop (i + 1) t) (set s n (i + 1)) (n + 1) ≡ r
  fill-slash b m = sym (simp (eq-eqb _ _ b, lt-ltb _ _ m) at (fill_step i t s n h)) ∙ e

  pub fill-full : 8 ≤ n → fill_from (i + 1) (drop (i + 1) t) s n ≡ r
  fill-full m = sym (simp (le-ltb _ _ m, and-false) at (fill_step i t s n h)) ∙ e

  pub fill-other : (get_or t i 0 ≡ 47 → ⊥) → fill_from (i + 1) (drop (i + 1) t) s n ≡ r
  fill-other b = sym (simp (ne_eqb _ _ b) at (fill_step i t s n h)) ∙ e

abbrev cut_for : List ℕ → Cut
cut_for p = record { starts = pad 8 p; count = min 8 (length p) }

cut-full : (p q : List ℕ) → 8 ≤ length p → cut_for (p ++ q) ≡ cut_for p
cut-full p q h =
    let m : min 8 (length (p ++ q)) ≡ min 8 (length p) = simp length-append (omega arith) in
    rw (pad-full 8 p q h, m)

fill-all : (i : ℕ) (t p : List ℕ) → fill_from i t (pad 8 p) (min 8 (length p)) ≡ cut_for (p ++ after i t)
unfolding fill_from
fill-all i [] p = rw append-nil
fill-all i (b ∷ t) p = go (λ (q : List ℕ). fill-all (i + 1) t q) (eqb b 47) (ltb (min 8 (length p)) 8) refl
  where
    go : ((q : List ℕ) → fill_from (i + 1) t (pad 8 q) (min 8 (length q)) ≡ cut_for (q ++ after (i + 1) t))
        → (v w : Bool) → ltb (min 8 (length p)) 8 ≡ w
        → cond (v && w) (fill_from (i + 1) t (set (pad 8 p) (min 8 (length p)) (i + 1)) (min 8 (length p) + 1)) (fill_from (i + 1) t (pad 8 p) (min 8 (length p)))
        ≡ cut_for (p ++ cond v ((i + 1) ∷ after (i + 1) t) (after (i + 1) t))
    go ih false w e = ih p
    go ih true true e =
        let h : length p < 8 = omega (arith, ltb-true (min 8 (length p)) 8 e) in
        let m : min 8 (length p) ≡ length p = omega arith in
        let n : length p + 1 ≡ min 8 (length (p ++ (i + 1) ∷ [])) = simp length-append (omega arith) in
        rw (m, pad-set 8 p (i + 1) h, n, ih (p ++ (i + 1) ∷ []), append_assoc)
    go ih true false e =
        let h : 8 ≤ length p = omega (arith, ltb-false (min 8 (length p)) 8 e) in
        ih p ∙ cut-full p (after (i + 1) t) h ∙ sym (cut-full p ((i + 1) ∷ after (i + 1) t) h)

pub fill-is-cut : (t : List ℕ) → fill_from 0 t (replicate 8 0) 1 ≡ cut_of t
unfolding cut_of
fill-is-cut t =
    let n : length (places t) ≡ length (0 ∷ after 0 t) = sym (length-map (places t) start_of) ∙ ap length (starts-after 0 t) in
    fill-all 0 t (0 ∷ []) ∙ rw (n, starts-after 0 t)

-- ---- what a reader learns of a cut
place-eq : (p : Place) (s l : ℕ) → s ≡ p.start → l ≡ p.len → record { start = s; len = l } ≡ p
place-eq p s l e f = rw (e, f)

module _ (t : List ℕ) (c : Cut) (e : c ≡ cut_of t) where
  pub cut-start : (k : ℕ) → k < 8 → get_or c.starts k 0 ≡ (place_at t k).start
  unfolding cut_of
  cut-start k h = ap (λ (x : Cut). get_or x.starts k 0) e ∙ pad-at 8 (map start_of (places t)) k h ∙ get_or-map start_of (places t) k nowhere

  pub cut-count : c.count ≡ min 8 (length (places t))
  unfolding cut_of
  cut-count = ap (λ (x : Cut). x.count) e

  -- a count below eight is the number of components
  pub cut-few : c.count < 8 → c.count ≡ length (places t)
  cut-few few = omega (arith, cut-count)

  module _ (k : ℕ) (h : k < c.count) (few : c.count < 8) where
    pub cut-here : get_or c.starts k 0 + (place_at t k).len ≤ length t
    cut-here = omega (arith, cut-start k (omega arith), place-within t k)

    pub cut-next : k + 1 < c.count → get_or c.starts (k + 1) 0 ≡ get_or c.starts k 0 + (place_at t k).len + 1
    cut-next l = omega (arith, cut-count, cut-start k (omega arith), cut-start (k + 1) (omega arith), place-next t k (omega (arith, cut-count)))

    pub cut_middle : k + 1 < c.count → record { start = get_or c.starts k 0; len = get_or c.starts (k + 1) 0 - 1 - get_or c.starts k 0 } ≡ place_at t k
    cut_middle l = place-eq (place_at t k) _ _ (cut-start k (omega arith)) (omega (arith, cut-next l))

    pub cut-last : c.count ≤ k + 1 → record { start = get_or c.starts k 0; len = length t - get_or c.starts k 0 } ≡ place_at t k
    cut-last l = place-eq (place_at t k) _ _ (cut-start k (omega arith)) (omega (arith, cut-start k (omega arith), place-last t k (omega (arith, cut-count))))

-- ---- what stands at the place of a component
module _ (t : List ℕ) (k : ℕ) (p : Place) (e : p ≡ place_at t k) where
  pub place-ends : p.start + p.len ≤ length t
  place-ends = rw e (place-within t k)

  pub place-shows : take (p.start + p.len - p.start) (drop p.start t) ≡ component t k
  place-shows = rw (add-sub_cancel_left, e) (part-component t k)

-- a count below eight is the number of components
-- a component ends in the text
pub component-ends : (t d : List ℕ) (k : ℕ) (p : Place) → p ≡ place_at t k → d ≡ component t k → p.start + length d ≤ length t
component-ends t d k p e f = rw (f, ← part-component t k, ← e, length-take) (omega (arith, place-ends t k p e))

pub cut-components : (t : List ℕ) (c : Cut) (n : ℕ) → c ≡ cut_of t → c.count ≡ n → n < 8 → length (components t) ≡ n
cut-components t c n e m few = sym (count-components t) ∙ sym (cut-few t c e (omega arith)) ∙ m
