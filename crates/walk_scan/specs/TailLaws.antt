-- The streaming law: a scanner that finds the component at the start of a text peels one part off, and what is left is read after it.
-- Assumes nothing.
use Rattle.std.specs.Prelude.{ℕ, zero, suc, ◌+◌, ◌≤◌, ◌<◌, ◌≡◌, refl, List, [], ◌∷◌, ◌++◌, Bool, true, false, cond, not, ◌&&◌, eqb, length, take, drop}
use Rattle.std.proofs.Common.{sym, ap, ◌∙◌, append-nil, arith, length-drop, drop_at, take_at, drop-drop, eqb-true}
use Rattle.std.proofs.Math.Bool.{and-true, and-false}
use Rattle.std.proofs.lemmas.Bool.{not-true}
use Rattle.text.specs.Part.{every, starts_with, same}
use Rattle.text.specs.PartLaws.{and_left, and_right, same-is, same_refl, starts-append}
use Rattle.path.specs.declared.Place.{Place}
use Rattle.path.specs.Text.{components, places_from, nowhere}
use Rattle.path.specs.TextLaws.{without, cut-some, cut-one, cut-more}
use Rattle.path.specs.Kinds.{Part, word, Carried, carried}
use Rattle.path.specs.Read.{fits, adds}
use Rattle.path.specs.Spelled.{fit_all, spelled}
use Rattle.walk_scan.specs.WordLaws.{starts_split, starts-whole, starts-room}
use Rattle.walk_scan.specs.Tail.{Tail, none, some, tail_of, after_of, added, Stops, at_end, at_slash}

-- ---- the first component, and what is left
places-one : (i : ℕ) (c : List ℕ) → without 47 c ≡ true → places_from i c ≡ record { start = i; len = length c } ∷ []
unfolding places_from every
places-one i [] h = refl
places-one i (b ∷ c) h = rw (not-true (eqb b 47) (and_left _ (without 47 c) h), places-one (i + 1) c (and_right (not (eqb b 47)) (without 47 c) h))

places-more : (i : ℕ) (c r : List ℕ) → without 47 c ≡ true → places_from i (c ++ (47 ∷ r)) ≡ record { start = i; len = length c } ∷ places_from (i + length c + 1) r
unfolding places_from every
places-more i [] r h = let e : i + 0 + 1 ≡ i + 1 = omega arith in rw e
places-more i (b ∷ c) r h =
    let e : i + 1 + length c + 1 ≡ i + suc (length c) + 1 = omega arith in
    rw (not-true (eqb b 47) (and_left _ (without 47 c) h), places-more (i + 1) c r (and_right (not (eqb b 47)) (without 47 c) h), e)

fit_none : (cs : List (List ℕ)) → 0 < length cs → fit_all [] cs ≡ false
fit_none [] h = absurd (omega arith)
fit_none (c ∷ cs) h = refl

-- two tests, one after the other
cond_both : (f g : Bool) (p : Part) (c : List ℕ) (q : Place) (v : Carried Place) (e : Bool) → cond (f && g) (some (adds p c q v) (spelled p c && e)) none ≡ cond f (added p c q (cond g (some v e) none)) none
cond_both true true p c q v e = refl
cond_both true false p c q v e = refl
cond_both false g p c q v e = refl

-- a text is read by its first component and what is after it
tail-head : (p : Part) (ps : List Part) (at : ℕ) (c r : List ℕ) → Stops r → without 47 c ≡ true
    → tail_of (p ∷ ps) at (c ++ r) ≡ cond (fits p c) (added p c (record { start = at; len = length c }) (after_of ps (at + length c) r)) none
unfolding tail_of after_of
tail-head p [] at c _ at_end h = rw (append-nil c, cut-one 47 c h, places-one at c h) (cond_both (fits p c) true p c _ _ true)
tail-head p (x ∷ ps) at c _ at_end h = rw (append-nil c, cut-one 47 c h, and-false (fits p c)) (go (fits p c))
  where
    go : (v : Bool) → none ≡ cond v none none
    go true = refl
    go false = refl
tail-head p [] at c _ (at_slash r) h = rw (cut-more 47 c r h, fit_none (components r) (cut-some 47 r), and-false (fits p c)) (go (fits p c))
  where
    go : (v : Bool) → none ≡ cond v none none
    go true = refl
    go false = refl
tail-head p (x ∷ ps) at c _ (at_slash r) h =
    rw (cut-more 47 c r h, places-more at c r h) (cond_both (fits p c) (fit_all (x ∷ ps) (components r)) p c _ _ _)

-- every text is a first component and what ends it
pub record Head (s : List ℕ) : Type 0 where
  pub component : List ℕ
  pub rest : List ℕ
  pub text : s ≡ component ++ rest
  pub stops : Stops rest
  pub clear : without 47 component ≡ true

pub head_of : (s : List ℕ) → Head s
unfolding every
head_of [] = record { component = []; rest = []; text = refl; stops = at_end; clear = refl }
head_of (b ∷ s) = go (eqb b 47) refl (head_of s)
  where
    go : (v : Bool) → eqb b 47 ≡ v → Head s → Head (b ∷ s)
    go true e h = record { component = []; rest = 47 ∷ s; text = rw (eqb-true b 47 e); stops = at_slash s; clear = refl }
    go false e h = record { component = b ∷ h.component; rest = h.rest; text = ap (λ (l : List ℕ). b ∷ l) h.text; stops = h.stops; clear = rw (e, h.clear) }

-- ---- a scanner of a part: whether it finds one at the start of a text, and how long it is
pub record Scans (p : Part) (ok : List ℕ → Bool) (len : List ℕ → ℕ) : Type 0 where
  -- what it finds fits, and has no slash
  pub sound : (s : List ℕ) → ok s ≡ true → (len s ≤ length s) × (without 47 (take (len s) s) ≡ true) × (fits p (take (len s) s) ≡ true)
  -- and a component that fits is found
  pub whole : (c r : List ℕ) → Stops r → without 47 c ≡ true → fits p c ≡ true → (ok (c ++ r) ≡ true) × (len (c ++ r) ≡ length c)

-- bytes without a slash are bytes of the first component
inside : (c r : List ℕ) (n : ℕ) → Stops r → n ≤ length (c ++ r) → without 47 (take n (c ++ r)) ≡ true → n ≤ length c
unfolding every
inside [] _ n at_end l h = l
inside [] _ zero (at_slash r) l h = omega arith
inside [] _ (suc n) (at_slash r) l h = let z : ◌≡◌ {A = ℕ} 0 1 = cc in absurd (omega arith)
inside (b ∷ c) r zero k l h = omega arith
inside (b ∷ c) r (suc n) k l h = omega (arith, inside c r n k (omega arith) (and_right (not (eqb b 47)) (without 47 (take n (c ++ r))) h))

-- what ends before its component does is not followed by a slash or the end
after-inside : (ps : List Part) (e : ℕ) (c r : List ℕ) (n : ℕ) → without 47 c ≡ true → n < length c → after_of ps e (drop n (c ++ r)) ≡ none
unfolding after_of every
after-inside ps e [] r n h l = absurd (omega arith)
after-inside [] e (b ∷ c) r zero h l = refl
after-inside (p ∷ ps) e (b ∷ c) r zero h l = rw (not-true (eqb b 47) (and_left _ (without 47 c) h))
after-inside ps e (b ∷ c) r (suc n) h l = after-inside ps e c r n (and_right (not (eqb b 47)) (without 47 c) h) (omega arith)

module _ (p : Part) (ok : List ℕ → Bool) (len : List ℕ → ℕ) (scans : Scans p ok len) (ps : List Part) (at : ℕ) where
  step-at : (c r : List ℕ) → Stops r → without 47 c ≡ true
      → tail_of (p ∷ ps) at (c ++ r) ≡ cond (ok (c ++ r)) (added p (take (len (c ++ r)) (c ++ r)) (record { start = at; len = len (c ++ r) }) (after_of ps (at + len (c ++ r)) (drop (len (c ++ r)) (c ++ r)))) none
  step-at c r stops clear = tail-head p ps at c r stops clear ∙ go (fits p c) refl (ok (c ++ r)) refl
    where
      go : (v : Bool) → fits p c ≡ v → (w : Bool) → ok (c ++ r) ≡ w
          → cond v (added p c (record { start = at; len = length c }) (after_of ps (at + length c) r)) none
          ≡ cond w (added p (take (len (c ++ r)) (c ++ r)) (record { start = at; len = len (c ++ r) }) (after_of ps (at + len (c ++ r)) (drop (len (c ++ r)) (c ++ r)))) none
      go true f true g = let n = (scans.whole c r stops clear f).1 in rw (n, take_at c r (length c) refl, drop_at c r (length c) refl)
      go true f false g = let z : false ≡ true = sym g ∙ (scans.whole c r stops clear f).0 in let y : ◌≡◌ {A = ℕ} 0 1 = cc in absurd (omega arith)
      go false f false g = refl
      go false f true g =
          let k = scans.sound (c ++ r) g in
          let n = inside c r (len (c ++ r)) stops k.0 k.1 in
          let short : len (c ++ r) ≡ length c → ⊥ = λ e.
          let same : take (len (c ++ r)) (c ++ r) ≡ c = take_at c r (len (c ++ r)) (sym e) in
          let z : false ≡ true = sym f ∙ rw same at k.2 in
          let y : ◌≡◌ {A = ℕ} 0 1 = cc in omega arith in
          rw (after-inside ps (at + len (c ++ r)) c r (len (c ++ r)) clear (omega (arith, n, short)))

  -- one part of the walk
  pub step : (s : List ℕ) → tail_of (p ∷ ps) at s ≡ cond (ok s) (added p (take (len s) s) (record { start = at; len = len s }) (after_of ps (at + len s) (drop (len s) s))) none
  step s = let h = head_of s in
      ap (λ (x : List ℕ). tail_of (p ∷ ps) at x) h.text ∙ step-at h.component h.rest h.stops h.clear
      ∙ ap (λ (x : List ℕ). cond (ok x) (added p (take (len x) x) (record { start = at; len = len x }) (after_of ps (at + len x) (drop (len x) x))) none) (sym h.text)

  pub step-none : (s : List ℕ) → ok s ≡ false → tail_of (p ∷ ps) at s ≡ none
  step-none s h = step s ∙ rw h

  pub step-some : (s : List ℕ) → ok s ≡ true → tail_of (p ∷ ps) at s ≡ added p (take (len s) s) (record { start = at; len = len s }) (after_of ps (at + len s) (drop (len s) s))
  step-some s h = step s ∙ rw h

-- ---- words
pub scans-word : (w : List ℕ) → without 47 w ≡ true → Scans (word w) (starts_with w) (λ s. length w)
unfolding fits
scans-word w clear = record { sound = sound; whole = whole }
  where
    sound : (s : List ℕ) → starts_with w s ≡ true → (length w ≤ length s) × (without 47 (take (length w) s) ≡ true) × (same (take (length w) s) w ≡ true)
    sound s h =
        let e : take (length w) s ≡ w = ap (λ (x : List ℕ). take (length w) x) (starts_split w s h) ∙ take_at w (drop (length w) s) (length w) refl in
        (starts-room w s h, rw e clear, rw e (same_refl w))

    whole : (c r : List ℕ) → Stops r → without 47 c ≡ true → same c w ≡ true → (starts_with w (c ++ r) ≡ true) × (length w ≡ length c)
    whole c r k h f = let e = same-is c w f in (rw e (starts-whole w r), ap length (sym e))

added-word : (w c : List ℕ) (q : Place) (x : Tail) → added (word w) c q x ≡ x
added-word w c q none = refl
added-word w c q (some v e) = refl

-- after a component: a slash and more, or the end
pub after-slash : (p : Part) (ps : List Part) (e : ℕ) (r : List ℕ) → after_of (p ∷ ps) e r ≡ cond (starts_with (47 ∷ []) r) (tail_of (p ∷ ps) (e + 1) (drop 1 r)) none
unfolding after_of starts_with
after-slash p ps e [] = refl
after-slash p ps e (b ∷ r) = rw (and-true (eqb b 47))

pub after-end : (e : ℕ) (r : List ℕ) → length r ≡ 0 → after_of [] e r ≡ some (carried nowhere nowhere 0 0) true
unfolding after_of
after-end e [] h = refl
after-end e (b ∷ r) h = absurd (omega arith)

pub after_more : (e : ℕ) (r : List ℕ) → 0 < length r → after_of [] e r ≡ none
unfolding after_of
after_more e [] h = absurd (omega arith)
after_more e (b ∷ r) h = refl

cond_chain : (x y : Bool) (a : Tail) → cond x (cond y a none) none ≡ cond (x && y) a none
cond_chain true y a = refl
cond_chain false y a = refl

module _ (w : List ℕ) (clear : without 47 w ≡ true) where
  -- a word and more: the word and its slash
  pub word_more : (q : Part) (ps : List Part) (at : ℕ) (s : List ℕ) → tail_of (word w ∷ (q ∷ ps)) at s ≡ cond (starts_with (w ++ (47 ∷ [])) s) (tail_of (q ∷ ps) (at + length w + 1) (drop (length w + 1) s)) none
  word_more q ps at s =
      step (word w) (starts_with w) (λ x. length w) (scans-word w clear) (q ∷ ps) at s
      ∙ rw (added-word w, after-slash q ps (at + length w) (drop (length w) s), starts-append w (47 ∷ []) s, drop-drop 1 (length w) s)
      (cond_chain (starts_with w s) (starts_with (47 ∷ []) (drop (length w) s)) _)

  -- after a component a slash, a word, and more
  pub after-word : (q : Part) (ps : List Part) (e : ℕ) (r : List ℕ) → after_of (word w ∷ (q ∷ ps)) e r ≡ cond (starts_with (47 ∷ (w ++ (47 ∷ []))) r) (tail_of (q ∷ ps) (e + length w + 2) (drop (length w + 2) r)) none
  after-word q ps e r =
      let i : e + 1 + length w + 1 ≡ e + length w + 2 = omega arith in
      let j : 1 + (length w + 1) ≡ length w + 2 = omega arith in
      after-slash (word w) (q ∷ ps) e r
      ∙ rw (word_more q ps (e + 1) (drop 1 r), starts-append (47 ∷ []) (w ++ (47 ∷ [])) r, drop-drop (length w + 1) 1 r, i, j)
      (cond_chain (starts_with (47 ∷ []) r) (starts_with (w ++ (47 ∷ [])) (drop 1 r)) _)

  -- a slash and a word, and the text's end
  pub after_last : (e : ℕ) (r : List ℕ) → starts_with (47 ∷ w) r ≡ true → length r ≡ length w + 1 → after_of (word w ∷ []) e r ≡ some (carried nowhere nowhere 0 0) true
  after_last e r h l =
      let two : (starts_with (47 ∷ []) r && starts_with w (drop 1 r)) ≡ true = sym (starts-append (47 ∷ []) w r) ∙ h in
      let one = and_left (starts_with (47 ∷ []) r) _ two in
      let long : length (drop (length w) (drop 1 r)) ≡ 0 = simp length-drop (omega arith) in
      after-slash (word w) [] e r
      ∙ rw one (step-some (word w) (starts_with w) (λ x. length w) (scans-word w clear) [] (e + 1) (drop 1 r) (and_right (starts_with (47 ∷ []) r) _ two)
      ∙ added-word w (take (length w) (drop 1 r)) (record { start = e + 1; len = length w }) _ ∙ after-end _ (drop (length w) (drop 1 r)) long)

  pub after-other : (e : ℕ) (r : List ℕ) → starts_with (47 ∷ w) r ≡ false → after_of (word w ∷ []) e r ≡ none
  after-other e r h =
      let two : (starts_with (47 ∷ []) r && starts_with w (drop 1 r)) ≡ false = sym (starts-append (47 ∷ []) w r) ∙ h in
      after-slash (word w) [] e r
      ∙ rw (step (word w) (starts_with w) (λ x. length w) (scans-word w clear) [] (e + 1) (drop 1 r))
      (cond_chain (starts_with (47 ∷ []) r) (starts_with w (drop 1 r)) _ ∙ rw two)

  pub after-longer : (e : ℕ) (r : List ℕ) → (length r ≡ length w + 1 → ⊥) → after_of (word w ∷ []) e r ≡ none
  after-longer e r l = go (starts_with (47 ∷ w) r) refl
    where
      go : (v : Bool) → starts_with (47 ∷ w) r ≡ v → after_of (word w ∷ []) e r ≡ none
      go false h = after-other e r h
      go true h =
          let two : (starts_with (47 ∷ []) r && starts_with w (drop 1 r)) ≡ true = sym (starts-append (47 ∷ []) w r) ∙ h in
          let one = and_left (starts_with (47 ∷ []) r) _ two in
          let room = starts-room (47 ∷ w) r h in
          let long : 0 < length (drop (length w) (drop 1 r)) = simp length-drop (omega (arith, room, l)) in
          after-slash (word w) [] e r
          ∙ rw one (step-some (word w) (starts_with w) (λ x. length w) (scans-word w clear) [] (e + 1) (drop 1 r) (and_right (starts_with (47 ∷ []) r) _ two)
          ∙ added-word w (take (length w) (drop 1 r)) (record { start = e + 1; len = length w }) (after_of [] (e + 1 + length w) (drop (length w) (drop 1 r))) ∙ after_more (e + 1 + length w) (drop (length w) (drop 1 r)) long)

  -- a word alone
  pub word-last : (at : ℕ) (s : List ℕ) → starts_with w s ≡ true → length s ≡ length w → tail_of (word w ∷ []) at s ≡ some (carried nowhere nowhere 0 0) true
  word-last at s h l =
      let long : length (drop (length w) s) ≡ 0 = simp length-drop (omega arith) in
      step-some (word w) (starts_with w) (λ x. length w) (scans-word w clear) [] at s h ∙ added-word w (take (length w) s) (record { start = at; len = length w }) _ ∙ after-end _ (drop (length w) s) long

  pub word-other : (at : ℕ) (s : List ℕ) → starts_with w s ≡ false → tail_of (word w ∷ []) at s ≡ none
  word-other at s h = step-none (word w) (starts_with w) (λ x. length w) (scans-word w clear) [] at s h

  pub word-longer : (at : ℕ) (s : List ℕ) → (length s ≡ length w → ⊥) → tail_of (word w ∷ []) at s ≡ none
  word-longer at s l = go (starts_with w s) refl
    where
      go : (v : Bool) → starts_with w s ≡ v → tail_of (word w ∷ []) at s ≡ none
      go false h = word-other at s h
      go true h =
          let room = starts-room w s h in
          let long : 0 < length (drop (length w) s) = simp length-drop (omega (arith, room, l)) in
          step-some (word w) (starts_with w) (λ x. length w) (scans-word w clear) [] at s h ∙ added-word w (take (length w) s) (record { start = at; len = length w }) (after_of [] (at + length w) (drop (length w) s)) ∙ after_more (at + length w) (drop (length w) s) long
