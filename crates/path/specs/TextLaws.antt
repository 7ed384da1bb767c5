-- Laws of a text's components and places: what stands at the places are the components, and joining them gives the text back.
-- Assumes nothing.
use Rattle.std.specs.Prelude.{ℕ, zero, suc, ◌+◌, ◌-◌, ◌≤◌, ◌<◌, ◌≡◌, Bool, false, not, ◌&&◌, eqb, length, take, drop, get_or}
use Rattle.std.proofs.Math.Path.{refl}
use Rattle.std.proofs.Common.{sym, ap, ◌∙◌, arith, suc-add, length-append, drop_at, le-leb, eq-eqb, eqb-true}
use mathlib.Core.List.{List, [], ◌∷◌, ◌++◌, map}
use Rattle.std.proofs.Math.Bool.{true}
use Rattle.std.proofs.Math.ListN.{get_or-map}
use Rattle.std.proofs.lemmas.List.{length-map}
use Rattle.std.proofs.Math.Seq.{append_snoc}
use Rattle.std.proofs.lemmas.Bool.{not-true}
use Rattle.text.specs.Part.{every}
use Rattle.text.specs.PartLaws.{and_left, and_right}
use Rattle.path.specs.declared.Place.{Place}
use Rattle.path.specs.Text.{components, component, cut_at, join_by, onto, cut_step, place_step, places, places_from, place_at, longer, part_of, nowhere, shown_of}

-- ---- the places of the components
-- places that stand one after the other, a byte between two, the last of them up to e
abbrev Chain : List Place → ℕ → Type 0
Chain [] e = ⊥
Chain (p ∷ []) e = p.start + p.len ≡ e
Chain (p ∷ (q ∷ ps)) e = (p.start + p.len + 1 ≡ q.start) × Chain (q ∷ ps) e

-- the first place starts at i
abbrev From : ℕ → List Place → Type 0
From i [] = ⊥
From i (p ∷ ps) = p.start ≡ i

chain-slash : (i e : ℕ) (ps : List Place) → From (i + 1) ps → Chain ps e → Chain (record { start = i; len = 0 } ∷ ps) e
chain-slash i e [] f h = absurd f
chain-slash i e (p ∷ ps) f h = (omega arith, h)

chain-longer : (i e : ℕ) (ps : List Place) → From (i + 1) ps → Chain ps e → Chain (longer i ps) e
chain-longer i e [] f h = absurd f
chain-longer i e (p ∷ []) f h = omega arith
chain-longer i e (p ∷ (q ∷ ps)) f h = (omega arith, h.1)

from-longer : (i : ℕ) (ps : List Place) → From i (longer i ps)
from-longer i [] = refl
from-longer i (p ∷ ps) = refl

places_chain : (i : ℕ) (t : List ℕ) → From i (places_from i t) × Chain (places_from i t) (i + length t)
unfolding places_from
places_chain i [] = (refl, refl)
places_chain i (b ∷ t) = go (eqb b 47) (places_chain (i + 1) t)
  where
    same_end : i + 1 + length t ≡ i + suc (length t)
    same_end = omega arith

    go : (v : Bool) → From (i + 1) (places_from (i + 1) t) × Chain (places_from (i + 1) t) (i + 1 + length t)
        → From i (place_step v i (places_from (i + 1) t))
        × Chain (place_step v i (places_from (i + 1) t)) (i + suc (length t))
    go true h = (refl, chain-slash i _ (places_from (i + 1) t) h.0 (rw same_end at h.1))
    go false h = (from-longer i (places_from (i + 1) t), chain-longer i _ (places_from (i + 1) t) h.0 (rw same_end at h.1))

chain_next : (ps : List Place) (e k : ℕ) → Chain ps e → k + 1 < length ps → (get_or ps k nowhere).start + (get_or ps k nowhere).len + 1 ≡ (get_or ps (k + 1) nowhere).start
chain_next [] e k h l = absurd h
chain_next (p ∷ []) e k h l = absurd (omega arith)
chain_next (p ∷ (q ∷ ps)) e zero h l = h.0
chain_next (p ∷ (q ∷ ps)) e (suc k) h l = rw (suc-add) (chain_next (q ∷ ps) e k h.1 (omega arith))

chain-last : (ps : List Place) (e k : ℕ) → Chain ps e → k + 1 ≡ length ps → (get_or ps k nowhere).start + (get_or ps k nowhere).len ≡ e
chain-last [] e k h l = absurd h
chain-last (p ∷ []) e zero h l = h
chain-last (p ∷ []) e (suc k) h l = absurd (omega arith)
chain-last (p ∷ (q ∷ ps)) e zero h l = absurd (omega arith)
chain-last (p ∷ (q ∷ ps)) e (suc k) h l = chain-last (q ∷ ps) e k h.1 (omega arith)

chain-within : (ps : List Place) (e k : ℕ) → Chain ps e → (get_or ps k nowhere).start + (get_or ps k nowhere).len ≤ e
chain-within [] e k h = absurd h
chain-within (p ∷ []) e zero h = omega arith
chain-within (p ∷ []) e (suc k) h = omega arith
chain-within (p ∷ (q ∷ ps)) e zero h = omega (arith, chain-within (q ∷ ps) e zero h.1)
chain-within (p ∷ (q ∷ ps)) e (suc k) h = chain-within (q ∷ ps) e k h.1

module _ (t : List ℕ) (k : ℕ) where
  -- the next component starts after the slash
  pub place-next : k + 1 < length (places t) → (place_at t k).start + (place_at t k).len + 1 ≡ (place_at t (k + 1)).start
  place-next h = chain_next (places t) (0 + length t) k (places_chain 0 t).1 h

  -- the last component ends where the text does
  pub place-last : k + 1 ≡ length (places t) → (place_at t k).start + (place_at t k).len ≡ length t
  place-last h = let e : 0 + length t ≡ length t = omega arith in chain-last (places t) (0 + length t) k (places_chain 0 t).1 h ∙ e

  -- each component lies in the text
  pub place-within : (place_at t k).start + (place_at t k).len ≤ length t
  place-within = let e : 0 + length t ≡ length t = omega arith in omega (arith, chain-within (places t) (0 + length t) k (places_chain 0 t).1)

-- ---- what stands at the places are the components
part-seam : (u : List ℕ) (i n b : ℕ) (t : List ℕ) → length u ≡ i → take (suc n) (drop i (u ++ b ∷ t)) ≡ b ∷ take n (drop (i + 1) (u ++ b ∷ t))
part-seam u i n b t e =
    let l : length (u ++ b ∷ []) ≡ i + 1 = simp length-append (omega arith) in
    rw (drop_at u (b ∷ t) i e, ← append_snoc u b t, drop_at (u ++ b ∷ []) t (i + 1) l)

parts-longer : (x : List ℕ) (i b : ℕ) (ps : List Place) (cs : List (List ℕ))
    → ((n : ℕ) → take (suc n) (drop i x) ≡ b ∷ take n (drop (i + 1) x))
    → From (i + 1) ps → map (part_of x) ps ≡ cs → map (part_of x) (longer i ps) ≡ onto b cs
parts-longer x i b [] cs h f e = absurd f
parts-longer x i b (p ∷ ps) cs h f e =
    rw (← e, h p.len, f)

parts_from : (u : List ℕ) (i : ℕ) (t : List ℕ) → length u ≡ i → map (part_of (u ++ t)) (places_from i t) ≡ components t
unfolding places_from cut_at
parts_from u i [] e = refl
parts_from u i (b ∷ t) e =
    let l : length (u ++ b ∷ []) ≡ i + 1 = simp length-append (omega arith) in
    go (eqb b 47) (rw append_snoc at (parts_from (u ++ b ∷ []) (i + 1) t l))
  where
    go : (v : Bool) → map (part_of (u ++ b ∷ t)) (places_from (i + 1) t) ≡ components t
        → map (part_of (u ++ b ∷ t)) (place_step v i (places_from (i + 1) t))
        ≡ cut_step v b (components t)
    go true h = ap (λ (r : List (List ℕ)). [] ∷ r) h
    go false h = parts-longer (u ++ b ∷ t) i b (places_from (i + 1) t) (components t) (λ n. part-seam u i n b t e) (places_chain (i + 1) t).0 h

pub parts : (t : List ℕ) → map (part_of t) (places t) ≡ components t
parts t = parts_from [] 0 t refl

pub count-components : (t : List ℕ) → length (places t) ≡ length (components t)
count-components t = sym (length-map (places t) (part_of t)) ∙ ap length (parts t)

pub part-component : (t : List ℕ) (k : ℕ) → part_of t (place_at t k) ≡ component t k
part-component t k = sym (get_or-map (part_of t) (places t) k nowhere) ∙ rw (parts t)

pub shown-component : (t : List ℕ) (k : ℕ) → shown_of t (place_at t k) ≡ component t k
unfolding shown_of
shown-component t k =
    let a : (place_at t k).start ≤ length t = omega (arith, place-within t k) in
    let b : (place_at t k).len ≤ length t - (place_at t k).start = omega (arith, place-within t k) in
    simp (le-leb _ _ a, le-leb _ _ b) (part-component t k)

-- what a part at the place of component k holds, by what `place_at` and `part` ensure
pub shown-is : (t l : List ℕ) (k : ℕ) (p : Place) → p ≡ place_at t k → l ≡ shown_of t p → l ≡ component t k
shown-is t l k p e f = f ∙ ap (shown_of t) e ∙ shown-component t k

-- ---- joined and cut again
-- no byte is x
abbrev pub without : ℕ → List ℕ → Bool
without x c = every (λ b. not (eqb b x)) c

abbrev pub all_without : ℕ → List (List ℕ) → Bool
all_without x [] = true
all_without x (c ∷ cs) = without x c && all_without x cs

-- in front of one text or more stands the byte
pub join-cons : (x : ℕ) (c : List ℕ) (cs : List (List ℕ)) → 0 < length cs → join_by x (c ∷ cs) ≡ c ++ (x ∷ join_by x cs)
unfolding join_by
join-cons x c [] h = absurd (omega arith)
join-cons x c (d ∷ cs) h = refl

join-onto : (x b : ℕ) (cs : List (List ℕ)) → 0 < length cs → join_by x (onto b cs) ≡ b ∷ join_by x cs
unfolding join_by
join-onto x b [] h = absurd (omega arith)
join-onto x b (c ∷ []) h = refl
join-onto x b (c ∷ (d ∷ cs)) h = refl

pub cut-some : (x : ℕ) (t : List ℕ) → 0 < length (cut_at x t)
unfolding cut_at
cut-some x [] = omega arith
cut-some x (b ∷ t) = go (eqb b x) (cut_at x t)
  where
    go : (v : Bool) (cs : List (List ℕ)) → 0 < length (cut_step v b cs)
    go true cs = omega arith
    go false [] = omega arith
    go false (c ∷ cs) = omega arith

-- a text that is cut and joined again is the text
pub join-cut : (x : ℕ) (t : List ℕ) → join_by x (cut_at x t) ≡ t
unfolding cut_at join_by
join-cut x [] = refl
join-cut x (b ∷ t) = go (join-cut x t) (eqb b x) refl
  where
    go : join_by x (cut_at x t) ≡ t → (v : Bool) → eqb b x ≡ v → join_by x (cut_step v b (cut_at x t)) ≡ b ∷ t
    go h true e = join-cons x [] (cut_at x t) (cut-some x t) ∙ rw (h, eqb-true b x e)
    go h false e = join-onto x b (cut_at x t) (cut-some x t) ∙ rw h

pub cut-one : (x : ℕ) (c : List ℕ) → without x c ≡ true → cut_at x c ≡ c ∷ []
unfolding cut_at every
cut-one x [] h = refl
cut-one x (b ∷ c) h = rw (not-true (eqb b x) (and_left _ (without x c) h), cut-one x c (and_right (not (eqb b x)) (without x c) h))

pub cut-more : (x : ℕ) (c t : List ℕ) → without x c ≡ true → cut_at x (c ++ (x ∷ t)) ≡ c ∷ cut_at x t
unfolding cut_at every
cut-more x [] t h = rw (eq-eqb x x refl)
cut-more x (b ∷ c) t h = rw (not-true (eqb b x) (and_left _ (without x c) h), cut-more x c t (and_right (not (eqb b x)) (without x c) h))

-- texts without the byte that are joined and cut again are these texts
pub cut-join : (x : ℕ) (c : List ℕ) (cs : List (List ℕ)) → all_without x (c ∷ cs) ≡ true → cut_at x (join_by x (c ∷ cs)) ≡ c ∷ cs
unfolding join_by
cut-join x c [] h = cut-one x c (and_left (without x c) true h)
cut-join x c (d ∷ cs) h = cut-more x c (join_by x (d ∷ cs)) (and_left (without x c) _ h) ∙ rw (cut-join x d cs (and_right (without x c) _ h))

-- ---- tests on each byte
module _ (f : ℕ → Bool) where
  pub every_append : (a b : List ℕ) → every f a ≡ true → every f b ≡ true → every f (a ++ b) ≡ true
  unfolding every
  every_append [] b h k = k
  every_append (x ∷ a) b h k = rw (and_left (f x) (every f a) h) (every_append a b (and_right (f x) (every f a) h) k)

  -- a test that holds at each place
  pub every-all : (s : List ℕ) → ((i : ℕ) → i < length s → f (get_or s i 0) ≡ true) → every f s ≡ true
  unfolding every
  every-all [] h = refl
  every-all (x ∷ s) h = rw (h 0 (omega arith)) (every-all s (λ i l. h (suc i) (omega arith)))

  -- a test that follows from two
  pub every-both : (g e : ℕ → Bool) → ((b : ℕ) → g b ≡ true → e b ≡ true → f b ≡ true) → (s : List ℕ) → every g s ≡ true → every e s ≡ true → every f s ≡ true
  unfolding every
  every-both g e r [] h k = refl
  every-both g e r (x ∷ s) h k =
      rw (r x (and_left (g x) (every g s) h) (and_left (e x) (every e s) k))
      (every-both g e r s (and_right (g x) (every g s) h) (and_right (e x) (every e s) k))

  -- a test that holds of each byte of each text holds of the texts joined
  abbrev pub every_in : List (List ℕ) → Bool
  every_in [] = true
  every_in (c ∷ cs) = every f c && every_in cs

  pub every-join : (x : ℕ) (cs : List (List ℕ)) → f x ≡ true → every_in cs ≡ true → every f (join_by x cs) ≡ true
  unfolding every join_by
  every-join x [] h k = refl
  every-join x (c ∷ []) h k = and_left (every f c) true k
  every-join x (c ∷ (d ∷ cs)) h k = every_append c (x ∷ join_by x (d ∷ cs)) (and_left (every f c) _ k) (rw h (every-join x (d ∷ cs) h (and_right (every f c) _ k)))
