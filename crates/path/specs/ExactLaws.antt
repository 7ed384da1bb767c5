-- A rendering is no longer than the text that it was read from, and it is that text where it is as long: the reader decides the exact mark by lengths.
-- Assumes nothing.
use Rattle.std.specs.Prelude.{ℕ, suc, ◌+◌, ◌≤◌, ◌<◌, ◌≡◌, refl, List, [], ◌∷◌, ◌++◌, map, Bool, true, false, ◌&&◌, eqb, length, get_or, drop, Ok, Err}
use Rattle.std.proofs.Common.{sym, ap, ◌∙◌, le_refl, add-one, length-append, length-drop, drop_of_length-le, drop-cons}
use Rattle.std.proofs.Math.Bool.{and-true}
use native.Mathlib.Omega.{arith}
use borrow.Author.Tests.{eqb-true, eqb-false, eq-eqb, ne_eqb}
use Rattle.text.specs.Number.{Numeral, numeral_of, decimal}
use Rattle.text.specs.NumberLaws.{NoLonger, decimal-no-longer}
use Rattle.text.specs.Part.{same}
use Rattle.text.specs.PartLaws.{and_left, and_right, same-is, same_refl, same_not}
use Rattle.identifiers.specs.Check.{is_value}
use Rattle.path.specs.declared.Place.{Place}
use Rattle.path.specs.declared.Path.{Path}
use Rattle.path.specs.Text.{components, component, cut_at, join_by, join, place_at, part_of}
use Rattle.path.specs.TextLaws.{part-component, join-cons, join-cut}
use Rattle.path.specs.Kinds.{Part, word, name, count, pair, Carried, Kind, kinds, name_in, set_name}
use Rattle.path.specs.declared.name.Name.{Name}
use Rattle.path.specs.declared.name.Name.TheVariants.{Client as client, Connection as connection, Port as port, Channel as channel, Upgrade as upgrade}
use Rattle.path.specs.Spelled.{spelled, spelled_from}
use Rattle.path.specs.Read.{value_of, is_number, number_in, are_pair, fits, adds, carried_from, fit_from, component_count, fits_kind, show, shown, render, texts_of, render_path}
use Rattle.path.specs.Reads.{Has, Reads}
use Rattle.path.specs.ReadLaws.{has_both, made-parts, made-carried}

-- ---- texts
no-longer-same : (c : List ℕ) → NoLonger c c
no-longer-same c = (le_refl (length c), λ e. refl)

no-longer-append : (x : ℕ) (a b c d : List ℕ) → NoLonger a c → NoLonger b d → NoLonger (a ++ (x ∷ b)) (c ++ (x ∷ d))
no-longer-append x a b c d l m =
    (simp length-append (omega arith), λ e. let s : length a + suc (length b) ≡ length c + suc (length d) = simp length-append at e in rw (l.1 (omega arith), m.1 (omega arith)))

-- ---- one component
pub value-is : (x : Numeral) → is_value x ≡ true → x ≡ Ok (value_of x)
value-is (Ok n) h = refl
value-is (Err fault) h = let z : ◌≡◌ {A = ℕ} 0 1 = cc in absurd (omega arith)

number-no-longer : (c : List ℕ) → is_number c ≡ true → NoLonger (decimal (number_in c)) c
number-no-longer c h = decimal-no-longer c (number_in c) (value-is (numeral_of c) h)

pair-no-longer : (cs : List (List ℕ)) → are_pair cs ≡ true → NoLonger (decimal (number_in (get_or cs 0 [])) ++ (45 ∷ decimal (number_in (get_or cs 1 [])))) (join_by 45 cs)
unfolding join_by
pair-no-longer [] h = let z : ◌≡◌ {A = ℕ} 0 1 = cc in absurd (omega arith)
pair-no-longer (r ∷ []) h = let z : ◌≡◌ {A = ℕ} 0 1 = cc in absurd (omega arith)
pair-no-longer (r ∷ (s ∷ [])) h = no-longer-append 45 _ _ r s (number-no-longer r (and_left (is_number r) (is_number s) h)) (number-no-longer s (and_right (is_number r) (is_number s) h))
pair-no-longer (r ∷ (s ∷ (x ∷ xs))) h = let z : ◌≡◌ {A = ℕ} 0 1 = cc in absurd (omega arith)

pub name_set : (n : Name) (t : List ℕ) (p : Place) (v : Carried Place) → name_in n (texts_of t (set_name n p v)) ≡ part_of t p
name_set client t p v = refl
name_set connection t p v = refl
name_set port t p v = refl
name_set channel t p v = refl
name_set upgrade t p v = refl

-- what is rendered of component k of t, read as the part p
abbrev pub own : Part → ℕ → List ℕ → List ℕ
own p k t = show p (texts_of t (adds p (component t k) (place_at t k) (carried_from 0 [] t)))

own-no-longer : (p : Part) (k : ℕ) (t : List ℕ) → fits p (component t k) ≡ true → NoLonger (own p k t) (component t k)
unfolding fits show
own-no-longer (word w) k t h = rw (same-is (component t k) w h) (no-longer-same w)
own-no-longer (name n) k t h = rw (name_set n t (place_at t k), part-component t k) (no-longer-same (component t k))
own-no-longer count k t h = number-no-longer (component t k) h
own-no-longer pair k t h = rw (join-cut 45 (component t k)) at (pair-no-longer (cut_at 45 (component t k)) h)

-- ---- all components from the k-th on
abbrev pub own_from : ℕ → List Part → List ℕ → List (List ℕ)
own_from k [] t = []
own_from k (p ∷ ps) t = own p k t ∷ own_from (k + 1) ps t

all-no-longer : (k : ℕ) (ps : List Part) (t : List ℕ) → k + length ps ≡ component_count t → fit_from k ps t ≡ true → NoLonger (join (own_from k ps t)) (join (drop k (components t)))
unfolding join_by
all-no-longer k [] t h f = let l : component_count t ≤ k = omega arith in rw (drop_of_length-le (components t) l) (no-longer-same [])
all-no-longer k (p ∷ []) t h f =
    let l : k < component_count t = omega arith in
    let m : component_count t ≤ suc k = omega arith in
    rw (drop-cons (components t) k [] l, drop_of_length-le (components t) m) (own-no-longer p k t (and_left (fits p (component t k)) true f))
all-no-longer k (p ∷ (q ∷ ps)) t h f =
    let l : k < component_count t = omega arith in
    let m : 0 < length (drop (k + 1) (components t)) = simp length-drop (omega arith) in
    rw (drop-cons (components t) k [] l, ← add-one k, join-cons 47 (component t k) (drop (k + 1) (components t)) m)
    (no-longer-append 47 _ _ _ _ (own-no-longer p k t (and_left (fits p (component t k)) _ f)) (all-no-longer (k + 1) (q ∷ ps) t (omega arith) (and_right (fits p (component t k)) _ f)))

-- ---- the same, seen from the components: only a number has more than one spelling
own-spelled : (p : Part) (k : ℕ) (t : List ℕ) → fits p (component t k) ≡ true → spelled p (component t k) ≡ eqb (length (own p k t)) (length (component t k))
unfolding fits show
own-spelled (word w) k t h = rw (same-is (component t k) w h) (sym (eq-eqb (length w) (length w) refl))
own-spelled (name n) k t h = rw (name_set n t (place_at t k), part-component t k) (sym (eq-eqb (length (component t k)) (length (component t k)) refl))
own-spelled count k t h = refl
own-spelled pair k t h = rw length-append

eqb-sum : (a b c d : ℕ) → a ≤ c → b ≤ d → (eqb a c && eqb b d) ≡ eqb (a + suc b) (c + suc d)
eqb-sum a b c d l m = go (eqb a c) refl (eqb b d) refl
  where
    go : (v : Bool) → eqb a c ≡ v → (w : Bool) → eqb b d ≡ w → (v && w) ≡ eqb (a + suc b) (c + suc d)
    go true e true f = sym (eq-eqb (a + suc b) (c + suc d) (omega (arith, eqb-true a c e, eqb-true b d f)))
    go true e false f = sym (ne_eqb (a + suc b) (c + suc d) (λ x. eqb-false b d f (omega arith)))
    go false e w f = sym (ne_eqb (a + suc b) (c + suc d) (λ x. eqb-false a c e (omega arith)))

all-spelled : (k : ℕ) (ps : List Part) (t : List ℕ) → k + length ps ≡ component_count t → fit_from k ps t ≡ true
    → spelled_from k ps t ≡ eqb (length (join (own_from k ps t))) (length (join (drop k (components t))))
unfolding join_by
all-spelled k [] t h f = let l : component_count t ≤ k = omega arith in rw (drop_of_length-le (components t) l)
all-spelled k (p ∷ []) t h f =
    let l : k < component_count t = omega arith in
    let m : component_count t ≤ suc k = omega arith in
    rw (drop-cons (components t) k [] l, drop_of_length-le (components t) m) (and-true (spelled p (component t k)) ∙ own-spelled p k t (and_left (fits p (component t k)) true f))
all-spelled k (p ∷ (q ∷ ps)) t h f =
    let l : k < component_count t = omega arith in
    let m : 0 < length (drop (k + 1) (components t)) = simp length-drop (omega arith) in
    let c = and_left (fits p (component t k)) _ f in
    let r = and_right (fits p (component t k)) _ f in
    rw (
      drop-cons (components t) k [] l,
      ← add-one k,
      join-cons 47 (component t k) (drop (k + 1) (components t)) m,
      length-append (own p k t),
      length-append (component t k),
      own-spelled p k t c,
      all-spelled (k + 1) (q ∷ ps) t (omega arith) r,
    )
    (eqb-sum _ _ _ _ (own-no-longer p k t c).0 (all-no-longer (k + 1) (q ∷ ps) t (omega arith) r).0)

-- ---- a kind
-- each part of a kind renders what its own component adds
shown-all : (t : List ℕ) → map (λ e. shown e.parts (texts_of t (carried_from 0 e.parts t))) kinds ≡ map (λ e. own_from 0 e.parts t) kinds
unfolding show kinds
shown-all t = refl

module _ {e : Kind} (m : Has kinds e) (t : List ℕ) where
  abbrev made : Path
  made = e.make (carried_from 0 e.parts t)

  pub render-made : render_path t made ≡ render e.parts (texts_of t (carried_from 0 e.parts t))
  unfolding render_path
  render-made = rw (made-parts m (carried_from 0 e.parts t), made-carried m t)

  pub shown-made : shown e.parts (texts_of t (carried_from 0 e.parts t)) ≡ own_from 0 e.parts t
  shown-made = has_both (λ x. shown x.parts (texts_of t (carried_from 0 x.parts t))) (λ x. own_from 0 x.parts t) m (shown-all t)

  module _ (f : fits_kind e t ≡ true) where
    each : (0 + length e.parts ≡ component_count t) × (fit_from 0 e.parts t ≡ true)
    unfolding fits_kind
    each =
        let n = eqb-true (component_count t) (length e.parts) (and_left _ (fit_from 0 e.parts t) f) in
        (omega arith, and_right (eqb (component_count t) (length e.parts)) _ f)

    kind-no-longer : NoLonger (render_path t made) t
    unfolding render
    kind-no-longer = rw (render-made, shown-made) (rw (join-cut 47 t) at (all-no-longer 0 e.parts t each.0 each.1))

    kind-spelled : spelled_from 0 e.parts t ≡ eqb (length (render_path t made)) (length t)
    unfolding render
    kind-spelled = rw (render-made, shown-made) (rw (join-cut 47 t) at (all-spelled 0 e.parts t each.0 each.1))

module _ {t : List ℕ} {p : Path} (r : Reads t p) where
  rendering : NoLonger (render_path t p) t
  rendering = rw r.made (kind-no-longer r.listed t r.fitting)

  pub rendering-not-longer : length (render_path t p) ≤ length t
  rendering-not-longer = rendering.0

  -- a reading is exact where its rendering is as long as the text
  pub exact-by-length : same t (render_path t p) ≡ eqb (length (render_path t p)) (length t)
  exact-by-length = go (eqb (length (render_path t p)) (length t)) refl
    where
      go : (v : Bool) → eqb (length (render_path t p)) (length t) ≡ v → same t (render_path t p) ≡ v
      go true e = rw (rendering.1 (eqb-true _ _ e)) (same_refl t)
      go false e = same_not t (render_path t p) (λ x. eqb-false (length (render_path t p)) (length t) e (ap length (sym x)))

  -- where each number of it is spelled as it is rendered
  pub exact-by_spelling : same t (render_path t p) ≡ spelled_from 0 r.kind.parts t
  exact-by_spelling = exact-by-length ∙ rw r.made (sym (kind-spelled r.listed t r.fitting))
