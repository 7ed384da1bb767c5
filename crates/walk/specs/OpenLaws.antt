-- The first bytes of a text decide which kinds it can be: the others need not be tried.
-- Assumes nothing.
use Rattle.std.specs.Prelude.{ℕ, ◌+◌, ◌≡◌, Bool, false, cond, ◌&&◌, ◌||◌, eqb, drop}
use Rattle.std.proofs.Math.Path.{refl, sym}
use Rattle.std.proofs.Common.{ap, ◌∙◌, eqb-true}
use mathlib.Core.List.{List, [], ◌∷◌, ◌++◌, append_assoc}
use Rattle.std.proofs.Math.Bool.{true}
use native.Mathlib.Omega.{arith}
use Rattle.std.proofs.Math.ListN.{length, length-append}
use Rattle.std.proofs.Math.Seq.{drop-drop}
use Rattle.std.proofs.lemmas.Bool.{eqb-false}
use Rattle.text.specs.Bytes.{bytes}
use Rattle.text.specs.Part.{every, starts_with}
use Rattle.text.specs.PartLaws.{and_left, and_right, starts-append}
use Rattle.path.specs.declared.Place.{Place}
use Rattle.path.specs.TextLaws.{without}
use Rattle.path.specs.Kinds.{Part, word, name, count, pair, Carried, Kind, kinds}
use Rattle.path.specs.Read.{read_first}
use Rattle.path.specs.Reads.{Has, here}
use Rattle.path.specs.View.{kind_of}
use Rattle.walk_scan.specs.Tail.{Tail, none, some, tail_of}
use Rattle.walk_scan.specs.TailLaws.{word_more, word-other}
use Rattle.walk_families.specs.Flat.{walked, flat, listed}
use Rattle.walk_families.specs.FlatLaws.{skip, found, none_left}
use Rattle.walk.specs.Opening.{NoneOf}

pub false_true : {P : Type 0} → false ≡ true → P
false_true h = let z : ◌≡◌ {A = ℕ} 0 1 = cc in absurd (omega arith)

-- ---- the words that a text of these parts starts with, each with its slash
abbrev pub opening : List Part → List ℕ
opening [] = []
opening (word w ∷ []) = w
opening (word w ∷ (q ∷ ps)) = w ++ (47 ∷ opening (q ∷ ps))
opening (name n ∷ ps) = []
opening (count ∷ ps) = []
opening (pair ∷ ps) = []

-- and have no slash in them
abbrev pub clear : List Part → Bool
clear [] = true
clear (word w ∷ ps) = without 47 w && clear ps
clear (name n ∷ ps) = true
clear (count ∷ ps) = true
clear (pair ∷ ps) = true

unopened : (ps : List Part) (at : ℕ) (t : List ℕ) → clear ps ≡ true → starts_with (opening ps) t ≡ false → tail_of ps at t ≡ none
unfolding starts_with
unopened [] at t c h = false_true (sym h)
unopened (word w ∷ []) at t c h = word-other w (and_left (without 47 w) true c) at t h
unopened (word w ∷ (q ∷ ps)) at t c h =
    word_more w (and_left (without 47 w) _ c) q ps at t
    ∙ go (starts_with (w ++ (47 ∷ [])) t) refl (λ k. unopened (q ∷ ps) (at + length w + 1) (drop (length w + 1) t) (and_right (without 47 w) (clear (q ∷ ps)) c) k)
  where
    long : length (w ++ (47 ∷ [])) ≡ length w + 1
    long = length-append w (47 ∷ [])

    split : starts_with (w ++ (47 ∷ opening (q ∷ ps))) t ≡ (starts_with (w ++ (47 ∷ [])) t && starts_with (opening (q ∷ ps)) (drop (length w + 1) t))
    split = ap (λ (l : List ℕ). starts_with l t) (sym (append_assoc w (47 ∷ []) (opening (q ∷ ps)))) ∙ starts-append (w ++ (47 ∷ [])) (opening (q ∷ ps)) t ∙ rw long

    go : (v : Bool) → starts_with (w ++ (47 ∷ [])) t ≡ v → (starts_with (opening (q ∷ ps)) (drop (length w + 1) t) ≡ false → tail_of (q ∷ ps) (at + length w + 1) (drop (length w + 1) t) ≡ none)
        → cond v (tail_of (q ∷ ps) (at + length w + 1) (drop (length w + 1) t)) none ≡ none
    go true e ih = let k : starts_with (opening (q ∷ ps)) (drop (length w + 1) t) ≡ false = rw e at (sym split ∙ h) in ih k
    go false e ih = refl
unopened (name n ∷ ps) at t c h = false_true (sym h)
unopened (count ∷ ps) at t c h = false_true (sym h)
unopened (pair ∷ ps) at t c h = false_true (sym h)

-- ---- a text that starts with u, and kinds that start otherwise
abbrev pub differ : List ℕ → List ℕ → Bool
differ [] v = false
differ (x ∷ u) [] = false
differ (x ∷ u) (y ∷ v) = cond (eqb x y) (differ u v) true

pub differ-starts : (u v t : List ℕ) → differ u v ≡ true → starts_with v t ≡ true → starts_with u t ≡ false
unfolding starts_with
differ-starts [] v t d b = false_true d
differ-starts (x ∷ u) [] t d b = false_true d
differ-starts (x ∷ u) (y ∷ v) [] d b = false_true b
differ-starts (x ∷ u) (y ∷ v) (c ∷ t) d b = go (eqb x y) refl d (eqb c x) refl (λ k. differ-starts u v t k (and_right (eqb c y) (starts_with v t) b))
  where
    go : (w : Bool) → eqb x y ≡ w → cond w (differ u v) true ≡ true → (z : Bool) → eqb c x ≡ z → (differ u v ≡ true → starts_with u t ≡ false) → (z && starts_with u t) ≡ false
    go w e k false f ih = refl
    go true e k true f ih = ih k
    go false e k true f ih = absurd (eqb-false x y e (sym (eqb-true c x f) ∙ eqb-true c y (and_left (eqb c y) (starts_with v t) b)))

abbrev pub keep : List ℕ → List Kind → List Kind
keep u [] = []
keep u (e ∷ es) = cond (differ (opening e.parts) u) (keep u es) (e ∷ keep u es)

abbrev all_clear : List Kind → Bool
all_clear [] = true
all_clear (e ∷ es) = clear e.parts && all_clear es

next : (e : Kind) (es fs : List Kind) (t : List ℕ) → read_first es t ≡ read_first fs t → read_first (e ∷ es) t ≡ read_first (e ∷ fs) t
unfolding read_first
next e es fs t h = rw h

pub only : (u t : List ℕ) → starts_with u t ≡ true → (es : List Kind) → all_clear es ≡ true → read_first es t ≡ read_first (keep u es) t
only u t h [] c = refl
only u t h (e ∷ es) c = go (differ (opening e.parts) u) refl (only u t h es (and_right (clear e.parts) (all_clear es) c))
  where
    go : (v : Bool) → differ (opening e.parts) u ≡ v → read_first es t ≡ read_first (keep u es) t → read_first (e ∷ es) t ≡ read_first (cond v (keep u es) (e ∷ keep u es)) t
    go true d ih = skip e t (unopened e.parts 0 t (and_left (clear e.parts) (all_clear es) c) (differ-starts (opening e.parts) u t d h)) es ∙ ih
    go false d ih = next e es (keep u es) t ih

-- ---- a text that starts with none of hs, and kinds that start with one
abbrev pub begins : List (List ℕ) → List ℕ → Bool
begins [] s = false
begins (h ∷ hs) s = starts_with h s || begins hs s

starts_through : (h s t : List ℕ) → starts_with h s ≡ true → starts_with s t ≡ true → starts_with h t ≡ true
unfolding starts_with
starts_through [] s t a b = refl
starts_through (x ∷ h) [] t a b = false_true a
starts_through (x ∷ h) (y ∷ s) [] a b = false_true b
starts_through (x ∷ h) (y ∷ s) (z ∷ t) a b =
    let p = eqb-true y x (and_left (eqb y x) (starts_with h s) a) in
    let q : eqb z x ≡ true = rw (← p) (and_left (eqb z y) (starts_with s t) b) in
    rw (q, starts_through h s t (and_right (eqb y x) (starts_with h s) a) (and_right (eqb z y) (starts_with s t) b))

pub begins-not : (hs : List (List ℕ)) (s t : List ℕ) → begins hs s ≡ true → NoneOf hs t → starts_with s t ≡ false
begins-not [] s t b n = false_true b
begins-not (h ∷ hs) s t b n = go (starts_with h s) refl b (starts_with s t) refl (λ k. begins-not hs s t k n.1)
  where
    go : (v : Bool) → starts_with h s ≡ v → (v || begins hs s) ≡ true → (w : Bool) → starts_with s t ≡ w → (begins hs s ≡ true → starts_with s t ≡ false) → w ≡ false
    go true e k true f ih = false_true (sym n.0 ∙ starts_through h s t e f)
    go true e k false f ih = refl
    go false e k w f ih = sym f ∙ ih k

abbrev pub keep_not : List (List ℕ) → List Kind → List Kind
keep_not hs [] = []
keep_not hs (e ∷ es) = cond (begins hs (opening e.parts)) (keep_not hs es) (e ∷ keep_not hs es)

rest : (hs : List (List ℕ)) (t : List ℕ) → NoneOf hs t → (es : List Kind) → all_clear es ≡ true → read_first es t ≡ read_first (keep_not hs es) t
rest hs t n [] c = refl
rest hs t n (e ∷ es) c = go (begins hs (opening e.parts)) refl (rest hs t n es (and_right (clear e.parts) (all_clear es) c))
  where
    go : (v : Bool) → begins hs (opening e.parts) ≡ v → read_first es t ≡ read_first (keep_not hs es) t → read_first (e ∷ es) t ≡ read_first (cond v (keep_not hs es) (e ∷ keep_not hs es)) t
    go true d ih = skip e t (unopened e.parts 0 t (and_left (clear e.parts) (all_clear es) c) (begins-not hs (opening e.parts) t d n)) es ∙ ih
    go false d ih = next e es (keep_not hs es) t ih

-- ---- one kind alone
pub single : (e : Kind) (t : List ℕ) (k : ℕ) → Has kinds e → ((v : Carried Place) → kind_of (e.make v) ≡ k) → walked k (tail_of e.parts 0 t) ≡ flat t (read_first (e ∷ []) t)
single e t k has number = go (tail_of e.parts 0 t) refl
  where
    go : (x : Tail) → tail_of e.parts 0 t ≡ x → walked k x ≡ flat t (read_first (e ∷ []) t)
    go none h = sym (ap (flat t) (skip e t h []) ∙ none_left t)
    go (some v x) h = found e t {es = e ∷ []} here refl has k number v x h

listed-clear : all_clear listed ≡ true
unfolding listed every
listed-clear = refl

module _ (t : List ℕ) where
  -- what the families ask of a text that starts so
  pub only-listed : (u : List ℕ) → starts_with u t ≡ true → read_first listed t ≡ read_first (keep u listed) t
  only-listed u h = only u t h listed listed-clear

  pub rest-listed : (hs : List (List ℕ)) → NoneOf hs t → read_first listed t ≡ read_first (keep_not hs listed) t
  rest-listed hs n = rest hs t n listed listed-clear

  -- a kind whose words do not stand there
  pub shut : (e : Kind) → clear e.parts ≡ true → starts_with (opening e.parts) t ≡ false → (es : List Kind) → read_first (e ∷ es) t ≡ read_first es t
  shut e c h es = skip e t (unopened e.parts 0 t c h) es

  -- `W/ports/`, and what follows
  pub after-ports : (w : List ℕ) → without 47 w ≡ true → (q : Part) (ps : List Part) → starts_with (w ++ bytes "/ports/") t ≡ true → tail_of (word w ∷ (word (bytes "ports") ∷ (q ∷ ps))) 0 t ≡ tail_of (q ∷ ps) (length w + 7) (drop (length w + 7) t)
  unfolding every
  after-ports w c q ps h =
      let long : length (w ++ (47 ∷ [])) ≡ length w + 1 = length-append w (47 ∷ []) in
      let two : (starts_with (w ++ (47 ∷ [])) t && starts_with (bytes "ports/") (drop (length w + 1) t)) ≡ true
      = sym (ap (λ (l : List ℕ). starts_with l t) (sym (append_assoc w (47 ∷ []) (bytes "ports/"))) ∙ starts-append (w ++ (47 ∷ [])) (bytes "ports/") t ∙ rw long) ∙ h in
      let i : length w + 1 + 6 ≡ length w + 7 = omega arith in
      let j : 0 + length w + 1 + 5 + 1 ≡ length w + 7 = omega arith in
      word_more w c (word (bytes "ports")) (q ∷ ps) 0 t
      ∙ rw (and_left (starts_with (w ++ (47 ∷ [])) t) _ two)
      (word_more (bytes "ports") refl q ps (0 + length w + 1) (drop (length w + 1) t)
      ∙ rw (and_right (starts_with (w ++ (47 ∷ [])) t) _ two, drop-drop 6 (length w + 1) t, i, j))
