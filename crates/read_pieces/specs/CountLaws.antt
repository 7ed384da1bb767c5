-- The number of components decides which kinds can be read, and the first word between two readers.
-- Assumes nothing.
use Rattle.std.specs.Prelude.{ℕ, ◌<◌, ◌≡◌, refl, Bool, true, false, cond, ◌&&◌, List, [], ◌∷◌, ◌++◌, eqb, length, Option, Some, None, is_some}
use Rattle.std.proofs.Common.{sym, ◌∙◌, arith, lit<, eqb-true, ne_eqb}
use Rattle.std.proofs.Math.Bool.{and-false}
use Rattle.std.proofs.lemmas.Bool.{false≢true, true≢false}
use Rattle.text.specs.Bytes.{bytes}
use Rattle.text.specs.Part.{same}
use Rattle.text.specs.PartLaws.{and_left, and_right, same-is}
use Rattle.identifiers.specs.Check.{among}
use Rattle.path.specs.declared.Path.{Path}
use Rattle.path.specs.declared.Cut.{Cut}
use Rattle.path.specs.TextLaws.{count-components}
use Rattle.path.specs.Cut.{cut_of}
use Rattle.read_pieces.specs.CutLaws.{cut-count}
use Rattle.path.specs.Text.{component}
use Rattle.path.specs.Kinds.{Part, Kind, kinds, kind1, kind2, kind3, kind4, kind5, kind6, kind7, kind8, kind9, kind10, kind11, kind12, kind13, kind14, kind15, kind16, kind17, kind18, kind19}
use Rattle.path.specs.Read.{component_count, fits, fit_from, carried_from, fits_kind, read_kind, or_else, read_first}

abbrev pub keep : Bool → Kind → List Kind → List Kind
keep true e es = e ∷ es
keep false e es = es

-- those of the kinds that have n parts
unfoldable pub those : ℕ → List Kind → List Kind
those n [] = []
those n (e ∷ es) = keep (eqb n (length e.parts)) e (those n es)

-- a kind with another number of parts reads nothing
other-count : (e : Kind) (t : List ℕ) → eqb (component_count t) (length e.parts) ≡ false → read_kind e t ≡ None
unfolding read_kind fits_kind
other-count e t h = rw h

pub read-those : (es : List Kind) (t : List ℕ) (n : ℕ) → component_count t ≡ n → read_first es t ≡ read_first (those n es) t
unfolding read_first those
read-those [] t n h = refl
read-those (e ∷ es) t n h = go (eqb n (length e.parts)) refl (read-those es t n h)
  where
    go : (v : Bool) → eqb n (length e.parts) ≡ v → read_first es t ≡ read_first (those n es) t → or_else (read_kind e t) (read_first es t) ≡ read_first (keep v e (those n es)) t
    go true k ih = rw ih
    go false k ih = rw (other-count e t (rw h k)) ih

-- the kinds of one group, and then those of another
pub read-append : (es fs : List Kind) (t : List ℕ) → read_first (es ++ fs) t ≡ or_else (read_first es t) (read_first fs t)
unfolding read_first
read-append [] fs t = refl
read-append (e ∷ es) fs t = go (read_kind e t) (read-append es fs t)
  where
    go : (a : Option Path) → read_first (es ++ fs) t ≡ or_else (read_first es t) (read_first fs t) → or_else a (read_first (es ++ fs) t) ≡ or_else (or_else a (read_first es t)) (read_first fs t)
    go (Some p) ih = refl
    go None ih = ih

-- no kind has that number of parts
abbrev lengths_in : List ℕ → List Kind → Bool
lengths_in ns [] = true
lengths_in ns (e ∷ es) = among (length e.parts) ns && lengths_in ns es

read-other : (ns : List ℕ) (es : List Kind) (t : List ℕ) → lengths_in ns es ≡ true → among (component_count t) ns ≡ false → None ≡ read_first es t
unfolding read_first
read-other ns [] t l h = refl
read-other ns (e ∷ es) t l h =
    go (eqb (component_count t) (length e.parts)) refl (and_left (among (length e.parts) ns) _ l) (read-other ns es t (and_right (among (length e.parts) ns) _ l) h)
  where
    go : (v : Bool) → eqb (component_count t) (length e.parts) ≡ v → among (length e.parts) ns ≡ true → None ≡ read_first es t → None ≡ or_else (read_kind e t) (read_first es t)
    go true k a ih =
        let s : component_count t ≡ length e.parts = eqb-true (component_count t) (length e.parts) k in
        let z : ◌≡◌ {A = ℕ} 0 1 = cc in absurd (omega arith)
    go false k a ih = rw (other-count e t k) ih

-- ---- the table: every kind has 1, 2, 3, 4, 5 or 7 parts
abbrev counts : List ℕ
counts = 1 ∷ 2 ∷ 3 ∷ 4 ∷ 5 ∷ 7 ∷ []

kinds-counts : lengths_in counts kinds ≡ true
unfolding among kinds
kinds-counts = refl

module _ (t : List ℕ) (c : Cut) (e : c ≡ cut_of t) where
  pub few : (n : ℕ) → n < 8 → (c.count ≡ n → ⊥) → eqb (component_count t) n ≡ false
  few n l h = ne_eqb (component_count t) n (λ x. h (omega (arith, cut-count t c e, count-components t)))

  pub read_none : (c.count ≡ 1 → ⊥) → (c.count ≡ 2 → ⊥) → (c.count ≡ 3 → ⊥) → (c.count ≡ 4 → ⊥) → (c.count ≡ 5 → ⊥) → (c.count ≡ 7 → ⊥) → None ≡ read_first kinds t
  unfolding among
  read_none h1 h2 h3 h4 h5 h7 =
      read-other counts kinds t kinds-counts (rw (few 1 (lit< tt) h1, few 2 (lit< tt) h2, few 3 (lit< tt) h3, few 4 (lit< tt) h4, few 5 (lit< tt) h5, few 7 (lit< tt) h7))

-- the kinds with that many parts
pub groups :
    (those 1 kinds ≡ kind1 ∷ kind2 ∷ kind3 ∷ [])
    × (those 2 kinds ≡ kind9 ∷ kind10 ∷ [])
    × (those 3 kinds ≡ kind4 ∷ kind8 ∷ kind18 ∷ kind19 ∷ [])
    × (those 4 kinds ≡ kind5 ∷ [])
    × (those 5 kinds ≡ kind6 ∷ kind7 ∷ kind11 ∷ kind12 ∷ kind13 ∷ kind14 ∷ [])
    × (those 7 kinds ≡ kind15 ∷ kind16 ∷ kind17 ∷ [])
unfolding those kinds
groups = (refl, refl, refl, refl, refl, refl)

-- a reader that found nothing
pub unfound : (a b : Option Path) → is_some a ≡ false → a ≡ b → None ≡ b
unfound (Some p) b h e = absurd (true≢false h)
unfound None b h e = e

-- what is read of a text whose number of components a group has
module _ (t : List ℕ) (n : ℕ) (h : component_count t ≡ n) where
  pub read_all : (es : List Kind) (a : Option Path) → those n kinds ≡ es → a ≡ read_first es t → a ≡ read_first kinds t
  read_all es a g e = e ∙ sym (read-those kinds t n h ∙ rw g)

  -- a group of two readers: the first finds a path, or it leaves the answer to the second
  module _ (es fs : List Kind) (g : those n kinds ≡ es ++ fs) where
    pub read-first : (a : Option Path) → is_some a ≡ true → a ≡ read_first es t → a ≡ read_first kinds t
    read-first a h e = read_all (es ++ fs) a g (sym (read-append es fs t ∙ rw (← e) (only a h)))
      where
        only : (x : Option Path) → is_some x ≡ true → or_else x (read_first fs t) ≡ x
        only (Some p) k = refl
        only None k = absurd (false≢true k)

    pub read-second : (a : Option Path) → None ≡ read_first es t → a ≡ read_first fs t → a ≡ read_first kinds t
    read-second a e f = read_all (es ++ fs) a g (f ∙ sym (read-append es fs t ∙ rw (← e)))

    or_nothing : (a : Option Path) → or_else a None ≡ a
    or_nothing (Some p) = refl
    or_nothing None = refl

    pub read_only : (a : Option Path) → a ≡ read_first es t → None ≡ read_first fs t → a ≡ read_first kinds t
    read_only a e f = read_all (es ++ fs) a g (e ∙ sym (read-append es fs t ∙ rw (← f) (or_nothing (read_first es t))))

-- ---- the first word decides between two readers of one number of components
abbrev head_fits : List Part → List ℕ → Bool
head_fits [] c = true
head_fits (p ∷ ps) c = fits p c

abbrev NoHead : List Kind → List ℕ → Type 0
NoHead [] c = Unit
NoHead (e ∷ es) c = (head_fits e.parts c ≡ false) × NoHead es c

-- a kind whose first part is something else reads nothing
other-head : (e : Kind) (t : List ℕ) → head_fits e.parts (component t 0) ≡ false → read_kind e t ≡ None
unfolding read_kind fits_kind
other-head e t h = go e.parts h
  where
    go : (ps : List Part) → head_fits ps (component t 0) ≡ false → cond (eqb (component_count t) (length ps) && fit_from 0 ps t) (Some (e.make (carried_from 0 e.parts t))) None ≡ None
    go [] k = let z : ◌≡◌ {A = ℕ} 0 1 = cc in absurd (omega arith)
    go (p ∷ ps) k = rw (k, and-false)

no-head : (es : List Kind) (t : List ℕ) → NoHead es (component t 0) → None ≡ read_first es t
unfolding read_first
no-head [] t h = refl
no-head (e ∷ es) t h = rw (other-head e t h.0) (no-head es t h.1)

module _ (t : List ℕ) where
  pub no-port : same (component t 0) (bytes "connections") ≡ true → None ≡ read_first (kind10 ∷ []) t
  unfolding fits same
  no-port h = no-head (kind10 ∷ []) t (rw (same-is (component t 0) (bytes "connections") h) (refl, tt))

  pub no-connection : same (component t 0) (bytes "connections") ≡ false → None ≡ read_first (kind9 ∷ []) t
  unfolding fits
  no-connection h = no-head (kind9 ∷ []) t (h, tt)

  pub no-ends : same (component t 0) (bytes "clients") ≡ true → None ≡ read_first (kind11 ∷ kind12 ∷ kind13 ∷ kind14 ∷ []) t
  unfolding fits same
  no-ends h = no-head (kind11 ∷ kind12 ∷ kind13 ∷ kind14 ∷ []) t (rw (same-is (component t 0) (bytes "clients") h) (refl, (refl, (refl, (refl, tt)))))

  pub no_update : same (component t 0) (bytes "clients") ≡ false → None ≡ read_first (kind6 ∷ kind7 ∷ []) t
  unfolding fits
  no_update h = no-head (kind6 ∷ kind7 ∷ []) t (h, (h, tt))
