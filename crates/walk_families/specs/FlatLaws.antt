-- A tail that reads is the reading, and where none does there is none.
-- Assumes nothing.
use Rattle.std.specs.Prelude.{ℕ, ◌+◌, ◌<◌, ◌≡◌, List, [], ◌∷◌, Bool, length, drop, Some, None}
use Rattle.std.proofs.Math.Path.{refl}
use Rattle.std.proofs.Common.{sym, ap, ◌∙◌, arith, add-one, drop-cons, eqb-true}
use Rattle.std.proofs.Math.Bool.{true, false, cond}
use Rattle.text.specs.PartLaws.{and_left}
use Rattle.path.specs.declared.Place.{Place}
use Rattle.path.specs.Text.{components, places, places_from, nowhere}
use Rattle.path.specs.TextLaws.{count-components}
use Rattle.path.specs.Kinds.{Part, Carried, Kind, kinds}
use Rattle.path.specs.Read.{fit_from, carried_from, component_count, fits_kind, read_kind, read_first}
use Rattle.path.specs.Reads.{Has, Reads}
use Rattle.path.specs.ReadLaws.{kind_fits, apart_all, read_has, made-carried}
use Rattle.path.specs.Spelled.{fit_all, spelled_from}
use Rattle.path.specs.ExactLaws.{exact-by_spelling}
use Rattle.path.specs.View.{kind_of, seen}
use Rattle.walk_scan.specs.Tail.{carried_all, spelled_all, none, some, tail_of}
use Rattle.walk_families.specs.Flat.{flat}

-- ---- what parts carry, by the numbers of the components and one after the other
carried_from_lem : (k : ℕ) (ps : List Part) (t : List ℕ) → k + length ps ≡ component_count t → carried_from k ps t ≡ carried_all ps (drop k (components t)) (drop k (places t))
carried_from_lem k [] t h = refl
carried_from_lem k (p ∷ ps) t h =
    let l : k < length (components t) = omega arith in
    let m : k < length (places t) = omega (arith, count-components t) in
    rw (drop-cons (components t) k [] l, drop-cons (places t) k nowhere m, carried_from_lem (k + 1) ps t (omega arith), add-one)

spelled-from : (k : ℕ) (ps : List Part) (t : List ℕ) → k + length ps ≡ component_count t → spelled_from k ps t ≡ spelled_all ps (drop k (components t))
spelled-from k [] t h = refl
spelled-from k (p ∷ ps) t h =
    let l : k < length (components t) = omega arith in
    rw (drop-cons (components t) k [] l, spelled-from (k + 1) ps t (omega arith), add-one)

fits_count : (e : Kind) (t : List ℕ) → fits_kind e t ≡ true → 0 + length e.parts ≡ component_count t
unfolding fits_kind
fits_count e t h = omega (arith, eqb-true (component_count t) (length e.parts) (and_left _ (fit_from 0 e.parts t) h))

-- ---- a tail that is none, and one that is some
no-tail : {P : Type 0} (v : Carried Place) (x : Bool) → none ≡ some v x → P
no-tail v x h = let z : ◌≡◌ {A = ℕ} 0 1 = cc in absurd (omega arith)

module _ (e : Kind) (t : List ℕ) where
  tail-fits : (v : Carried Place) (x : Bool) → tail_of e.parts 0 t ≡ some v x → (fits_kind e t ≡ true) × (carried_from 0 e.parts t ≡ v) × (spelled_from 0 e.parts t ≡ x)
  unfolding tail_of
  tail-fits v x h = go (fit_all e.parts (components t)) refl h
    where
      go : (w : Bool) → fit_all e.parts (components t) ≡ w → cond w (some (carried_all e.parts (components t) (places_from 0 t)) (spelled_all e.parts (components t))) none ≡ some v x
          → (fits_kind e t ≡ true) × (carried_from 0 e.parts t ≡ v) × (spelled_from 0 e.parts t ≡ x)
      go true f k =
          let fit = kind_fits e t ∙ f in
          let n = fits_count e t fit in
          let a : carried_all e.parts (components t) (places_from 0 t) ≡ v = cc in
          let b : spelled_all e.parts (components t) ≡ x = cc in
          (fit, carried_from_lem 0 e.parts t n ∙ a, spelled-from 0 e.parts t n ∙ b)
      go false f k = no-tail v x k

  tail_unfit : tail_of e.parts 0 t ≡ none → fits_kind e t ≡ false
  unfolding tail_of
  tail_unfit h = go (fit_all e.parts (components t)) refl h
    where
      go : (w : Bool) → fit_all e.parts (components t) ≡ w → cond w (some (carried_all e.parts (components t) (places_from 0 t)) (spelled_all e.parts (components t))) none ≡ none → fits_kind e t ≡ false
      go true f k = no-tail _ _ (sym k)
      go false f k = kind_fits e t ∙ f

  -- a kind that the text is not passes the turn on
  pub skip : tail_of e.parts 0 t ≡ none → (es : List Kind) → read_first (e ∷ es) t ≡ read_first es t
  unfolding read_first read_kind
  skip h es = rw (tail_unfit h)

  -- a kind that the text is, is what is read
  pub found : {es : List Kind} → Has es e → apart_all es ≡ true → Has kinds e → (k : ℕ) → ((v : Carried Place) → kind_of (e.make v) ≡ k) → (v : Carried Place) (x : Bool) → tail_of e.parts 0 t ≡ some v x → Some (seen k x v) ≡ flat t (read_first es t)
  found m apart has k number v x h =
      let f = tail-fits v x h in
      let r : Reads t (e.make (carried_from 0 e.parts t)) = record { kind = e; listed = has; fitting = f.0; made = refl } in
      sym (ap (flat t) (read_has t m apart f.0) ∙ rw (exact-by_spelling r, made-carried has t, number (carried_from 0 e.parts t), f.1, f.2))

-- where no kind is left there is nothing
pub none_left : (t : List ℕ) → flat t (read_first [] t) ≡ None
unfolding read_first
none_left t = refl
