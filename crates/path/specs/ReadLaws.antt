-- No text fits two kinds, so the order of the table does not matter and what is read is one. And what a kind makes shows its number, its parts and what it was made of.
-- Assumes nothing.
use Rattle.std.specs.Prelude.{ℕ, zero, suc, ◌+◌, ◌-◌, ◌≤◌, ◌<◌, ◌≡◌, refl, Bool, true, false, not, cond, ◌&&◌, ◌||◌, eqb, leb, length, get_or, drop, Option, Some, None}
use Rattle.std.proofs.Common.{sym, ap, ◌∙◌, arith, add-one, drop_of_length-le, drop-cons, eqb-true, leb-true}
use mathlib.Core.List.{List, [], ◌∷◌, map}
use Rattle.std.proofs.Math.Bool.{and-false}
use Rattle.std.proofs.Math.Decide.{dec_lt}
use Rattle.std.proofs.lemmas.Bool.{not-true, eqb-false}
use Rattle.text.specs.Part.{same}
use Rattle.text.specs.PartLaws.{and_left, and_right, same-is, same_refl}
use Rattle.path.specs.declared.Place.{Place}
use Rattle.path.specs.declared.Path.{Path}
use Rattle.path.specs.declared.Path.TheVariants.{NextClientSequence, NextConnectionSequence, NextChannelSequence, ClientState, ClientConsensusState, ClientUpdateTime, ClientUpdateHeight, ClientConnection, Connection, Ports, ChannelEnd, SeqSend, SeqRecv, SeqAck, Commitment, Ack, Receipt, UpgradeClientState, UpgradeConsensusState}
use Rattle.path.specs.Text.{components}
use Rattle.path.specs.Kinds.{Part, word, name, count, pair, Carried, Kind, kinds, kind1}
use Rattle.path.specs.Read.{fits, suits, carried_from, all_from, component_count, fits_kind, suits_kind, read_kind, or_else, read_first, parts_of}
use Rattle.path.specs.Reads.{Has, here, later, Reads, kind_at}
use Rattle.path.specs.Spelled.{all_of, fit_all}
use Rattle.path.specs.View.{kind_of, carried_of}

-- ---- a text passes a test of each part of a kind where its components, one by one, pass it
module _ (f : Part → List ℕ → Bool) where
  all-length : (ps : List Part) (cs : List (List ℕ)) → (length cs ≡ length ps → ⊥) → all_of f ps cs ≡ false
  all-length [] [] h = absurd (h refl)
  all-length [] (c ∷ cs) h = refl
  all-length (p ∷ ps) [] h = refl
  all-length (p ∷ ps) (c ∷ cs) h = rw (all-length ps cs (λ e. h (ap suc e))) (and-false (f p c))

  all-from : (k : ℕ) (ps : List Part) (t : List ℕ) → k + length ps ≡ component_count t → all_from f k ps t ≡ all_of f ps (drop k (components t))
  all-from k [] t h = let l : component_count t ≤ k = omega arith in rw (drop_of_length-le (components t) l)
  all-from k (p ∷ ps) t h =
      let l : k < component_count t = omega arith in
      rw (drop-cons (components t) k [] l, all-from (k + 1) ps t (omega arith), add-one)

  all-kind : (e : Kind) (t : List ℕ) → (eqb (component_count t) (length e.parts) && all_from f 0 e.parts t) ≡ all_of f e.parts (components t)
  all-kind e t = go (eqb (component_count t) (length e.parts)) refl
    where
      go : (v : Bool) → eqb (component_count t) (length e.parts) ≡ v → (v && all_from f 0 e.parts t) ≡ all_of f e.parts (components t)
      go true h = all-from 0 e.parts t (omega (arith, eqb-true (component_count t) (length e.parts) h))
      go false h = sym (all-length e.parts (components t) (eqb-false (component_count t) (length e.parts) h))

pub kind_fits : (e : Kind) (t : List ℕ) → fits_kind e t ≡ fit_all e.parts (components t)
unfolding fits_kind
kind_fits e t = all-kind fits e t

pub kind-suits : (e : Kind) (t : List ℕ) → suits_kind e t ≡ all_of suits e.parts (components t)
unfolding suits_kind
kind-suits e t = all-kind suits e t

-- ---- two lists of parts that no text fits: another number of parts, or two different words at one place
abbrev word_of : Part → Option (List ℕ)
word_of (word w) = Some w
word_of (name n) = None
word_of count = None
word_of pair = None

abbrev differ_by : Option (List ℕ) → Option (List ℕ) → Bool
differ_by (Some v) (Some w) = not (same v w)
differ_by (Some v) None = false
differ_by None (Some w) = false
differ_by None None = false

abbrev clash : List Part → List Part → Bool
clash [] [] = false
clash [] (q ∷ qs) = true
clash (p ∷ ps) [] = true
clash (p ∷ ps) (q ∷ qs) = differ_by (word_of p) (word_of q) || clash ps qs

-- a test that asks of a word to be that word
module _ (f : Part → List ℕ → Bool) (words : (w c : List ℕ) → f (word w) c ≡ same c w) where
  word-is : (p : Part) (w c : List ℕ) → word_of p ≡ Some w → f p c ≡ true → c ≡ w
  word-is (word v) w c e g = let z : v ≡ w = cc in same-is c v (sym (words v c) ∙ g) ∙ z
  word-is (name n) w c e g = let z : ◌≡◌ {A = ℕ} 0 1 = cc in absurd (omega arith)
  word-is count w c e g = let z : ◌≡◌ {A = ℕ} 0 1 = cc in absurd (omega arith)
  word-is pair w c e g = let z : ◌≡◌ {A = ℕ} 0 1 = cc in absurd (omega arith)

  differ-both : (p q : Part) (c : List ℕ) → differ_by (word_of p) (word_of q) ≡ true → f p c ≡ true → f q c ≡ true → ⊥
  differ-both p q c d g h = go (word_of p) refl (word_of q) refl d
    where
      go : (x : Option (List ℕ)) → word_of p ≡ x → (y : Option (List ℕ)) → word_of q ≡ y → differ_by x y ≡ true → ⊥
      go (Some v) e (Some w) i k =
          let one : v ≡ w = sym (word-is p v c e g) ∙ word-is q w c i h in
          let n : same v w ≡ false = not-true (same v w) k in
          let y : same v w ≡ true = rw one (same_refl w) in
          let z : ◌≡◌ {A = ℕ} 0 1 = cc in omega arith
      go (Some v) e None i k = let z : ◌≡◌ {A = ℕ} 0 1 = cc in omega arith
      go None e (Some w) i k = let z : ◌≡◌ {A = ℕ} 0 1 = cc in omega arith
      go None e None i k = let z : ◌≡◌ {A = ℕ} 0 1 = cc in omega arith

  clash-both : (ps qs : List Part) (cs : List (List ℕ)) → clash ps qs ≡ true → all_of f ps cs ≡ true → all_of f qs cs ≡ true → ⊥
  clash-both [] [] cs d g h = let z : ◌≡◌ {A = ℕ} 0 1 = cc in omega arith
  clash-both [] (q ∷ qs) [] d g h = let z : ◌≡◌ {A = ℕ} 0 1 = cc in omega arith
  clash-both [] (q ∷ qs) (c ∷ cs) d g h = let z : ◌≡◌ {A = ℕ} 0 1 = cc in omega arith
  clash-both (p ∷ ps) [] [] d g h = let z : ◌≡◌ {A = ℕ} 0 1 = cc in omega arith
  clash-both (p ∷ ps) [] (c ∷ cs) d g h = let z : ◌≡◌ {A = ℕ} 0 1 = cc in omega arith
  clash-both (p ∷ ps) (q ∷ qs) [] d g h = let z : ◌≡◌ {A = ℕ} 0 1 = cc in omega arith
  clash-both (p ∷ ps) (q ∷ qs) (c ∷ cs) d g h =
      go (differ_by (word_of p) (word_of q)) refl d
      (λ i. clash-both ps qs cs i (and_right (f p c) (all_of f ps cs) g) (and_right (f q c) (all_of f qs cs) h))
    where
      go : (v : Bool) → differ_by (word_of p) (word_of q) ≡ v → (v || clash ps qs) ≡ true → (clash ps qs ≡ true → ⊥) → ⊥
      go true e i k = differ-both p q c e (and_left (f p c) (all_of f ps cs) g) (and_left (f q c) (all_of f qs cs) h)
      go false e i k = k i

fits_word : (w c : List ℕ) → fits (word w) c ≡ same c w
unfolding fits
fits_word w c = refl

suits-word : (w c : List ℕ) → suits (word w) c ≡ same c w
unfolding suits fits
suits-word w c = refl

-- ---- the whole table: each kind clashes with each later one
abbrev pub clash_all : Kind → List Kind → Bool
clash_all e [] = true
clash_all e (x ∷ es) = clash e.parts x.parts && clash_all e es

abbrev pub apart_all : List Kind → Bool
apart_all [] = true
apart_all (e ∷ es) = clash_all e es && apart_all es

pub kinds-apart : apart_all kinds ≡ true
unfolding kinds same
kinds-apart = refl

clash-has : (x : Kind) {es : List Kind} {e : Kind} → Has es e → clash_all x es ≡ true → clash x.parts e.parts ≡ true
clash-has x (here {e} {es}) h = and_left (clash x.parts e.parts) (clash_all x es) h
clash-has x (later {e} {x = y} {es} m) h = clash-has x m (and_right (clash x.parts y.parts) (clash_all x es) h)

-- a kind that fits is what is read
pub read_has : {es : List Kind} {e : Kind} (t : List ℕ) → Has es e → apart_all es ≡ true → fits_kind e t ≡ true → read_first es t ≡ Some (e.make (carried_from 0 e.parts t))
unfolding read_first read_kind
read_has t here a f = rw f
read_has t (later {e} {x} {es} m) a f =
    go (fits_kind x t) refl (read_has t m (and_right (clash_all x es) (apart_all es) a) f)
  where
    go : (v : Bool) → fits_kind x t ≡ v → read_first es t ≡ Some (e.make (carried_from 0 e.parts t))
        → or_else (cond v (Some (x.make (carried_from 0 x.parts t))) None) (read_first es t) ≡ Some (e.make (carried_from 0 e.parts t))
    go true g ih =
        let d = clash-has x m (and_left (clash_all x es) (apart_all es) a) in
        absurd (clash-both fits fits_word x.parts e.parts (components t) d (sym (kind_fits x t) ∙ g) (sym (kind_fits e t) ∙ f))
    go false g ih = ih

-- ---- at most one kind of the table suits
pub suits-clash : (x : Kind) {es : List Kind} {e : Kind} (t : List ℕ) → Has es e → apart_all (x ∷ es) ≡ true → suits_kind x t ≡ true → suits_kind e t ≡ true → ⊥
suits-clash x {es} {e} t m a f g =
    clash-both suits suits-word x.parts e.parts (components t) (clash-has x m (and_left (clash_all x es) (apart_all es) a)) (sym (kind-suits x t) ∙ f) (sym (kind-suits e t) ∙ g)

pub suits-same : {es : List Kind} {e x : Kind} (t : List ℕ) → Has es e → Has es x → apart_all es ≡ true → suits_kind e t ≡ true → suits_kind x t ≡ true → e ≡ x
suits-same t here here a f g = refl
suits-same t (here {e}) (later m) a f g = absurd (suits-clash e t m a f g)
suits-same t (later m) (here {e}) a f g = absurd (suits-clash e t m a g f)
suits-same t (later {x = y} {es = es} m) (later n) a f g = suits-same t m n (and_right (clash_all y es) (apart_all es) a) f g

-- ---- the relation and the function
pub reads-is : {t : List ℕ} {p : Path} → Reads t p → read_first kinds t ≡ Some p
reads-is {t} {p} r = read_has t r.listed kinds-apart r.fitting ∙ ap Some (sym r.made)

-- it is one
pub reads_one : {t : List ℕ} {p q : Path} → Reads t p → Reads t q → p ≡ q
reads_one r s = let a = reads-is r in let b = reads-is s in cc

-- and it is there wherever something is read
abbrev First : List Kind → List ℕ → Path → Type 0
First es t p = (e : Kind) × Has es e × (fits_kind e t ≡ true) × (p ≡ e.make (carried_from 0 e.parts t))

from_first : (es : List Kind) (t : List ℕ) (p : Path) → read_first es t ≡ Some p → First es t p
unfolding read_first read_kind
from_first [] t p h = let z : ◌≡◌ {A = ℕ} 0 1 = cc in absurd (omega arith)
from_first (x ∷ es) t p h = go (fits_kind x t) refl h (λ k. from_first es t p k)
  where
    go : (v : Bool) → fits_kind x t ≡ v → or_else (cond v (Some (x.make (carried_from 0 x.parts t))) None) (read_first es t) ≡ Some p
        → (read_first es t ≡ Some p → First es t p) → First (x ∷ es) t p
    go true g k ih = let z : p ≡ x.make (carried_from 0 x.parts t) = cc in (x, here, g, z)
    go false g k ih = let r = ih k in (r.0, later r.1, r.2, r.3)

pub is-reads : (t : List ℕ) (p : Path) → read_first kinds t ≡ Some p → Reads t p
is-reads t p h = let r = from_first kinds t p h in record { kind = r.0; listed = r.1; fitting = r.2; made = r.3 }

-- ---- what a kind makes. Each law is one computed fact about the table, handed to the kind in question
pub has_both : {A : Type 0} (f g : Kind → A) {es : List Kind} {e : Kind} → Has es e → map f es ≡ map g es → f e ≡ g e
has_both f g here h = cc
has_both f g (later {x} {es} m) h = let t : map f es ≡ map g es = cc in has_both f g m t

-- it has the kind's parts
parts_all : (v : Carried Place) → map (λ e. parts_of (kind_of (e.make v))) kinds ≡ map (λ e. e.parts) kinds
unfolding parts_of kinds
parts_all v = refl

pub made-parts : {e : Kind} → Has kinds e → (v : Carried Place) → parts_of (kind_of (e.make v)) ≡ e.parts
made-parts m v = has_both (λ e. parts_of (kind_of (e.make v))) (λ e. e.parts) m (parts_all v)

-- its number is one of the nineteen
range_all : (v : Carried Place) → map (λ e. leb 1 (kind_of (e.make v)) && leb (kind_of (e.make v)) 19) kinds ≡ map (λ e. true) kinds
unfolding kinds
range_all v = refl

pub made_range : {e : Kind} → Has kinds e → (v : Carried Place) → (1 ≤ kind_of (e.make v)) × (kind_of (e.make v) ≤ 19)
made_range {e} m v =
    let h = has_both (λ x. leb 1 (kind_of (x.make v)) && leb (kind_of (x.make v)) 19) (λ x. true) m (range_all v) in
    (leb-true 1 (kind_of (e.make v)) (and_left _ _ h), leb-true (kind_of (e.make v)) 19 (and_right (leb 1 (kind_of (e.make v))) _ h))

-- it carries what was read
carried-all : (t : List ℕ) → map (λ e. carried_of (e.make (carried_from 0 e.parts t))) kinds ≡ map (λ e. carried_from 0 e.parts t) kinds
unfolding kinds
carried-all t = refl

pub made-carried : {e : Kind} → Has kinds e → (t : List ℕ) → carried_of (e.make (carried_from 0 e.parts t)) ≡ carried_from 0 e.parts t
made-carried m t = has_both (λ e. carried_of (e.make (carried_from 0 e.parts t))) (λ e. carried_from 0 e.parts t) m (carried-all t)

has-at : (es : List Kind) (i : ℕ) → i < length es → Has es (get_or es i kind1)
has-at [] i h = absurd (omega arith)
has-at (e ∷ es) zero h = here
has-at (e ∷ es) (suc i) h = later (has-at es i (omega arith))

-- n numbers from i on
abbrev pub up_from : ℕ → ℕ → List ℕ
up_from zero i = []
up_from (suc n) i = i ∷ up_from n (suc i)

pub up_at : (n i k : ℕ) → k < n → get_or (up_from n i) k 0 ≡ i + k
up_at zero i k h = absurd (omega arith)
up_at (suc n) i zero h = omega arith
up_at (suc n) i (suc k) h = omega (arith, up_at n (suc i) k (omega arith))

kinds-count : length kinds ≡ 19
unfolding kinds
kinds-count = refl

-- the table is in the order of the kinds' numbers
numbers-all : (v : Carried Place) → map (λ e. kind_of (e.make v)) kinds ≡ up_from 19 1
unfolding kinds
numbers-all v = refl

map_at : {A : Type 0} (f : Kind → A) (d : A) (es : List Kind) (i : ℕ) → i < length es → get_or (map f es) i d ≡ f (get_or es i kind1)
map_at f d [] i h = absurd (omega arith)
map_at f d (e ∷ es) zero h = refl
map_at f d (e ∷ es) (suc i) h = map_at f d es i (omega arith)

module _ (k : ℕ) (low : 1 ≤ k) (high : k ≤ 19) where
  inside : k - 1 < length kinds
  inside = omega (arith, kinds-count)

  pub kind-has : Has kinds (kind_at k)
  kind-has = has-at kinds (k - 1) inside

  pub made-kind : (v : Carried Place) → kind_of ((kind_at k).make v) ≡ k
  made-kind v =
      let e = map_at (λ x. kind_of (x.make v)) 0 kinds (k - 1) inside in
      omega (arith, e, ap (λ (l : List ℕ). get_or l (k - 1) 0) (numbers-all v), up_at 19 1 (k - 1) (omega arith))

  pub kind-parts : parts_of k ≡ (kind_at k).parts
  unfolding parts_of
  kind-parts = map_at (λ e. e.parts) [] kinds (k - 1) inside

-- every typed path is made by its kind
pub path-made : (p : Path) → p ≡ (kind_at (kind_of p)).make (carried_of p)
unfolding kinds
path-made (NextClientSequence x) = refl
path-made (NextConnectionSequence x) = refl
path-made (NextChannelSequence x) = refl
path-made (ClientState x) = refl
path-made (ClientConsensusState x) = refl
path-made (ClientUpdateTime x) = refl
path-made (ClientUpdateHeight x) = refl
path-made (ClientConnection x) = refl
path-made (Connection x) = refl
path-made (Ports x) = refl
path-made (ChannelEnd x) = refl
path-made (SeqSend x) = refl
path-made (SeqRecv x) = refl
path-made (SeqAck x) = refl
path-made (Commitment x) = refl
path-made (Ack x) = refl
path-made (Receipt x) = refl
path-made (UpgradeClientState x) = refl
path-made (UpgradeConsensusState x) = refl

-- ---- no text passes such a test of two kinds
at-apart : (es : List Kind) → apart_all es ≡ true → (i j : ℕ) → i < j → j < length es → clash (get_or es i kind1).parts (get_or es j kind1).parts ≡ true
at-apart [] a i j h l = absurd (omega arith)
at-apart (e ∷ es) a i zero h l = absurd (omega arith)
at-apart (e ∷ es) a zero (suc j) h l = clash-has e (has-at es j (omega arith)) (and_left (clash_all e es) (apart_all es) a)
at-apart (e ∷ es) a (suc i) (suc j) h l = at-apart es (and_right (clash_all e es) (apart_all es) a) i j (omega arith) (omega arith)

module _ (f : Part → List ℕ → Bool) (words : (w c : List ℕ) → f (word w) c ≡ same c w) (t : List ℕ) where
  below : (j k : ℕ) → 1 ≤ j → j < k → k ≤ 19 → all_of f (kind_at j).parts (components t) ≡ true → all_of f (kind_at k).parts (components t) ≡ true → ⊥
  below j k low h high a b =
      clash-both f words (kind_at j).parts (kind_at k).parts (components t) (at-apart kinds kinds-apart (j - 1) (k - 1) (omega arith) (omega (arith, kinds-count))) a b

  one_kind : (j k : ℕ) → 1 ≤ j → j ≤ 19 → 1 ≤ k → k ≤ 19 → all_of f (kind_at j).parts (components t) ≡ true → all_of f (kind_at k).parts (components t) ≡ true → j ≡ k
  one_kind j k a b c d g h = go (dec_lt j k) (dec_lt k j)
    where
      go : Dec (j < k) → Dec (k < j) → j ≡ k
      go (yes l) m = absurd (below j k a l d g h)
      go (no l) (yes m) = absurd (below k j c m b h g)
      go (no l) (no m) = omega arith

pub fits_one : (t : List ℕ) (j k : ℕ) → 1 ≤ j → j ≤ 19 → 1 ≤ k → k ≤ 19 → fits_kind (kind_at j) t ≡ true → fits_kind (kind_at k) t ≡ true → j ≡ k
fits_one t j k a b c d g h = one_kind fits fits_word t j k a b c d (sym (kind_fits (kind_at j) t) ∙ g) (sym (kind_fits (kind_at k) t) ∙ h)

-- and no text suits two
pub suits-one : (t : List ℕ) (j k : ℕ) → 1 ≤ j → j ≤ 19 → 1 ≤ k → k ≤ 19 → suits_kind (kind_at j) t ≡ true → suits_kind (kind_at k) t ≡ true → j ≡ k
suits-one t j k a b c d g h = one_kind suits suits-word t j k a b c d (sym (kind-suits (kind_at j) t) ∙ g) (sym (kind-suits (kind_at k) t) ∙ h)
