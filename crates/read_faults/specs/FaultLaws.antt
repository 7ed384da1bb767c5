-- The number of components decides which kinds can have a bad number, and all of them have it at one component.
-- Assumes nothing.
use Rattle.std.specs.Prelude.{ℕ, suc, ◌+◌, ◌-◌, ◌^◌, ◌≤◌, ◌<◌, ◌≡◌, refl, Bool, true, false, not, ◌&&◌, ◌||◌, eqb, take, drop, Ok, Err}
use Rattle.std.proofs.Common.{add-zero, sym, ◌∙◌, lit<, length-take, length-drop, eqb-true}
use Rattle.std.proofs.Math.Nat.{sub-zero}
use Rattle.std.proofs.Math.Path.{ap}
use Rattle.std.proofs.Math.Bool.{cond}
use mathlib.Core.List.{List, [], ◌∷◌, ◌++◌, append-nil}
use native.Mathlib.Omega.{arith}
use Rattle.std.proofs.Math.ListN.{length}
use Rattle.text.specs.Bytes.{bytes}
use Rattle.text.specs.Fault.{numeral_place}
use Rattle.text.specs.FaultLaws.{number-place}
use Rattle.text.specs.Number.{Numeral, numeral_of}
use Rattle.text.specs.Part.{same}
use Rattle.text.specs.PartLaws.{and_left, and_right}
use Rattle.text.specs.declared.NumberFault.TheVariants.{NoDigits, NotADigit, TooLarge}
use Rattle.identifiers.specs.Check.{among}
use Rattle.path.specs.declared.Refusal.{Refusal}
use Rattle.path.specs.declared.Refusal.TheVariants.{NotAPath}
use Rattle.path.specs.declared.name.Name.TheVariants.{Upgrade as upgrade}
use Rattle.path.specs.declared.Cut.{Cut}
use Rattle.path.specs.Cut.{cut_of}
use Rattle.path.specs.Text.{cut_at, cut_step, component, place_at}
use Rattle.path.specs.Kinds.{Part, word, name, count, pair, Kind, kinds, kind5, kind6, kind7, kind15, kind16, kind17, kind18, kind19}
use Rattle.path.specs.Read.{name_fault, fits, component_count, suits, all_from, suits_kind, numeral_faults, pair_faults, part_faults, faults_from, kind_faults, faults_as, why_not}
use Rattle.read_pieces.specs.CountLaws.{keep, few}
use Rattle.read_faults.specs.Fault.{shown_first, or_fault, some_suits}
use Rattle.read_pieces.specs.Pieces.{consensus_parts, packet_parts, first_dash}
use Rattle.read_pieces.specs.PairLaws.{cut-here, cut-there, dash-within}

-- ---- the kinds that have n parts and a number among them
abbrev has_number : List Part → Bool
has_number [] = false
has_number (word w ∷ ps) = has_number ps
has_number (name n ∷ ps) = has_number ps
has_number (count ∷ ps) = true
has_number (pair ∷ ps) = true

unfoldable pub numbered : ℕ → List Kind → List Kind
numbered n [] = []
numbered n (e ∷ es) = keep (eqb n (length e.parts) && has_number e.parts) e (numbered n es)

-- parts without a number have no bad one
no_number : (k : ℕ) (ps : List Part) (t : List ℕ) → has_number ps ≡ false → faults_from k ps t ≡ []
unfolding part_faults
no_number k [] t h = refl
no_number k (word w ∷ ps) t h = no_number (k + 1) ps t h
no_number k (name n ∷ ps) t h = no_number (k + 1) ps t h
no_number k (count ∷ ps) t h = let z : ◌≡◌ {A = ℕ} 0 1 = cc in absurd (omega arith)
no_number k (pair ∷ ps) t h = let z : ◌≡◌ {A = ℕ} 0 1 = cc in absurd (omega arith)

either_way : {A : Type 0} (v : Bool) (x : A) → cond v x x ≡ x
either_way true x = refl
either_way false x = refl

-- a kind with another number of parts, or without a number
other-kind : (e : Kind) (t : List ℕ) → (eqb (component_count t) (length e.parts) && has_number e.parts) ≡ false → kind_faults e t ≡ []
unfolding kind_faults suits_kind
other-kind e t h = go (eqb (component_count t) (length e.parts)) h
  where
    go : (v : Bool) → (v && has_number e.parts) ≡ false → cond (v && all_from suits 0 e.parts t) (faults_from 0 e.parts t) [] ≡ []
    go true k = rw (no_number 0 e.parts t k) (either_way (all_from suits 0 e.parts t) [])
    go false k = refl

faults-numbered : (es : List Kind) (t : List ℕ) (n : ℕ) → component_count t ≡ n → faults_as es t ≡ faults_as (numbered n es) t
unfolding faults_as numbered
faults-numbered [] t n h = refl
faults-numbered (e ∷ es) t n h = go (eqb n (length e.parts) && has_number e.parts) refl (faults-numbered es t n h)
  where
    go : (v : Bool) → (eqb n (length e.parts) && has_number e.parts) ≡ v → faults_as es t ≡ faults_as (numbered n es) t → kind_faults e t ++ faults_as es t ≡ faults_as (keep v e (numbered n es)) t
    go true k ih = rw ih
    go false k ih = rw (other-kind e t (rw h k)) ih

-- ---- the table: a kind with a number has 3, 4, 5 or 7 parts
abbrev sizes : List ℕ
sizes = 3 ∷ 4 ∷ 5 ∷ 7 ∷ []

abbrev sizes_in : List Kind → Bool
sizes_in [] = true
sizes_in (e ∷ es) = (not (has_number e.parts) || among (length e.parts) sizes) && sizes_in es

kinds-sizes : sizes_in kinds ≡ true
unfolding among kinds
kinds-sizes = refl

faults-other : (es : List Kind) (t : List ℕ) → sizes_in es ≡ true → among (component_count t) sizes ≡ false → faults_as es t ≡ []
unfolding faults_as
faults-other [] t l h = refl
faults-other (e ∷ es) t l h =
    rw (other-kind e t (go (eqb (component_count t) (length e.parts)) refl (has_number e.parts) refl (and_left _ (sizes_in es) l)))
    (faults-other es t (and_right (not (has_number e.parts) || among (length e.parts) sizes) _ l) h)
  where
    go : (v : Bool) → eqb (component_count t) (length e.parts) ≡ v → (w : Bool) → has_number e.parts ≡ w → (not w || among (length e.parts) sizes) ≡ true → (v && w) ≡ false
    go false k w m a = refl
    go true k false m a = refl
    go true k true m a =
        let s : component_count t ≡ length e.parts = eqb-true (component_count t) (length e.parts) k in
        let z : ◌≡◌ {A = ℕ} 0 1 = cc in absurd (omega arith)

module _ (t : List ℕ) (c : Cut) (e : c ≡ cut_of t) where
  pub why-none : (c.count ≡ 3 → ⊥) → (c.count ≡ 4 → ⊥) → (c.count ≡ 5 → ⊥) → (c.count ≡ 7 → ⊥) → NotAPath ≡ why_not t
  unfolding why_not among
  why-none h3 h4 h5 h7 = rw (faults-other kinds t kinds-sizes (rw (few t c e 3 (lit< tt) h3, few t c e 4 (lit< tt) h4, few t c e 5 (lit< tt) h5, few t c e 7 (lit< tt) h7)))

-- ---- kinds that have the same faults: the first of them is shown where one of the kinds suits
abbrev Alike : List Kind → List ℕ → List Refusal → Type 0
Alike [] t fs = Unit {0}
Alike (e ∷ es) t fs = (faults_from 0 e.parts t ≡ fs) × Alike es t fs

shown_again : (fs gs : List Refusal) (v : Bool) → shown_first gs ≡ cond v (shown_first fs) NotAPath → shown_first (fs ++ gs) ≡ shown_first fs
shown_again [] gs true h = h
shown_again [] gs false h = h
shown_again (f ∷ fs) gs v h = refl

alike-first : (es : List Kind) (t : List ℕ) (fs : List Refusal) → Alike es t fs → shown_first (faults_as es t) ≡ cond (some_suits es t) (shown_first fs) NotAPath
unfolding faults_as kind_faults
alike-first [] t fs a = refl
alike-first (e ∷ es) t fs a = rw a.0 (go (suits_kind e t) (alike-first es t fs a.1))
  where
    go : (v : Bool) → shown_first (faults_as es t) ≡ cond (some_suits es t) (shown_first fs) NotAPath → shown_first (cond v fs [] ++ faults_as es t) ≡ cond (v || some_suits es t) (shown_first fs) NotAPath
    go true ih = shown_again fs (faults_as es t) (some_suits es t) ih
    go false ih = ih

-- so that the part p at component k decides
module _ (t : List ℕ) (n : ℕ) (h : component_count t ≡ n) (es : List Kind) (g : numbered n kinds ≡ es) (p : Part) (k : ℕ)
    (a : Alike es t (part_faults p (place_at t k).start (component t k) ++ [])) where
  why-by : why_not t ≡ cond (some_suits es t) (shown_first (part_faults p (place_at t k).start (component t k))) NotAPath
  unfolding why_not
  why-by =
      ap shown_first (faults-numbered kinds t n h ∙ ap (λ (fs : List Kind). faults_as fs t) g) ∙ alike-first es t _ a
      ∙ ap (λ (fs : List Refusal). cond (some_suits es t) (shown_first fs) NotAPath) (append-nil (part_faults p (place_at t k).start (component t k)))

  pub why-shown : (v : Bool) → v ≡ some_suits es t → v ≡ true → (r : Refusal) → r ≡ shown_first (part_faults p (place_at t k).start (component t k)) → r ≡ why_not t
  why-shown v e s r i = let z : some_suits es t ≡ true = sym e ∙ s in i ∙ sym (why-by ∙ rw z)

  pub why_unsuited : (v : Bool) → v ≡ some_suits es t → v ≡ false → NotAPath ≡ why_not t
  why_unsuited v e s = let z : some_suits es t ≡ false = sym e ∙ s in sym (why-by ∙ rw z)

pub groups :
    (numbered 3 kinds ≡ kind18 ∷ kind19 ∷ [])
    × (numbered 4 kinds ≡ kind5 ∷ [])
    × (numbered 5 kinds ≡ kind6 ∷ kind7 ∷ [])
    × (numbered 7 kinds ≡ kind15 ∷ kind16 ∷ kind17 ∷ [])
unfolding numbered kinds
groups = (refl, refl, refl, refl)

-- ---- which kinds suit, by what the code tests: a is what the group's kinds share, and p, q and r tell them apart
pick_two : (a p q : Bool) → ((a && (p && true)) || ((a && (q && true)) || false)) ≡ (a && (p || q))
pick_two true true q = refl
pick_two true false true = refl
pick_two true false false = refl
pick_two false p q = refl

pick-three : (a p q r : Bool) → ((p && a) || ((q && a) || ((r && a) || false))) ≡ (a && (p || (q || r)))
pick-three true true q r = refl
pick-three true false true r = refl
pick-three true false false true = refl
pick-three true false false false = refl
pick-three false true true true = refl
pick-three false true true false = refl
pick-three false true false true = refl
pick-three false true false false = refl
pick-three false false true true = refl
pick-three false false true false = refl
pick-three false false false true = refl
pick-three false false false false = refl

or-false : (v : Bool) → (v || false) ≡ v
or-false true = refl
or-false false = refl

and_both : (v x y : Bool) → (v && (x && y)) ≡ ((v && x) && y)
and_both true x y = refl
and_both false x y = refl

all_append : (f : Part → List ℕ → Bool) (k : ℕ) (ps qs : List Part) (t : List ℕ) → all_from f k (ps ++ qs) t ≡ (all_from f k ps t && all_from f (k + length ps) qs t)
all_append f k [] qs t = rw add-zero
all_append f k (p ∷ ps) qs t =
    let e : k + 1 + length ps ≡ k + suc (length ps) = omega arith in
    rw (all_append f (k + 1) ps qs t, e) (and_both (f p (component t k)) (all_from f (k + 1) ps t) (all_from f (k + suc (length ps)) qs t))

module _ (t : List ℕ) where
  pub consensus-by : component_count t ≡ 4 → some_suits (kind5 ∷ []) t ≡ all_from suits 0 consensus_parts t
  unfolding suits_kind
  consensus-by h = rw h (or-false (all_from suits 0 consensus_parts t))

  pub updates-by : component_count t ≡ 5
      → some_suits (kind6 ∷ kind7 ∷ []) t ≡ (all_from suits 0 consensus_parts t && (same (component t 4) (bytes "processedTime") || same (component t 4) (bytes "processedHeight")))
  unfolding suits_kind suits fits
  updates-by h =
      rw (h, all_append suits 0 consensus_parts (word (bytes "processedTime") ∷ []) t, all_append suits 0 consensus_parts (word (bytes "processedHeight") ∷ []) t)
      (pick_two (all_from suits 0 consensus_parts t) (same (component t 4) (bytes "processedTime")) (same (component t 4) (bytes "processedHeight")))

  pub packets-by : component_count t ≡ 7
      → some_suits (kind15 ∷ kind16 ∷ kind17 ∷ []) t ≡ (all_from suits 1 packet_parts t && (same (component t 0) (bytes "commitments") || (same (component t 0) (bytes "acks") || same (component t 0) (bytes "receipts"))))
  unfolding suits_kind suits fits
  packets-by h = rw h (pick-three (all_from suits 1 packet_parts t) (same (component t 0) (bytes "commitments")) (same (component t 0) (bytes "acks")) (same (component t 0) (bytes "receipts")))

  pub upgrades-by : component_count t ≡ 3
      → some_suits (kind18 ∷ kind19 ∷ []) t ≡ (eqb (name_fault upgrade (component t 0)) 0 && (same (component t 2) (bytes "upgradedClient") || same (component t 2) (bytes "upgradedConsState")))
  unfolding suits_kind suits fits
  upgrades-by h = rw h (pick_two (eqb (name_fault upgrade (component t 0)) 0) (same (component t 2) (bytes "upgradedClient")) (same (component t 2) (bytes "upgradedConsState")))

-- ---- the place of the fault of a number text, read as n
pub fault-room : (s : List ℕ) (at : ℕ) (n : Numeral) → n ≡ numeral_of s → at + length s < 2 ^ 64 → at + numeral_place n < 2 ^ 64
fault-room s at n e h = let p : numeral_place n ≤ length s = rw e (number-place s) in omega arith

-- ---- R-h, whose first dash stands at d
-- a number text has at most one fault
faults-or : (at : ℕ) (x : Numeral) (gs : List Refusal) → shown_first (numeral_faults at x ++ gs) ≡ or_fault (shown_first (numeral_faults at x)) (shown_first gs)
faults-or at (Ok v) gs = refl
faults-or at (Err (NoDigits i)) gs = refl
faults-or at (Err (NotADigit i)) gs = refl
faults-or at (Err (TooLarge i)) gs = refl

three : (at : ℕ) (r h s : List ℕ) → pair_faults at (r ∷ (h ∷ cut_at 45 s)) ≡ []
unfolding cut_at
three at r h [] = refl
three at r h (b ∷ s) = go (eqb b 45) (cut_at 45 s)
  where
    go : (v : Bool) (cs : List (List ℕ)) → pair_faults at (r ∷ (h ∷ cut_step v b cs)) ≡ []
    go true cs = refl
    go false [] = refl
    go false (c ∷ cs) = refl

-- the parts before and behind the dash end where s ends
module _ (s : List ℕ) (at d : ℕ) (room : at + length s < 2 ^ 64) where
  pub first-room : at + length (take d s) < 2 ^ 64
  first-room = rw length-take (omega arith)

  pub second-room : d < length s → at + (d + 1) + length (take (length s - (d + 1)) (drop (d + 1) s)) < 2 ^ 64
  second-room h = rw (length-take, length-drop) (omega arith)

module _ (s : List ℕ) (at d : ℕ) (e : d ≡ first_dash s) where
  pub pair_undashed : d ≡ length s → NotAPath ≡ shown_first (part_faults pair at s)
  unfolding part_faults
  pair_undashed h = let l : length s ≤ first_dash s = omega arith in rw (cut-here s l)

  module _ (h : d ≡ length s → ⊥) (b : List ℕ) (rest : b ≡ drop (d + 1) s) (f : ℕ) (g : f ≡ first_dash b) where
    inside : first_dash s < length s
    inside = omega (arith, dash-within s)

    cut-first : cut_at 45 s ≡ take d s ∷ cut_at 45 b
    cut-first = cut-there s inside ∙ rw (rest, e)

    pub pair_redashed : (f ≡ length b → ⊥) → NotAPath ≡ shown_first (part_faults pair at s)
    unfolding part_faults
    pair_redashed k =
        let l : first_dash b < length b = omega (arith, dash-within b) in
        rw (cut-first, cut-there b l, three at (take d s))

    module _ (k : f ≡ length b) where
      cut-two : cut_at 45 s ≡ take d s ∷ (b ∷ [])
      cut-two = let l : length b ≤ first_dash b = omega arith in cut-first ∙ rw (cut-here b l)

      first-length : length (take d s) ≡ d
      first-length = let l : d ≤ length s = omega (arith, dash-within s) in rw length-take (omega arith)

      both : part_faults pair at s ≡ numeral_faults at (numeral_of (take d s)) ++ numeral_faults (at + (d + 1)) (numeral_of b)
      unfolding part_faults
      both = let z : at + length (take d s) + 1 ≡ at + (d + 1) = omega (arith, first-length) in rw (cut-two, z)

      pub pair-both : (x y : Refusal) → x ≡ shown_first (numeral_faults at (numeral_of (take (d - 0) s))) → y ≡ shown_first (numeral_faults (at + (d + 1)) (numeral_of b)) → or_fault x y ≡ shown_first (part_faults pair at s)
      pair-both x y i j =
          let k : x ≡ shown_first (numeral_faults at (numeral_of (take d s))) = i ∙ rw sub-zero in
          rw (k, j) (sym (rw both (faults-or at (numeral_of (take d s)) (numeral_faults (at + (d + 1)) (numeral_of b)))))
