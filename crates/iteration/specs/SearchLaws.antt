-- The search by halving, and what the place that it finds says of the scans.
-- Assumes nothing.
use Rattle.std.specs.Prelude.{◌≡◌, Bool, false, not, List, map, length, Ok, Err}
use Rattle.std.proofs.Math.Path.{refl}
use Rattle.std.proofs.Common.{sym, ap, ◌∙◌, eq-or-lt_of_le, arith}
use Rattle.std.proofs.Math.Bool.{true}
use Rattle.std.proofs.Math.Logic.{⊎_elim}
use Rattle.std.proofs.Math.Option.{Option, none, some}
use Prim.Native.Nat.{ℕ, zero, suc, ◌+◌, ◌/◌, ◌-◌, ◌≤◌, ◌<◌}
use Rattle.std.proofs.Math.Decide.{dec_lt}
use Rattle.std.proofs.lemmas.Bool.{not-true, not-false}
use Rattle.text.specs.TableLaws.{span}
use Rattle.path.specs.declared.Revision.{Revision}
use Rattle.path.specs.Revision.{below}
use Rattle.path.specs.RevisionLaws.{below_trans}
use Rattle.iteration.specs.Block.{block_of, is_block, first_above, last_below, scanned}
use Rattle.iteration.specs.BlockLaws.{held}
use Rattle.iteration.specs.Search.{key_no, passed, Placed}

-- what is below a key that passes, passes
pub passed_down : (equal : Bool) (pair p q : Revision) → below p q ≡ true → passed equal pair q ≡ true → passed equal pair p ≡ true
passed_down false pair p q h k = below_trans p q pair h k
passed_down true pair p q h k = go (below pair p) refl
  where
    go : (b : Bool) → below pair p ≡ b → not b ≡ true
    go false e = refl
    go true e = let t = below_trans pair p q e h in let f = not-true (below pair q) k in let z : ◌≡◌ {A = ℕ} 0 1 = cc in absurd (omega arith)

-- ---- the search: the keys below lo pass, those from hi on do not
pub record Narrowed (test : Revision → Bool) (s : List ℕ) (lo hi : ℕ) : Type 0 where
  pub order : lo ≤ hi
  pub within : hi ≤ length s / 38
  pub before : (j : ℕ) → j < lo → test (key_no s j) ≡ true
  pub rest : (j : ℕ) → hi ≤ j → j < length s / 38 → test (key_no s j) ≡ false

module _ (equal : Bool) (pair : Revision) (s : List ℕ) where
  abbrev test : Revision → Bool
  test = passed equal pair

  pub narrow_start : Narrowed test s 0 (length s / 38)
  narrow_start = record { order = omega arith; within = omega arith; before = λ j h. absurd (let z : ⊥ = omega arith in z); rest = λ j h l. absurd (let z : ⊥ = omega arith in z) }

  module _ (b : is_block (block_of s) ≡ true) where
    down : (j k : ℕ) → j ≤ k → k < length s / 38 → test (key_no s k) ≡ true → test (key_no s j) ≡ true
    down j k l m t = go (dec_lt j k)
      where
        go : Dec (j < k) → test (key_no s j) ≡ true
        go (yes q) = passed_down equal pair (key_no s j) (key_no s k) ((held s b).rise j k q m) t
        go (no q) = let e : j ≡ k = omega arith in rw e t

    up : (j k : ℕ) → j ≤ k → k < length s / 38 → test (key_no s j) ≡ false → test (key_no s k) ≡ false
    up j k l m f = go (test (key_no s k)) refl
      where
        go : (v : Bool) → test (key_no s k) ≡ v → v ≡ false
        go false e = refl
        go true e = let t = down j k l m e in sym t ∙ f

    module _ (lo hi mid : ℕ) (g : Narrowed test s lo hi) (lm : lo ≤ mid) (mh : mid < hi) where
      pub narrow_up : test (key_no s mid) ≡ true → Narrowed test s (mid + 1) hi
      narrow_up t = record { order = omega arith; within = g.within; before = λ j l. down j mid (omega arith) (omega (arith, g.within)) t; rest = g.rest }

      pub narrow_down : test (key_no s mid) ≡ false → Narrowed test s lo mid
      narrow_down f = record { order = lm; within = omega (arith, g.within); before = g.before; rest = λ j l m. up mid j l m f }

  pub narrow-end : (lo hi : ℕ) → Narrowed test s lo hi → hi ≤ lo → Placed test s lo
  narrow-end lo hi g l = record { within = omega (arith, g.order, g.within); before = g.before; rest = λ j h m. g.rest j (omega arith) m }

-- ---- the scans over keys by their numbers
module _ (p : Revision) (g : ℕ → Revision) where
  first-none : (n i : ℕ) → ((j : ℕ) → i ≤ j → j < i + n → below p (g j) ≡ false) → first_above p (map g (span i n)) ≡ none
  unfolding first_above
  first-none zero i h = refl
  first-none (suc n) i h = rw (h i (omega arith) (omega arith)) (first-none n (suc i) (λ j l m. h j (omega arith) (omega arith)))

  first-at : (n i k : ℕ) → i ≤ k → k < i + n → ((j : ℕ) → i ≤ j → j < k → below p (g j) ≡ false) → below p (g k) ≡ true → first_above p (map g (span i n)) ≡ some (g k)
  unfolding first_above
  first-at zero i k l m h t = absurd (omega arith)
  first-at (suc n) i k l m h t =
      ⊎_elim (λ e. let here : below p (g i) ≡ true = rw e t in rw here (ap (λ (x : ℕ). some (g x)) e)) (λ q. rw (h i (omega arith) q) (first-at n (suc i) k q (omega arith) (λ j a b. h j (omega arith) b) t)) (eq-or-lt_of_le l)

  last_none : (n i : ℕ) → ((j : ℕ) → i ≤ j → j < i + n → below (g j) p ≡ false) → last_below p (map g (span i n)) ≡ none
  unfolding last_below
  last_none zero i h = refl
  last_none (suc n) i h = rw (last_none n (suc i) (λ j l m. h j (omega arith) (omega arith)), h i (omega arith) (omega arith))

  last-at : (n i k : ℕ) → i ≤ k → k < i + n → ((j : ℕ) → k < j → j < i + n → below (g j) p ≡ false) → below (g k) p ≡ true → last_below p (map g (span i n)) ≡ some (g k)
  unfolding last_below
  last-at zero i k l m h t = absurd (omega arith)
  last-at (suc n) i k l m h t =
      ⊎_elim
      (λ e. rw (last_none n (suc i) (λ j a b. h j (omega arith) (omega arith)), e, t))
      (λ q. rw (last-at n (suc i) k q (omega arith) (λ j a b. h j a (omega arith)) t))
      (eq-or-lt_of_le l)

-- ---- the ways out of the scans
pub no_block : (f : List Revision → Option Revision) (s : List ℕ) → is_block (block_of s) ≡ false → Err 16 ≡ scanned f (block_of s)
no_block f s h = go (block_of s) h
  where
    go : (x : Option (List Revision)) → is_block x ≡ false → Err 16 ≡ scanned f x
    go none e = refl
    go (some ps) e = let z : ◌≡◌ {A = ℕ} 0 1 = cc in absurd (omega arith)

module _ (pair : Revision) (s : List ℕ) (b : is_block (block_of s) ≡ true) (q : ℕ) where
  module _ (pl : Placed (passed true pair) s q) where
    pub above-none : q ≡ length s / 38 → Err 12 ≡ scanned (first_above pair) (block_of s)
    above-none e =
        let none_above : first_above pair (map (key_no s) (span 0 (length s / 38))) ≡ none = first-none pair (key_no s) (length s / 38) 0 (λ j l m. not-true _ (pl.before j (omega arith))) in
        rw ((held s b).keys, none_above)

    pub above-found : (q ≡ length s / 38 → ⊥) → Ok (key_no s q) ≡ scanned (first_above pair) (block_of s)
    above-found e =
        let inside : q < length s / 38 = omega (arith, pl.within) in
        let found : first_above pair (map (key_no s) (span 0 (length s / 38))) ≡ some (key_no s q) = first-at pair (key_no s) (length s / 38) 0 q (omega arith) (omega arith) (λ j l m. not-true _ (pl.before j m)) (not-false _ (pl.rest q (omega arith) inside)) in
        rw ((held s b).keys, found)

  module _ (pl : Placed (passed false pair) s q) where
    pub below_none : q ≡ 0 → Err 12 ≡ scanned (last_below pair) (block_of s)
    below_none e =
        let none_below : last_below pair (map (key_no s) (span 0 (length s / 38))) ≡ none = last_none pair (key_no s) (length s / 38) 0 (λ j l m. pl.rest j (omega arith) (omega arith)) in
        rw ((held s b).keys, none_below)

    pub below-found : (q ≡ 0 → ⊥) → Ok (key_no s (q - 1)) ≡ scanned (last_below pair) (block_of s)
    below-found e =
        let found : last_below pair (map (key_no s) (span 0 (length s / 38))) ≡ some (key_no s (q - 1)) = last-at pair (key_no s) (length s / 38) 0 (q - 1) (omega arith) (omega (arith, pl.within)) (λ j l m. pl.rest j (omega arith) (omega arith)) (pl.before (q - 1) (omega arith)) in
        rw ((held s b).keys, found)
