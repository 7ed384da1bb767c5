-- A list with some of its elements left out, and records with some keys left out: sums, what a key holds, the order.
-- Assumes nothing.
use Rattle.std.proofs.Math.Path.{◌≡◌, refl, ap}
use Rattle.std.proofs.Common.{◌∙◌, arith}
use Rattle.std.specs.Prelude.{Bool, eqb}
use Rattle.std.proofs.Math.Bool.{true, false, cond}
use mathlib.Core.List.{List, [], ◌∷◌}
use Rattle.std.proofs.Math.Option.{Option, none, some}
use Prim.Native.Nat.{ℕ, zero, suc, ◌+◌, ◌≤◌}
use Rattle.std.proofs.Math.ListN.{length, get_elem?}
use Rattle.text.specs.Order.{by, cmp}
use Rattle.text.specs.OrderLaws.{cmp-eq, Keys, key-lt, key-eq, key_gt, keys}
use Rattle.runs.specs.Total.{total}
use Rattle.runs.specs.Without.{without}
use Rattle.book_records.specs.Records.{Key, get, After, Sorted}
use Rattle.book_records.specs.Act.{Rec, count_by}

-- ---- sums
module _ {A : Type 0} where
  pub total-same : (w u : A → ℕ) (s : List A) → ((i : ℕ) (a : A) → get_elem? s i ≡ some a → w a ≡ u a) → total w s ≡ total u s
  total-same w u [] h = refl
  total-same w u (a ∷ s) h = omega (arith, h 0 a refl, total-same w u s (λ i b e. h (suc i) b e))

  pub total_up : (w u : A → ℕ) (s : List A) → ((i : ℕ) (a : A) → get_elem? s i ≡ some a → w a ≤ u a) → total w s ≤ total u s
  total_up w u [] h = omega arith
  total_up w u (a ∷ s) h = omega (arith, h 0 a refl, total_up w u s (λ i b e. h (suc i) b e))

  -- where one of them counts less
  pub total-above : (w u : A → ℕ) (s : List A) → ((a : A) → w a ≤ u a) → (i : ℕ) (a : A) → get_elem? s i ≡ some a → w a + 1 ≤ u a → total w s + 1 ≤ total u s
  total-above w u [] h i a e l = let z : ◌≡◌ {A = ℕ} 0 1 = cc in absurd (omega arith)
  total-above w u (b ∷ s) h zero a e l = let q : b ≡ a = cc in let k : w b + 1 ≤ u b = rw q l in omega (arith, total_up w u s (λ j c f. h c))
  total-above w u (b ∷ s) h (suc i) a e l = omega (arith, h b, total-above w u s h i a e l)

  module _ (out : A → Bool) where
    -- what is left out and what is left
    pub total_parted : (w : A → ℕ) (s : List A) → total w s ≡ total w (without out s) + total (λ a. cond (out a) (w a) 0) s
    unfolding without
    total_parted w [] = refl
    total_parted w (a ∷ s) = go (out a) (total_parted w s)
      where
        go : (v : Bool) → total w s ≡ total w (without out s) + total (λ a. cond (out a) (w a) 0) s
            → w a + total w s ≡ total w (cond v (without out s) (a ∷ without out s)) + (cond v (w a) 0 + total (λ a. cond (out a) (w a) 0) s)
        go true ih = omega (arith, ih)
        go false ih = omega (arith, ih)

    pub length_parted : (s : List A) → length s ≡ length (without out s) + total (λ a. cond (out a) 1 0) s
    unfolding without
    length_parted [] = refl
    length_parted (a ∷ s) = go (out a) (length_parted s)
      where
        go : (v : Bool) → length s ≡ length (without out s) + total (λ a. cond (out a) 1 0) s
            → suc (length s) ≡ length (cond v (without out s) (a ∷ without out s)) + (cond v 1 0 + total (λ a. cond (out a) 1 0) s)
        go true ih = omega (arith, ih)
        go false ih = omega (arith, ih)

    pub total_kept : (w : A → ℕ) (s : List A) → total w (without out s) ≡ total (λ a. cond (out a) 0 (w a)) s
    unfolding without
    total_kept w [] = refl
    total_kept w (a ∷ s) = go (out a) (total_kept w s)
      where
        go : (v : Bool) → total w (without out s) ≡ total (λ a. cond (out a) 0 (w a)) s → total w (cond v (without out s) (a ∷ without out s)) ≡ cond v 0 (w a) + total (λ a. cond (out a) 0 (w a)) s
        go true ih = omega (arith, ih)
        go false ih = omega (arith, ih)

    -- what counts nothing may be left out
    pub total_left : (w : A → ℕ) → ((a : A) → out a ≡ true → w a ≡ 0) → (s : List A) → total w (without out s) ≡ total w s
    unfolding without
    total_left w z [] = refl
    total_left w z (a ∷ s) = go (out a) refl (total_left w z s)
      where
        go : (v : Bool) → out a ≡ v → total w (without out s) ≡ total w s → total w (cond v (without out s) (a ∷ without out s)) ≡ w a + total w s
        go true e ih = omega (arith, ih, z a e)
        go false e ih = omega (arith, ih)

    pub none_left : (s : List A) → ((a : A) → out a ≡ false) → without out s ≡ s
    unfolding without
    none_left [] h = refl
    none_left (a ∷ s) h = rw (h a) (ap (λ (t : List A). a ∷ t) (none_left s h))

    -- facts of every element
    pub all_left : (All : List A → Type 0) → All [] → ((a : A) (s t : List A) → All (a ∷ s) → All t → All (a ∷ t)) → ((a : A) (s : List A) → All (a ∷ s) → All s) → (s : List A) → All s → All (without out s)
    unfolding without
    all_left All nil cons tail [] h = nil
    all_left All nil cons tail (a ∷ s) h = go (out a) (all_left All nil cons tail s (tail a s h))
      where
        go : (v : Bool) → All (without out s) → All (cond v (without out s) (a ∷ without out s))
        go true ih = ih
        go false ih = cons a s (without out s) h ih

  pub without-same : (f g : A → Bool) (s : List A) → ((a : A) → f a ≡ g a) → without f s ≡ without g s
  unfolding without
  without-same f g [] h = refl
  without-same f g (a ∷ s) h = rw (h a, without-same f g s h)

-- ---- records with some keys left out
module _ (out : Key → Bool) where
  abbrev pub left : List Rec → List Rec
  left s = without (λ r. out r.0) s

  pub get_left : (s : List Rec) (k : Key) → get (left s) k ≡ cond (out k) none (get s k)
  unfolding without get
  get_left [] k = go (out k)
    where
      go : (v : Bool) → ◌≡◌ {A = Option (List ℕ)} none (cond v none none)
      go true = refl
      go false = refl
  get_left (r ∷ s) k = go (out r.0) refl (keys k r.0) (get_left s k)
    where
      go : (v : Bool) → out r.0 ≡ v → Keys k r.0 → get (left s) k ≡ cond (out k) none (get s k)
          → get (cond v (left s) (r ∷ left s)) k ≡ cond (out k) none (by (cmp k r.0) (get s k) (some r.1) (get s k))
      go true e (key-lt w) ih = rw w ih
      go true e (key-eq w) ih = let o : out k ≡ true = ap out (cmp-eq k r.0 w) ∙ e in rw (w, o) (rw o at ih)
      go true e (key_gt w) ih = rw w ih
      go false e (key-lt w) ih = rw w ih
      go false e (key-eq w) ih = let o : out k ≡ false = ap out (cmp-eq k r.0 w) ∙ e in rw (w, o)
      go false e (key_gt w) ih = rw w ih

pub after-left : (out : Rec → Bool) (j : Key) (s : List Rec) → After j s → After j (without out s)
after-left out j s h = all_left out (After j) tt (λ r a b p q. (p.0, q)) (λ r a p. p.1) s h

pub sorted-left : (out : Rec → Bool) (s : List Rec) → Sorted s → Sorted (without out s)
unfolding without
sorted-left out [] h = tt
sorted-left out (r ∷ s) h = go (out r) (sorted-left out s h.1)
  where
    go : (v : Bool) → Sorted (without out s) → Sorted (cond v (without out s) (r ∷ without out s))
    go true ih = ih
    go false ih = (after-left out r.0 s h.0, ih)

pub count_left : (out : Rec → Bool) (owner : Key → ℕ) (o : ℕ) (s : List Rec) → count_by owner o (without out s) ≤ count_by owner o s
unfolding count_by
count_left out owner o s = omega (arith, total_parted out (λ r. cond (eqb (owner r.0) o) 1 0) s)
