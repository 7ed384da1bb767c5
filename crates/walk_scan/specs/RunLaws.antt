-- Laws of `run`: one turn of a loop, and what runs.
-- Assumes nothing.
use Rattle.std.specs.Prelude.{ℕ, suc, ◌+◌, ◌≤◌, ◌<◌, ◌≡◌, refl, List, [], ◌∷◌, ◌++◌, Bool, true, false, cond, not, ◌&&◌, eqb, length, take, drop, get_or, Some, None}
use Rattle.std.proofs.Common.{sym, ◌∙◌, arith, add-one, drop_of_length-le, drop-cons, eqb-true, ne_eqb}
use Rattle.std.proofs.lemmas.Bool.{eqb-false}
use Rattle.text.specs.Part.{every}
use Rattle.text.specs.PartLaws.{and_left, and_right}
use Rattle.walk_scan.specs.Run.{run, nonzero}
use Rattle.walk_scan.specs.Tail.{Stops, at_end, at_slash}

-- ---- one turn of a loop
module _ (f : ℕ → Bool) (s : List ℕ) (i : ℕ) where
  pub run_none : length s ≤ i → run f (drop i s) ≡ 0
  unfolding run
  run_none h = rw (drop_of_length-le s h)

  pub run-stop : i < length s → f (get_or s i 0) ≡ false → run f (drop i s) ≡ 0
  unfolding run
  run-stop h e = rw (drop-cons s i 0 h, e)

  pub run_more : i < length s → f (get_or s i 0) ≡ true → run f (drop i s) ≡ suc (run f (drop (i + 1) s))
  unfolding run
  run_more h e = rw (drop-cons s i 0 h, e, add-one)

-- ---- what a length nonzero tells
pub nonzero-none : (n : ℕ) → n ≡ 0 → None ≡ nonzero n
unfolding nonzero
nonzero-none n h = rw h

pub nonzero-some : (m n : ℕ) → (m ≡ 0 → ⊥) → m ≡ n → Some m ≡ nonzero n
unfolding nonzero
nonzero-some m n h e = sym (rw (← e, ne_eqb m 0 h))

pub none-nonzero : (n : ℕ) → None ≡ nonzero n → n ≡ 0
unfolding nonzero
none-nonzero n = go (eqb n 0) refl
  where
    go : (v : Bool) → eqb n 0 ≡ v → None ≡ cond v None (Some n) → n ≡ 0
    go true e h = eqb-true n 0 e
    go false e h = absurd cc

pub some-nonzero : (m n : ℕ) → Some m ≡ nonzero n → (m ≡ n) × (m ≡ 0 → ⊥)
unfolding nonzero
some-nonzero m n = go (eqb n 0) refl
  where
    go : (v : Bool) → eqb n 0 ≡ v → Some m ≡ cond v None (Some n) → (m ≡ n) × (m ≡ 0 → ⊥)
    go true e h = absurd cc
    go false e h = let k : m ≡ n = cc in (k, λ z. eqb-false n 0 e (sym k ∙ z))

-- ---- what runs
pub run-within : (f : ℕ → Bool) (s : List ℕ) → run f s ≤ length s
unfolding run
run-within f [] = omega arith
run-within f (b ∷ s) = go (f b) (run-within f s)
  where
    go : (v : Bool) → run f s ≤ length s → cond v (suc (run f s)) 0 ≤ suc (length s)
    go true h = omega arith
    go false h = omega arith

pub run-every : (f : ℕ → Bool) (s : List ℕ) → every f (take (run f s) s) ≡ true
unfolding run every
run-every f [] = refl
run-every f (b ∷ s) = go (f b) refl (run-every f s)
  where
    go : (v : Bool) → f b ≡ v → every f (take (run f s) s) ≡ true → every f (take (cond v (suc (run f s)) 0) (b ∷ s)) ≡ true
    go true e h = rw (e, h)
    go false e h = refl

-- bytes that pass run to what ends their component, since a slash does not pass
pub run-to : (f : ℕ → Bool) (c r : List ℕ) → Stops r → f 47 ≡ false → every f c ≡ true → run f (c ++ r) ≡ length c
unfolding run every
run-to f [] _ at_end n h = refl
run-to f [] _ (at_slash r) n h = rw n
run-to f (b ∷ c) r k n h = rw (and_left (f b) (every f c) h, run-to f c r k n (and_right (f b) (every f c) h))

-- bytes that pass are no slash
pub run-clear : (f : ℕ → Bool) → f 47 ≡ false → (c : List ℕ) → every f c ≡ true → every (λ b. not (eqb b 47)) c ≡ true
unfolding every
run-clear f n [] h = refl
run-clear f n (b ∷ c) h = go (eqb b 47) refl (run-clear f n c (and_right (f b) (every f c) h))
  where
    go : (v : Bool) → eqb b 47 ≡ v → every (λ x. not (eqb x 47)) c ≡ true → (not v && every (λ x. not (eqb x 47)) c) ≡ true
    go true e k =
        let y : f 47 ≡ true = rw (eqb-true b 47 e) at (and_left (f b) _ h) in
        let z : false ≡ true = sym n ∙ y in
        let x : ◌≡◌ {A = ℕ} 0 1 = cc in absurd (omega arith)
    go false e k = k
