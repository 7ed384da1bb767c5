-- One turn of the check of a block, and what its answer tells of the keys.
-- Assumes nothing.
use Rattle.std.proofs.Math.Path.{◌≡◌, refl}
use Rattle.std.proofs.Common.{ap, ◌∙◌, ⊎_elim, eq-or-lt_of_le, arith, drop-drop, eq-eqb, ne_eqb, eqb-true}
use Rattle.std.specs.Prelude.{Bool, cond, List, map, ℕ, zero, suc, ◌+◌, ◌*◌, ◌-◌, ◌/◌, ◌%◌, ◌≤◌, ◌<◌, eqb, length, take, drop}
use Rattle.std.proofs.Math.Bool.{true, false}
use Rattle.std.proofs.Math.Option.{Option, none, some}
use Rattle.std.proofs.Math.Decide.{dec_lt}
use Rattle.text.specs.PartLaws.{and_left, and_right}
use Rattle.text.specs.TableLaws.{span}
use Rattle.path.specs.declared.Revision.{Revision}
use Rattle.path.specs.Revision.{below}
use Rattle.path.specs.RevisionLaws.{below_trans}
use Rattle.iteration.specs.Key.{key_revision}
use Rattle.iteration.specs.ReadLaws.{piece_is}
use Rattle.iteration.specs.Block.{follows, rising, onto, keys_in, in_order, block_of, is_block}
use Rattle.iteration.specs.Search.{rises, key_no}

-- ---- the check: the keys are there, and rise from the last one on
abbrev pub rising_in : Option Revision → Option (List Revision) → Bool
rising_in last none = false
rising_in last (some ps) = rising last ps

pub block_odd : (s : List ℕ) → (length s % 38 ≡ 0 → ⊥) → is_block (block_of s) ≡ false
unfolding block_of
block_odd s h = rw (ne_eqb (length s % 38) 0 h)

pub block_start : (s : List ℕ) → length s % 38 ≡ 0 → is_block (block_of s) ≡ rising_in none (keys_in (length s / 38) s)
unfolding block_of
block_start s h = rw (eq-eqb (length s % 38) 0 h) (go (keys_in (length s / 38) s))
  where
    either : (ps : List Revision) (b : Bool) → is_block (cond b (some ps) none) ≡ b
    either ps true = refl
    either ps false = refl

    go : (x : Option (List Revision)) → is_block (in_order x) ≡ rising_in none x
    go none = refl
    go (some ps) = either ps (rising none ps)

-- one turn, with n keys still to come from s on
module _ (last : Option Revision) (n : ℕ) (s : List ℕ) where
  pub rising-end : n ≡ 0 → rising_in last (keys_in n s) ≡ true
  unfolding keys_in rising
  rising-end e = rw e

  module _ (m : ℕ) (e : n ≡ suc m) where
    pub rising-stop : rises last (key_revision (take 38 s)) ≡ false → rising_in last (keys_in n s) ≡ false
    unfolding keys_in rising
    rising-stop h = rw e (go (key_revision (take 38 s)) (keys_in m (drop 38 s)) h)
      where
        go : (x : Option Revision) (y : Option (List Revision)) → rises last x ≡ false → rising_in last (onto x y) ≡ false
        go none y q = refl
        go (some p) none q = refl
        go (some p) (some ps) q = rw q

    pub rising-more : rises last (key_revision (take 38 s)) ≡ true → rising_in last (keys_in n s) ≡ rising_in (key_revision (take 38 s)) (keys_in m (drop 38 s))
    unfolding keys_in rising
    rising-more h = rw e (go (key_revision (take 38 s)) (keys_in m (drop 38 s)) h)
      where
        go : (x : Option Revision) (y : Option (List Revision)) → rises last x ≡ true → rising_in last (onto x y) ≡ rising_in x y
        go none y q = let z : ◌≡◌ {A = ℕ} 0 1 = cc in absurd (omega arith)
        go (some p) none q = refl
        go (some p) (some ps) q = rw q

-- the same turn in the words of the code, at key number i of n
module _ (s : List ℕ) (n i : ℕ) (h : i < n) (last : Option Revision) where
  pub check-none : none ≡ key_revision (take 38 (drop (38 * i) s)) → rising_in last (keys_in (n - i) (drop (38 * i) s)) ≡ false
  check-none e = rising-stop last (n - i) (drop (38 * i) s) (n - (i + 1)) (omega arith) (rw (← e))

  module _ (p : Revision) (e : some p ≡ key_revision (take 38 (drop (38 * i) s))) where
    pub check-stop : follows last p ≡ false → rising_in last (keys_in (n - i) (drop (38 * i) s)) ≡ false
    check-stop t = rising-stop last (n - i) (drop (38 * i) s) (n - (i + 1)) (omega arith) (rw (← e) t)

    pub check-more : follows last p ≡ true → rising_in last (keys_in (n - i) (drop (38 * i) s)) ≡ rising_in (some p) (keys_in (n - (i + 1)) (drop (38 * (i + 1)) s))
    check-more t =
        let next : 38 * i + 38 ≡ 38 * (i + 1) = omega arith in
        rw (e, ← next, ← drop-drop 38 (38 * i) s) (rising-more last (n - i) (drop (38 * i) s) (n - (i + 1)) (omega arith) (rw (← e) t))

-- ---- the keys of a block by their numbers
pub keys-listed : (s : List ℕ) (n i : ℕ) (ps : List Revision) → 38 * (i + n) ≤ length s → keys_in n (drop (38 * i) s) ≡ some ps → ps ≡ map (key_no s) (span i n)
unfolding keys_in
keys-listed s zero i ps h e = cc
keys-listed s (suc n) i ps h e = go (key_revision (take 38 (drop (38 * i) s))) refl (keys_in n (drop 38 (drop (38 * i) s))) refl e (keys-listed s n (suc i))
  where
    next : drop 38 (drop (38 * i) s) ≡ drop (38 * suc i) s
    next = let q : 38 * i + 38 ≡ 38 * suc i = omega arith in drop-drop 38 (38 * i) s ∙ rw q

    go : (x : Option Revision) → key_revision (take 38 (drop (38 * i) s)) ≡ x → (y : Option (List Revision)) → keys_in n (drop 38 (drop (38 * i) s)) ≡ y → onto x y ≡ some ps
        → ((qs : List Revision) → 38 * (suc i + n) ≤ length s → keys_in n (drop (38 * suc i) s) ≡ some qs → qs ≡ map (key_no s) (span (suc i) n)) → ps ≡ map (key_no s) (span i (suc n))
    go none a y b q more = cc
    go (some p) a none b q more = cc
    go (some p) a (some qs) b q more =
        let l : 38 * (suc i + n) ≤ length s = omega arith in
        let head : p ≡ key_no s i = piece_is (38 * i) s p (omega arith) a in
        let rest : qs ≡ map (key_no s) (span (suc i) n) = more qs l (rw next at b) in
        cc

-- each is above the one before it
rising-head : (g : ℕ → Revision) (n i : ℕ) (p : Revision) → rising (some p) (map g (span i n)) ≡ true → 0 < n → below p (g i) ≡ true
unfolding rising
rising-head g zero i p h l = absurd (omega arith)
rising-head g (suc n) i p h l = and_left (below p (g i)) (rising (some (g i)) (map g (span (suc i) n))) h

pub rising-at : (g : ℕ → Revision) (n i : ℕ) (last : Option Revision) → rising last (map g (span i n)) ≡ true → (j : ℕ) → i ≤ j → suc j < i + n → below (g j) (g (suc j)) ≡ true
unfolding rising
rising-at g zero i last h j l k = absurd (omega arith)
rising-at g (suc n) i last h j l k =
    let rest = and_right (follows last (g i)) (rising (some (g i)) (map g (span (suc i) n))) h in
    ⊎_elim (λ e. rw (← e) (rising-head g n (suc i) (g i) rest (omega arith))) (λ m. rising-at g n (suc i) (some (g i)) rest j (omega arith) (omega arith)) (eq-or-lt_of_le l)

-- and above all before it
far : (g : ℕ → Revision) (n : ℕ) → ((j : ℕ) → suc j < n → below (g j) (g (suc j)) ≡ true) → (k j : ℕ) → j < k → k < n → below (g j) (g k) ≡ true
far g n h zero j l m = absurd (omega arith)
far g n h (suc k) j l m = go (dec_lt j k) (λ q. far g n h k j q (omega arith))
  where
    go : Dec (j < k) → (j < k → below (g j) (g k) ≡ true) → below (g j) (g (suc k)) ≡ true
    go (yes q) more = below_trans (g j) (g k) (g (suc k)) (more q) (h k m)
    go (no q) more = let e : j ≡ k = omega arith in rw e (h k m)

-- what it means that bytes are a block
pub record Parts (s : List ℕ) (ps : List Revision) : Type 0 where
  pub size : length s % 38 ≡ 0
  pub read : keys_in (length s / 38) s ≡ some ps
  pub order : rising none ps ≡ true

pub parts : (s : List ℕ) (ps : List Revision) → block_of s ≡ some ps → Parts s ps
unfolding block_of
parts s ps h = whole (eqb (length s % 38) 0) refl (keys_in (length s / 38) s) refl h
  where
    sorted : (qs : List Revision) → keys_in (length s / 38) s ≡ some qs → length s % 38 ≡ 0 → (b : Bool) → rising none qs ≡ b → cond b (some qs) none ≡ some ps → Parts s ps
    sorted qs e z true r k = let same : qs ≡ ps = cc in record { size = z; read = rw (← same) e; order = rw (← same) r }
    sorted qs e z false r k = let z : ◌≡◌ {A = ℕ} 0 1 = cc in absurd (omega arith)

    whole : (a : Bool) → eqb (length s % 38) 0 ≡ a → (x : Option (List Revision)) → keys_in (length s / 38) s ≡ x → cond a (in_order x) none ≡ some ps → Parts s ps
    whole true z none e k = let z : ◌≡◌ {A = ℕ} 0 1 = cc in absurd (omega arith)
    whole true z (some qs) e k = sorted qs e (eqb-true (length s % 38) 0 z) (rising none qs) refl k
    whole false z x e k = let z : ◌≡◌ {A = ℕ} 0 1 = cc in absurd (omega arith)

-- what its keys are by their numbers
pub record Held (s : List ℕ) : Type 0 where
  pub size : length s % 38 ≡ 0
  pub keys : block_of s ≡ some (map (key_no s) (span 0 (length s / 38)))
  pub rise : (j k : ℕ) → j < k → k < length s / 38 → below (key_no s j) (key_no s k) ≡ true

pub held : (s : List ℕ) → is_block (block_of s) ≡ true → Held s
held s h = go (block_of s) refl h
  where
    go : (x : Option (List Revision)) → block_of s ≡ x → is_block x ≡ true → Held s
    go none e k = let z : ◌≡◌ {A = ℕ} 0 1 = cc in absurd (omega arith)
    go (some ps) e k =
        let p = parts s ps e in
        let listed : ps ≡ map (key_no s) (span 0 (length s / 38)) = keys-listed s (length s / 38) 0 ps (omega (arith, p.size)) p.read in
        record {
          size = p.size;
          keys = e ∙ ap some listed;
          rise = λ j k l m. far (key_no s) (length s / 38) (λ i q. rising-at (key_no s) (length s / 38) 0 none (rw listed at p.order) i (omega arith) (omega arith)) k j l m;
        }
