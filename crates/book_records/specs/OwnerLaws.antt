-- The records of some owners, seen alone: a call of one of these answers and leaves what it would if nobody else had a record, and a call
-- of somebody else changes nothing of theirs.
-- Assumes nothing.
use Rattle.std.proofs.Math.Path.{◌≡◌, refl, ap}
use Rattle.std.proofs.Common.{sym, ◌∙◌, arith}
use Rattle.std.specs.Prelude.{Bool, ℕ, eqb}
use Rattle.std.proofs.Math.Bool.{true, false, cond}
use mathlib.Core.List.{List, [], ◌∷◌}
use Rattle.std.proofs.Math.Option.{Option, none, some}
use Rattle.text.specs.Order.{by, cmp}
use Rattle.text.specs.OrderLaws.{cmp-eq, Keys, key-lt, key-eq, key_gt, keys}
use Rattle.book_records.specs.Records.{Key, get, put, del, After, Sorted}
use Rattle.book_records.specs.RecordLaws.{after_trans}
use Rattle.book_records.specs.Act.{Rec, Meaning, refuses, writes, removes, looks, add_to, take_from, look_in, act, count_by, full_by}
use Rattle.book_records.specs.ActLaws.{key_meant, other-cost}

-- a key before all others is put in front
put_front : (s : List Rec) (k : Key) (v : List ℕ) → After k s → put s k v ≡ (k, v) ∷ s
unfolding put
put_front [] k v h = refl
put_front (r ∷ s) k v h = rw h.0

module _ (owner : Key → ℕ) (keep : ℕ → Bool) where
  -- the records of the owners that are kept
  unfoldable pub only : List Rec → List Rec
  only [] = []
  only (r ∷ s) = cond (keep (owner r.0)) (r ∷ only s) (only s)

  -- one key is not kept and let go
  clash : {A : Type 0} (k j : Key) → keep (owner k) ≡ true → keep (owner j) ≡ false → k ≡ j → A
  clash k j h e q = let z : ◌≡◌ {A = ℕ} 0 1 = ap (λ (b : Bool). cond b 0 1) (sym h ∙ ap (λ (x : Key). keep (owner x)) q ∙ e) in absurd (omega arith)

  pub after-only : (j : Key) (s : List Rec) → After j s → After j (only s)
  unfolding only
  after-only j [] h = tt
  after-only j (r ∷ s) h = go (keep (owner r.0)) (after-only j s h.1)
    where
      go : (b : Bool) → After j (only s) → After j (cond b (r ∷ only s) (only s))
      go true ih = (h.0, ih)
      go false ih = ih

  pub sorted-only : (s : List Rec) → Sorted s → Sorted (only s)
  unfolding only
  sorted-only [] h = tt
  sorted-only (r ∷ s) h = go (keep (owner r.0)) (sorted-only s h.1)
    where
      go : (b : Bool) → Sorted (only s) → Sorted (cond b (r ∷ only s) (only s))
      go true ih = (after-only r.0 s h.0, ih)
      go false ih = ih

  -- ---- what a key holds, and how many records an owner has
  pub get-only : (s : List Rec) (k : Key) → keep (owner k) ≡ true → get (only s) k ≡ get s k
  unfolding only get
  get-only [] k h = refl
  get-only (r ∷ s) k h = go (keep (owner r.0)) refl (keys k r.0) (get-only s k h)
    where
      go : (b : Bool) → keep (owner r.0) ≡ b → Keys k r.0 → get (only s) k ≡ get s k
          → get (cond b (r ∷ only s) (only s)) k ≡ by (cmp k r.0) (get s k) (some r.1) (get s k)
      go true e (key-lt w) ih = rw w ih
      go true e (key-eq w) ih = rw w
      go true e (key_gt w) ih = rw w ih
      go false e (key-lt w) ih = rw w ih
      go false e (key-eq w) ih = clash k r.0 h e (cmp-eq k r.0 w)
      go false e (key_gt w) ih = rw w ih

  pub count-only : (o : ℕ) (s : List Rec) → keep o ≡ true → count_by owner o (only s) ≡ count_by owner o s
  unfolding only count_by
  count-only o [] h = refl
  count-only o (r ∷ s) h = go (keep (owner r.0)) refl (count-only o s h)
    where
      go : (b : Bool) → keep (owner r.0) ≡ b → count_by owner o (only s) ≡ count_by owner o s → count_by owner o (cond b (r ∷ only s) (only s)) ≡ count_by owner o (r ∷ s)
      go true e ih = omega (arith, ih)
      go false e ih =
          let z = other-cost owner o r (λ q. let y : ◌≡◌ {A = ℕ} 0 1 = ap (λ (b : Bool). cond b 0 1) (sym h ∙ ap keep (sym q) ∙ e) in omega arith) in
          omega (arith, ih, z)

  -- ---- a key of theirs, and somebody else's
  put-own : (s : List Rec) (k : Key) (v : List ℕ) → Sorted s → keep (owner k) ≡ true → only (put s k v) ≡ put (only s) k v
  unfolding only put
  put-own [] k v o h = rw h
  put-own (r ∷ s) k v o h = go (keep (owner r.0)) refl (keys k r.0) (put-own s k v o.1 h)
    where
      go : (b : Bool) → keep (owner r.0) ≡ b → Keys k r.0 → only (put s k v) ≡ put (only s) k v
          → only (by (cmp k r.0) ((k, v) ∷ r ∷ s) ((k, v) ∷ s) (r ∷ put s k v)) ≡ put (cond b (r ∷ only s) (only s)) k v
      go true e (key-lt w) ih = rw (w, h, e)
      go true e (key-eq w) ih = rw (w, h)
      go true e (key_gt w) ih = rw (w, e, ih)
      go false e (key-lt w) ih = rw (w, h, e) (sym (put_front (only s) k v (after-only k s (after_trans k r.0 s w o.0))))
      go false e (key-eq w) ih = clash k r.0 h e (cmp-eq k r.0 w)
      go false e (key_gt w) ih = rw (w, e) ih

  put_other : (s : List Rec) (k : Key) (v : List ℕ) → keep (owner k) ≡ false → only (put s k v) ≡ only s
  unfolding only put
  put_other [] k v h = rw h
  put_other (r ∷ s) k v h = go (keys k r.0) (put_other s k v h)
    where
      go : Keys k r.0 → only (put s k v) ≡ only s → only (by (cmp k r.0) ((k, v) ∷ r ∷ s) ((k, v) ∷ s) (r ∷ put s k v)) ≡ cond (keep (owner r.0)) (r ∷ only s) (only s)
      go (key-lt w) ih = rw (w, h)
      go (key-eq w) ih = rw (w, h, ← cmp-eq k r.0 w, h)
      go (key_gt w) ih = rw (w, ih)

  del-own : (s : List Rec) (k : Key) → keep (owner k) ≡ true → only (del s k) ≡ del (only s) k
  unfolding only del
  del-own [] k h = refl
  del-own (r ∷ s) k h = go (keep (owner r.0)) refl (keys k r.0) (del-own s k h)
    where
      go : (b : Bool) → keep (owner r.0) ≡ b → Keys k r.0 → only (del s k) ≡ del (only s) k
          → only (by (cmp k r.0) (r ∷ del s k) s (r ∷ del s k)) ≡ del (cond b (r ∷ only s) (only s)) k
      go true e (key-lt w) ih = rw (w, e, ih)
      go true e (key-eq w) ih = rw w
      go true e (key_gt w) ih = rw (w, e, ih)
      go false e (key-lt w) ih = rw (w, e) ih
      go false e (key-eq w) ih = clash k r.0 h e (cmp-eq k r.0 w)
      go false e (key_gt w) ih = rw (w, e) ih

  del-other : (s : List Rec) (k : Key) → keep (owner k) ≡ false → only (del s k) ≡ only s
  unfolding only del
  del-other [] k h = refl
  del-other (r ∷ s) k h = go (keys k r.0) (del-other s k h)
    where
      go : Keys k r.0 → only (del s k) ≡ only s → only (by (cmp k r.0) (r ∷ del s k) s (r ∷ del s k)) ≡ cond (keep (owner r.0)) (r ∷ only s) (only s)
      go (key-lt w) ih = rw (w, ih)
      go (key-eq w) ih = rw (w, ← cmp-eq k r.0 w, h)
      go (key_gt w) ih = rw (w, ih)

  -- ---- calls
  module _ (quota : ℕ → ℕ) where
    abbrev full : Key → List Rec → Bool
    full = full_by owner quota

    -- a call of an owner that is kept, and of one that is not; one that is refused by its arguments is of both sorts
    abbrev pub Own : Meaning → Type 0
    Own m = (k : Key) → key_meant m ≡ some k → keep (owner k) ≡ true

    abbrev pub Other : Meaning → Type 0
    Other m = (k : Key) → key_meant m ≡ some k → keep (owner k) ≡ false

    same_full : (s : List Rec) (k : Key) → keep (owner k) ≡ true → full k (only s) ≡ full k s
    same_full s k h = ap (λ (n : ℕ). eqb n (quota (owner k))) (count-only (owner k) s h)

    pub own-act : (m : Meaning) (s : List Rec) → Sorted s → Own m → act full m (only s) ≡ ((act full m s).0, only (act full m s).1)
    unfolding act
    own-act (refuses n) s o h = refl
    own-act (writes k v) s o h = rw (get-only s k (h k refl), same_full s k (h k refl)) (go (get s k) (full k s))
      where
        go : (x : Option (List ℕ)) (f : Bool) → add_to x f (put (only s) k v) (only s) ≡ ((add_to x f (put s k v) s).0, only (add_to x f (put s k v) s).1)
        go (some u) f = rw (put-own s k v o (h k refl))
        go none true = refl
        go none false = rw (put-own s k v o (h k refl))
    own-act (removes k) s o h = rw (get-only s k (h k refl)) (go (get s k))
      where
        go : (x : Option (List ℕ)) → take_from x (del (only s) k) (only s) ≡ ((take_from x (del s k) s).0, only (take_from x (del s k) s).1)
        go none = refl
        go (some u) = rw (del-own s k (h k refl))
    own-act (looks k) s o h = rw (get-only s k (h k refl)) (go (get s k))
      where
        go : (x : Option (List ℕ)) → look_in x (only s) ≡ ((look_in x s).0, only (look_in x s).1)
        go none = refl
        go (some u) = refl

    pub other-act : (m : Meaning) (s : List Rec) → Other m → only (act full m s).1 ≡ only s
    unfolding act
    other-act (refuses n) s h = refl
    other-act (writes k v) s h = go (get s k) (full k s)
      where
        go : (x : Option (List ℕ)) (f : Bool) → only (add_to x f (put s k v) s).1 ≡ only s
        go (some u) f = put_other s k v (h k refl)
        go none true = refl
        go none false = put_other s k v (h k refl)
    other-act (removes k) s h = go (get s k)
      where
        go : (x : Option (List ℕ)) → only (take_from x (del s k) s).1 ≡ only s
        go none = refl
        go (some u) = del-other s k (h k refl)
    other-act (looks k) s h = go (get s k)
      where
        go : (x : Option (List ℕ)) → only (look_in x s).1 ≡ only s
        go none = refl
        go (some u) = refl
